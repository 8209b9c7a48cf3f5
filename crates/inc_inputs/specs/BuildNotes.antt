-- Notes of one sort, a line more at a time: what is kept of them.
use Rattle.std.specs.Prelude.{ℕ, suc, ◌-◌, List, [], ◌∷◌, ◌++◌, if◌then◌else◌, nat_lt}
use Rattle.inc_inputs.specs.BuildReports.{more_line}
use Rattle.inc_inputs.specs.Reports.{note_line}

pub record Kept : Type 0 where
  -- the first ten lines
  pub text : List ℕ
  -- how many there are
  pub count : ℕ

abbrev pub none : Kept
none = record { text = []; count = 0 }

abbrev pub with_line : Kept → List ℕ → Kept
with_line k line = record { text = if nat_lt k.count 10 then k.text ++ note_line line else k.text; count = suc k.count }

abbrev pub with_lines : Kept → List (List ℕ) → Kept
with_lines k [] = k
with_lines k (line ∷ lines) = with_lines (with_line k line) lines

abbrev pub whole : Kept → List ℕ
whole k = k.text ++ (if nat_lt 10 k.count then note_line (more_line (k.count - 10)) else [])
