-- What the steps of blanking give.
use Rattle.std.specs.Prelude.{◌≡◌, ◌==◌, ℕ, ◌≤◌, Bool, List, [], ◌∷◌, Some, if◌then◌else◌, slice_get}
use Rattle.std.specs.List.{list_any}
use Rattle.inc_text.specs.Flags.{flag_at}
use Rattle.inc_token.specs.Blanking.{Range, blanked_from, line_range}
use Rattle.inc_token.specs.TokenLines.{Tok, TokenLine}

-- the physical line that the first token stands on, 0 where there is none
abbrev pub begin_line : List Tok → ℕ
begin_line [] = 0
begin_line (t ∷ ts) = t.line

-- no line of tokens begins on a later physical line
abbrev pub BeginUpTo : ℕ → List TokenLine → Type 0
BeginUpTo last ls = (i : ℕ) (l : TokenLine) → slice_get ls i ≡ Some l → begin_line l.tokens ≤ last

-- up to a physical line the flags say which are in the list
abbrev pub AreMarks : List ℕ → ℕ → List Bool → Type 0
AreMarks lines last marks = (n : ℕ) → n ≤ last → flag_at marks n ≡ list_any (λ k. k == n) lines

-- the bytes in one range blanked
abbrev pub with_blank : Range → List ℕ → List ℕ
with_blank r bytes = blanked_from 0 (r ∷ []) bytes

-- the bytes once a line is looked at
abbrev pub line_blanked : List Bool → List Tok → List ℕ → List ℕ
line_blanked marks ts bytes = if flag_at marks (begin_line ts) then with_blank (line_range ts) bytes else bytes
