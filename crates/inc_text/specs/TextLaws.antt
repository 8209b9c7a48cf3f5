-- What holds of the text of every source.
use Rattle.std.specs.Prelude.{ℕ, ◌+◌, ◌≤◌, ◌==◌, List, [], ◌∷◌, if◌then◌else◌}
use Rattle.inc_text.specs.Ascii.{line_feed}
use Rattle.inc_text.specs.PhaseText.{Cell}

-- the first physical line on which what is after the cell may begin: after LF it is a later one
abbrev pub line_behind : Cell → ℕ
line_behind c = if c.byte == line_feed then c.line + 1 else c.line

-- the lines of cells are this one or later ones, never fall, and rise after each LF
abbrev pub AreLinesFrom : ℕ → List Cell → Type 0
AreLinesFrom line [] = Unit {0}
AreLinesFrom line (c ∷ cs) = (line ≤ c.line) × AreLinesFrom (line_behind c) cs
