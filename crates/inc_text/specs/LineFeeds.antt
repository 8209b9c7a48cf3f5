-- The bytes of lines.
use Rattle.std.specs.Prelude.{ℕ, ◌==◌, Bool, List, count_by, not, take}
use Rattle.inc_text.specs.Ascii.{line_feed}

-- a byte ends no line
abbrev pub is_inside : ℕ → Bool
is_inside b = not (b == line_feed)

-- how many LFs are before a place
abbrev pub line_feeds_to : ℕ → List ℕ → ℕ
line_feeds_to at bytes = count_by (λ b. b == line_feed) (take at bytes)
