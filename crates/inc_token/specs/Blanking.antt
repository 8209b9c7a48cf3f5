-- A source with lines of tokens blanked: every byte but LF, from the first byte of the first token of such a line to the last
-- byte of its last, is a space. Comments before and after stay, and those between go.
use Rattle.std.specs.Prelude.{ℕ, ◌+◌, ◌==◌, ◌&&◌, Bool, false, List, [], ◌∷◌, if◌then◌else◌, nat_le, nat_lt, map, filter}
use Rattle.std.specs.List.{list_any}
use Rattle.inc_text.specs.Ascii.{blank, line_feed}
use Rattle.inc_token.specs.TokenLines.{Tok, TokenLine}

-- source bytes from first up to last, last excluded
pub record Range : Type 0 where
  pub first : ℕ
  pub last : ℕ

-- where the last token ends
abbrev pub end_of : ℕ → List Tok → ℕ
end_of last [] = last
end_of last (t ∷ ts) = end_of t.last ts

-- from the first byte of the first token to the last of the last
abbrev pub line_range : List Tok → Range
line_range [] = record { first = 0; last = 0 }
line_range (t ∷ ts) = record { first = t.first; last = end_of t.last ts }

-- the place lies in the range
abbrev pub is_in : ℕ → Range → Bool
is_in i r = nat_le r.first i && nat_lt i r.last

-- a space, or LF where that is the byte
abbrev pub blank_byte : ℕ → ℕ
blank_byte b = if b == line_feed then b else blank

-- the bytes from place i on, those in the ranges blanked
abbrev pub blanked_from : ℕ → List Range → List ℕ → List ℕ
blanked_from i ranges [] = []
blanked_from i ranges (b ∷ bs) = (if list_any (is_in i) ranges then blank_byte b else b) ∷ blanked_from (i + 1) ranges bs

-- the ranges of the lines that pass the test
abbrev pub ranges_of : (List Tok → Bool) → List TokenLine → List Range
ranges_of test ls = map (λ (l : TokenLine). line_range l.tokens) (filter (λ (l : TokenLine). test l.tokens) ls)

-- a source with the lines that pass the test blanked
abbrev pub blanked_lines : (List Tok → Bool) → List TokenLine → List ℕ → List ℕ
blanked_lines test ls source = blanked_from 0 (ranges_of test ls) source

-- the first token stands on one of these physical lines
abbrev pub begins_on : (lines : List ℕ) → List Tok → Bool
begins_on lines [] = false
begins_on lines (t ∷ ts) = list_any (λ n. n == t.line) lines

-- a source with each line blanked whose first token stands on one of these physical lines
abbrev pub blanked : (remove : List ℕ) → List TokenLine → List ℕ → List ℕ
blanked remove ls source = blanked_lines (begins_on remove) ls source
