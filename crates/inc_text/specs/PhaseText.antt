-- Translation phases 1 and 2 (ISO/IEC 9899:2018, 5.1.1.2 and 5.2.1.1): the text that is left once trigraphs are
-- replaced and lines are spliced. Each step is a map on the whole list. A byte is a number, LF is 10.
-- Choices of this profile: the byte order mark, CR LF, and the new-line that is added at the end. GNU C has no trigraphs, and splices
-- with white space in them.
use Rattle.std.specs.Prelude.{ℕ, zero, suc, ◌+◌, ◌==◌, ◌&&◌, ◌||◌, Bool, List, [], ◌∷◌, if◌then◌else◌, drop, length, map, count_by, nat_lt}
use Rattle.inc_text.specs.Ascii.{apostrophe, backslash, blank, caret, carriage_return, close_brace, close_bracket, close_parenthesis, equals, exclamation_mark, form_feed, greater_than, hash, less_than, line_feed, minus, open_brace, open_bracket, open_parenthesis, question_mark, slash, tab, tilde, vertical_bar, vertical_tab}
use Rattle.inc_text.specs.Languages.{is_gnu}
use Rattle.inc_text.specs.declared.devices.TheConstants.{LONGEST_FILE}
use Rattle.inc_text.specs.declared.languages.Language.{Language}
use Rattle.inc_text.specs.declared.languages.Language.TheVariants.{Gnu}

-- a byte of the text, the source bytes that it stands for (from first up to last, last excluded), and their physical line
pub record Cell : Type 0 where
  pub byte : ℕ
  pub first : ℕ
  pub last : ℕ
  pub line : ℕ

-- the bytes of a text
abbrev pub bytes_of : List Cell → List ℕ
bytes_of cells = map (λ (c : Cell). c.byte) cells

-- each byte of a source for itself, the first of them at place `at` on physical line `line`
abbrev pub cells_from : ℕ → ℕ → List ℕ → List Cell
cells_from at line [] = []
cells_from at line (b ∷ bs) =
    record { byte = b; first = at; last = at + 1; line = line } ∷ cells_from (at + 1) (if b == line_feed then line + 1 else line) bs

-- one byte that stands for all from a to b
abbrev pub joined : ℕ → Cell → Cell → Cell
joined byte a b = record { byte = byte; first = a.first; last = b.last; line = a.line }

-- without the byte order mark EF BB BF at the start
abbrev pub without_mark : List Cell → List Cell
without_mark (a ∷ b ∷ c ∷ rest) =
    if (a.byte == 0xef) && (b.byte == 0xbb) && (c.byte == 0xbf) then rest else a ∷ b ∷ c ∷ rest
without_mark cells = cells

-- with one LF for each CR LF
abbrev pub with_new_lines : List Cell → List Cell
with_new_lines (a ∷ b ∷ rest) =
    if (a.byte == carriage_return) && (b.byte == line_feed) then joined line_feed a b ∷ with_new_lines rest else a ∷ with_new_lines (b ∷ rest)
with_new_lines cells = cells

-- what `??` and this byte are replaced by: = ( / ) ' < ! > - give # [ \ ] ^ { | } ~; 0 where that is no trigraph, as none is in GNU C
abbrev pub trigraph : Language → ℕ → ℕ
trigraph Gnu c = 0
trigraph _ c =
    if c == equals then hash else
    if c == open_parenthesis then open_bracket else
    if c == slash then backslash else
    if c == close_parenthesis then close_bracket else
    if c == apostrophe then caret else
    if c == less_than then open_brace else
    if c == exclamation_mark then vertical_bar else
    if c == greater_than then close_brace else
    if c == minus then tilde else 0

abbrev pub is_trigraph : Language → ℕ → ℕ → ℕ → Bool
is_trigraph language a b c = (a == question_mark) && (b == question_mark) && nat_lt 0 (trigraph language c)

-- with trigraphs replaced, from left to right
abbrev pub with_trigraphs : Language → List Cell → List Cell
with_trigraphs language (a ∷ b ∷ c ∷ rest) =
    if is_trigraph language a.byte b.byte c.byte then joined (trigraph language c.byte) a c ∷ with_trigraphs language rest
    else a ∷ with_trigraphs language (b ∷ c ∷ rest)
with_trigraphs language cells = cells

-- white space that may be between the `\` and the new-line of a splice: space, HT, VT and FF, in GNU C alone
abbrev pub is_passed : Language → ℕ → Bool
is_passed language b = is_gnu language && ((b == blank) || (b == tab) || (b == vertical_tab) || (b == form_feed))

-- one more than some
abbrev pub one_more : ℕ → ℕ
one_more zero = zero
one_more (suc n) = suc (suc n)

-- how many cells a new-line has with such white space before it; 0 where the cells begin otherwise
abbrev pub end_cells : Language → List Cell → ℕ
end_cells language [] = 0
end_cells language (a ∷ rest) =
    if a.byte == line_feed then 1 else if is_passed language a.byte then one_more (end_cells language rest) else 0

-- without each `\` that a new-line follows, what may be between them, and that new-line, in one pass
abbrev pub spliced : Language → List Cell → List Cell
spliced language [] = []
spliced language (a ∷ rest) =
    if (a.byte == backslash) && nat_lt 0 (end_cells language rest) then drop (end_cells language rest) (spliced language rest)
    else a ∷ spliced language rest

-- with the LF `end` at the end, unless the text is empty or ends in LF
abbrev pub ended_by : Cell → List Cell → List Cell
ended_by end [] = []
ended_by end (a ∷ []) = if a.byte == line_feed then a ∷ [] else a ∷ end ∷ []
ended_by end (a ∷ b ∷ rest) = a ∷ ended_by end (b ∷ rest)

-- an LF that stands for no byte, at the end of a source
abbrev pub added_new_line : List ℕ → Cell
added_new_line source =
    record { byte = line_feed; first = length source; last = length source; line = 1 + count_by (λ b. b == line_feed) source }

-- the text of a source
abbrev pub phase_text : Language → List ℕ → List Cell
phase_text language source =
    ended_by (added_new_line source) (spliced language (with_trigraphs language (with_new_lines (without_mark (cells_from 0 1 source)))))

-- a text has at most one byte more than its source: the LF that is missing at the source's end
abbrev pub longest_text : ℕ
longest_text = LONGEST_FILE + 1

-- a source of more than 2^24 bytes is refused
abbrev pub is_too_long : List ℕ → Bool
is_too_long source = nat_lt LONGEST_FILE (length source)

-- where a byte comes from: its source bytes and their line
abbrev pub range_and_line : Cell → ℕ × ℕ × ℕ
range_and_line c = (c.first, c.last, c.line)

-- where a byte begins: its first source byte and its line
abbrev pub first_and_line : Cell → ℕ × ℕ
first_and_line c = (c.first, c.line)
