-- The texts of marks, costs and certificates: what is printed of them, and what is read.
use Rattle.std.specs.Prelude.{◌≡◌, ℕ, Option, Some, None, ◌+◌, ◌-◌, ◌<◌, ◌≤◌, ◌==◌, ◌&&◌, not, Bool, List, [], ◌∷◌, ◌++◌, if◌then◌else◌, length, map, take, nat_le, nat_lt, codes, decimal, flat_map, count_by, slice_index, IsTrue}
use Rattle.std.specs.List.{list_all}
use Rattle.inc_text.specs.Ascii.{blank, carriage_return, line_feed}
use Rattle.inc_lookup.specs.declared.listings.TheConstants.{LONGEST_PATH}
use Rattle.inc_graph.specs.Marks.{Cost, is_cost_amount}
use Rattle.inc_graph.specs.Marks.{Mark, is_mark}
use Rattle.inc_check.specs.declared.certificates.Certificate.{Certificate}
use Rattle.inc_check.specs.declared.certificates.CountedMarks.{CountedMarks}

---- lines: numbers are decimal without leading zeros, and each line ends with LF

-- a text, and the LF that ends its line
abbrev pub line_text : List ℕ → List ℕ
line_text text = text ++ line_feed ∷ []

-- a word, a space and a number
abbrev pub count_line : List ℕ → ℕ → List ℕ
count_line word n = word ++ blank ∷ decimal n

-- a directive: its line, a space and the path of its file
abbrev pub mark_line : Mark → List ℕ
mark_line m = decimal m.line ++ blank ∷ m.path

-- lines, each ended
abbrev pub lines_text : List (List ℕ) → List ℕ
lines_text lines = flat_map line_text lines

---- marks and certificates, by their lines

abbrev pub mark_lines : List Mark → List (List ℕ)
mark_lines ms = map mark_line ms

-- how often a chain counts, where that is not once
abbrev pub times_text : (count : ℕ) → List ℕ
times_text count = if count == 1 then [] else codes " times " ++ decimal count

-- a chain and how often it counts
abbrev pub chain_lines : CountedMarks → List (List ℕ)
chain_lines k = (count_line (codes "chain") (length k.marks) ++ times_text k.count) ∷ mark_lines k.marks

-- a cut: how many directives it has, and each
abbrev pub cut_lines : List Mark → List (List ℕ)
cut_lines ms = count_line (codes "cut") (length ms) ∷ mark_lines ms

-- how many chains there are, and each
abbrev pub chains_lines : List CountedMarks → List (List ℕ)
chains_lines chains = count_line (codes "chains") (length chains) ∷ flat_map chain_lines chains

abbrev pub certificate_lines : Certificate → List (List ℕ)
certificate_lines c = cut_lines c.cut ++ chains_lines c.chains

abbrev pub marks_text : List Mark → List ℕ
marks_text ms = lines_text (mark_lines ms)

-- a cost: the amount, and the directive
abbrev pub cost_line : Cost → List ℕ
cost_line c = decimal c.amount ++ blank ∷ mark_line c.mark

abbrev pub cost_lines : List Cost → List (List ℕ)
cost_lines costs = map cost_line costs

abbrev pub costs_text : List Cost → List ℕ
costs_text costs = lines_text (cost_lines costs)

-- the cut, then the chains
abbrev pub certificate_text : Certificate → List ℕ
certificate_text c = lines_text (certificate_lines c)

---- what is read

-- the greatest number that a text may hold
abbrev pub greatest_number : ℕ
greatest_number = 4_294_967_295

-- a mark that a text may hold
abbrev pub is_small_mark : Mark → Bool
is_small_mark m = is_mark m && nat_le m.line greatest_number

-- a mark that a certificate may hold: its path is no longer than that of a file may be
abbrev pub is_short_mark : Mark → Bool
is_short_mark m = is_small_mark m && nat_le (length m.path) LONGEST_PATH

abbrev pub are_short_marks : List Mark → Bool
are_short_marks ms = list_all is_short_mark ms

-- a list that a certificate may hold
abbrev pub is_small_list : List Mark → Bool
is_small_list ms = are_short_marks ms && nat_le (length ms) greatest_number

-- a chain that a certificate may hold, counted at least once
abbrev pub is_small_chain : CountedMarks → Bool
is_small_chain k = is_small_list k.marks && (nat_lt 0 k.count && nat_le k.count greatest_number)

-- a cost that a text may hold
abbrev pub is_small_cost : Cost → Bool
is_small_cost c = is_cost_amount c.amount && is_small_mark c.mark

-- the text is that of these marks
pub record IsMarksText (text : List ℕ) (ms : List Mark) : Type 0 where
  pub same : marks_text ms ≡ text
  pub small : IsTrue (list_all is_small_mark ms)

-- the text is that of these costs
pub record IsCostsText (text : List ℕ) (costs : List Cost) : Type 0 where
  pub same : costs_text costs ≡ text
  pub small : IsTrue (list_all is_small_cost costs)

-- texts of a format
abbrev pub Format : Type 1
Format = List ℕ → Type 0

abbrev pub MarksFormat : Format
MarksFormat text = (ms : List Mark) × IsMarksText text ms

abbrev pub CostsFormat : Format
CostsFormat text = (costs : List Cost) × IsCostsText text costs

-- something can follow that makes it a text of the format
abbrev pub Begins : Format → List ℕ → Type 0
Begins F text = (rest : List ℕ) × F (text ++ rest)

-- how many LF a text has
abbrev pub line_feeds : List ℕ → ℕ
line_feeds text = count_by (λ b. b == line_feed) text

-- no line holds LF
abbrev pub AreClean : List (List ℕ) → Type 0
AreClean [] = Unit {0}
AreClean (l ∷ ls) = (line_feeds l ≡ 0) × AreClean ls

-- the input is no text of the format, and this is the line where it breaks off: 1 and the most LF of a part of it, from its front,
-- that begins a text of the format
pub record IsMalformed (F : Format) (input : List ℕ) (line : ℕ) : Type 0 where
  -- the input is no text of the format
  pub refused : ¬ F input
  -- its longest front that begins one, up to line feeds: no longer front has more of them
  pub good : ℕ
  pub fits : good ≤ length input
  pub begins : Begins F (take good input)
  -- the line after that front
  pub line_is : line ≡ 1 + line_feeds (take good input)
  pub most : (n : ℕ) → n ≤ length input → Begins F (take n input) → line_feeds (take n input) ≤ line_feeds (take good input)

-- where an input is malformed, its longest part, from its front, that begins a text has the LF before that line
abbrev pub IsOfLongest : Format → Type 0
IsOfLongest F =
    (input : List ℕ) (line n : ℕ) → IsMalformed F input line → n ≤ length input → Begins F (take n input)
    → ((m : ℕ) → n < m → m ≤ length input → ¬ Begins F (take m input)) → line ≡ 1 + line_feeds (take n input)

---- texts that come from a source

-- P holds of all bytes of the source, or of some where they are not known
abbrev pub OfBytes : (left : Option (List ℕ)) → (List ℕ → Type 0) → Type 0
OfBytes (Some text) P = P text
OfBytes None P = (text : List ℕ) × P text

---- lists as they are written by hand

-- a CR before LF
abbrev pub begins_return : List ℕ → Bool
begins_return bs = slice_index bs 0 == carriage_return && (slice_index bs 1 == line_feed)

-- without each CR before LF
abbrev pub without_returns : List ℕ → List ℕ
without_returns [] = []
without_returns (b ∷ bs) =
    let rest : List ℕ = without_returns bs in if begins_return (b ∷ bs) then rest else b ∷ rest

-- the last line is not ended
abbrev pub is_open : List ℕ → Bool
is_open text = not (length text == 0) && not (slice_index text (length text - 1) == line_feed)

-- each line ended by LF alone
abbrev pub whole_lines : List ℕ → List ℕ
whole_lines text =
    let lines : List ℕ = without_returns text in if is_open text then lines ++ line_feed ∷ [] else lines
