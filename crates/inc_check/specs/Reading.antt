-- How marks, costs and certificates are read: line by line, each without the LF that ends it.
use Rattle.std.specs.Prelude.{ℕ, ◌+◌, ◌-◌, ◌==◌, ◌&&◌, not, Bool, List, [], ◌∷◌, ◌++◌, Option, Some, None, if◌then◌else◌, length, take, drop, position, slice_index, nat_le, nat_lt, bytes_eq, codes, decimal, option_map}
use Rattle.std.specs.Char.{is_ascii_digit}
use Rattle.std.specs.List.{prefix_len}
use Rattle.std.specs.Str.Parse.{digits_value}
use Rattle.inc_text.specs.Ascii.{blank, colon, line_feed}
use Rattle.inc_lookup.specs.declared.listings.TheConstants.{LONGEST_PATH}
use Rattle.inc_graph.specs.Marks.{Cost, is_cost_amount}
use Rattle.inc_graph.specs.Marks.{Mark, is_mark}
use Rattle.inc_check.specs.Texts.{greatest_number, mark_line}
use Rattle.inc_check.specs.declared.ahead.TheConstants.{LONGEST_LINE}
use Rattle.inc_check.specs.declared.certificates.Certificate.{Certificate}
use Rattle.inc_check.specs.declared.certificates.CountedMarks.{CountedMarks}
use Rattle.inc_check.specs.declared.line_parts.ChainHead.{ChainHead}
use Rattle.inc_check.specs.declared.read_texts.Stage.{Stage}
use Rattle.inc_check.specs.declared.read_texts.Stage.TheVariants.{Start, Cut, Chains, Chain}

---- where lines end

-- the byte does not end a line
abbrev pub is_in_line : ℕ → Bool
is_in_line b = not (b == line_feed)

-- the byte is no space
abbrev pub is_in_word : ℕ → Bool
is_in_word b = not (b == blank)

---- what a line holds

-- the number that these digits write, if it is not too great
abbrev pub number_in : List ℕ → Option ℕ
number_in digits =
    let n : ℕ = digits_value 10 digits in if nat_le n greatest_number && bytes_eq (decimal n) digits then Some n else None

abbrev pub mark_with : Option ℕ → List ℕ → Option Mark
mark_with None path = None
mark_with (Some line) path =
    let m : Mark = record { path = path; line = line } in if is_mark m then Some m else None

abbrev pub mark_at_blank : List ℕ → Option ℕ → Option Mark
mark_at_blank line None = None
mark_at_blank line (Some k) = mark_with (number_in (take k line)) (drop (k + 1) line)

-- the mark that a line holds
abbrev pub mark_in : List ℕ → Option Mark
mark_in line = mark_at_blank line (position (λ b. b == blank) line)

---- a directive as compilers print it

-- the digits that a text begins with
abbrev pub front_digits : List ℕ → List ℕ
front_digits text = take (prefix_len is_ascii_digit text) text

-- the text begins with `DIGITS:`
abbrev pub begins_number : List ℕ → Bool
begins_number text =
    let n : ℕ = prefix_len is_ascii_digit text in nat_lt 0 n && (slice_index text n == colon)

-- where the first colon is, after so many bytes, behind which a text is so
abbrev pub colon_from : (is_behind : List ℕ → Bool) → (at : ℕ) → List ℕ → Option ℕ
colon_from is_behind at [] = None
colon_from is_behind at (b ∷ bs) = if b == colon && is_behind bs then Some at else colon_from is_behind (at + 1) bs

-- where the first `:DIGITS:` is, after so many bytes
abbrev pub place_from : (at : ℕ) → List ℕ → Option ℕ
place_from at line = colon_from begins_number at line

-- the path before that place, and the number there
abbrev pub mark_at_place : List ℕ → Option ℕ → Option Mark
mark_at_place line None = None
mark_at_place line (Some n) = mark_with (number_in (front_digits (drop (n + 1) line))) (take n line)

-- the mark of a line `PATH:LINE:`, whatever is behind it
abbrev pub placed_mark : List ℕ → Option Mark
placed_mark line = mark_at_place line (place_from 0 line)

abbrev pub or_placed : Option Mark → List ℕ → Option Mark
or_placed (Some m) line = Some m
or_placed None line = placed_mark line

-- the mark of a line, which is taken as `LINE PATH` where it is that
abbrev pub listed_mark : List ℕ → Option Mark
listed_mark line = or_placed (mark_in line) line

---- a line of a certificate

-- the mark, if a certificate may hold it
abbrev pub short_mark : Option Mark → Option Mark
short_mark None = None
short_mark (Some m) = if nat_le (length m.path) LONGEST_PATH then Some m else None

-- the mark that a line of a certificate holds, which is no longer than one that is read whole
abbrev pub short_mark_in : List ℕ → Option Mark
short_mark_in line = if nat_le (length line) LONGEST_LINE then short_mark (listed_mark line) else None

-- a line that holds this mark, as `LINE PATH`, or else the line
abbrev pub plain_by : Option Mark → List ℕ → List ℕ
plain_by None line = line
plain_by (Some m) line = mark_line m

-- a line of a certificate, as it is printed
abbrev pub plain_line : List ℕ → List ℕ
plain_line line = plain_by (short_mark_in line) line

---- costs and heads

abbrev pub cost_with : Option ℕ → Option Mark → Option Cost
cost_with (Some amount) (Some mark) =
    let c : Cost = record { mark = mark; amount = amount } in if is_cost_amount amount then Some c else None
cost_with _ _ = None

abbrev pub cost_at_blank : List ℕ → Option ℕ → Option Cost
cost_at_blank line None = None
cost_at_blank line (Some k) = cost_with (number_in (take k line)) (mark_in (drop (k + 1) line))

-- the cost that a line holds
abbrev pub cost_in : List ℕ → Option Cost
cost_in line = cost_at_blank line (position (λ b. b == blank) line)

-- the number after a word
abbrev pub number_behind : List ℕ → List ℕ → Option ℕ
number_behind word text = if bytes_eq (take (length word) text) word then number_in (drop (length word) text) else None

abbrev pub head_of : (length count : Option ℕ) → Option ChainHead
head_of (Some n) (Some k) = if nat_lt 1 k then Some (record { length = n; count = k }) else None
head_of _ _ = None

abbrev pub head_at_blank : List ℕ → Option ℕ → Option ChainHead
head_at_blank text None = option_map (λ n. record { length = n; count = 1 }) (number_in text)
head_at_blank text (Some k) = head_of (number_in (take k text)) (number_behind (codes " times ") (drop k text))

-- how many directives a chain has, and how often it counts
abbrev pub head_in : List ℕ → Option ChainHead
head_in line =
    if bytes_eq (take 6 line) (codes "chain ") then head_at_blank (drop 6 line) (position (λ b. b == blank) (drop 6 line)) else None

---- a certificate, as far as it is read

pub record State : Type 0 where
  pub stage : Stage
  pub cut : List Mark
  pub chains : List CountedMarks
  pub marks : List Mark
  pub count : ℕ
  pub marks_left : ℕ
  pub chains_left : ℕ

abbrev pub start : State
start = record { stage = Start; cut = []; chains = []; marks = []; count = 0; marks_left = 0; chains_left = 0 }

-- the chains, the one that is being read with them
abbrev pub closed_by : Stage → State → List CountedMarks
closed_by Chain s = s.chains ++ record { count = s.count; marks = s.marks } ∷ []
closed_by _ s = s.chains

abbrev pub closed : State → List CountedMarks
closed s = closed_by s.stage s

abbrev pub with_mark : State → Option Mark → Option State
with_mark s None = None
with_mark s (Some m) = Some (record s { marks = s.marks ++ m ∷ []; marks_left = s.marks_left - 1 })

abbrev pub with_cut : State → Option ℕ → Option State
with_cut s None = None
with_cut s (Some n) = Some (record s { stage = Cut; marks_left = n })

abbrev pub with_chains : State → Option ℕ → Option State
with_chains s None = None
with_chains s (Some n) = Some (record s { stage = Chains; cut = s.marks; marks = []; chains_left = n })

abbrev pub with_chain : State → Option ChainHead → Option State
with_chain s None = None
with_chain s (Some h) =
    Some (record s { stage = Chain; chains = closed s; marks = []; count = h.count; marks_left = h.length; chains_left = s.chains_left - 1 })

-- one more chain, where one is left
abbrev pub with_next : State → List ℕ → Option State
with_next s line = if nat_lt 0 s.chains_left then with_chain s (head_in line) else None

abbrev pub with_head : Stage → State → List ℕ → Option State
with_head Start s line = with_cut s (number_behind (codes "cut ") line)
with_head Cut s line = with_chains s (number_behind (codes "chains ") line)
with_head Chains s line = with_next s line
with_head Chain s line = with_next s line

-- one line on, if it fits
abbrev pub step : State → List ℕ → Option State
step s line = if nat_lt 0 s.marks_left then with_mark s (short_mark_in line) else with_head s.stage s line

abbrev pub whole_by : Stage → State → Option Certificate
whole_by Start s = None
whole_by Cut s = None
whole_by _ s =
    if s.marks_left == 0 && (s.chains_left == 0) then Some (record { cut = s.cut; chains = closed s }) else None

-- the certificate, where all of it is read
abbrev pub whole : State → Option Certificate
whole s = whole_by s.stage s
