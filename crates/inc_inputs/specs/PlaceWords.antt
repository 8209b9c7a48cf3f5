-- How the words for places end: in a line, `GLOB:LINE`, or in a name as it stands behind `#include`, `GLOB:NAME`.
use Rattle.std.specs.Prelude.{ℕ, ◌-◌, ◌==◌, ◌&&◌, ◌||◌, not, Bool, List, Option, drop, length, nat_lt, slice_index}
use Rattle.std.specs.Char.{is_ascii_alphanumeric, is_ascii_digit}
use Rattle.std.specs.List.{prefix_len}
use Rattle.inc_text.specs.Ascii.{blank, close_parenthesis, greater_than, less_than, open_parenthesis, quotation_mark, tab, underscore}
use Rattle.inc_check.specs.Reading.{colon_from}
use Rattle.inc_inputs.specs.declared.place_words.WordEnd.{WordEnd}
use Rattle.inc_inputs.specs.declared.place_words.WordEnd.TheVariants.{Line, Name}

---- a line

-- one digit or more, and nothing else
abbrev pub is_number : List ℕ → Bool
is_number text = let n : ℕ = prefix_len is_ascii_digit text in nat_lt 0 n && (n == length text)

---- a name

-- the text begins and ends with these bytes
abbrev pub is_between : (first last : ℕ) → List ℕ → Bool
is_between first last text = nat_lt 1 (length text) && (slice_index text 0 == first) && (slice_index text (length text - 1) == last)

abbrev pub is_name_byte : ℕ → Bool
is_name_byte b = is_ascii_alphanumeric b || (b == underscore)

abbrev pub is_space : ℕ → Bool
is_space b = (b == blank) || (b == tab)

-- without the white space that comes first
abbrev pub unspaced : List ℕ → List ℕ
unspaced text = drop (prefix_len is_space text) text

-- a name of a macro, or a call of one with all of its arguments
abbrev pub is_call : List ℕ → Bool
is_call text =
    let n : ℕ = prefix_len is_name_byte text in
    nat_lt 0 n && not (is_ascii_digit (slice_index text 0)) && ((n == length text) || is_between open_parenthesis close_parenthesis (unspaced (drop n text)))

-- what may stand behind #include
abbrev pub is_name : List ℕ → Bool
is_name text = is_between quotation_mark quotation_mark text || is_between less_than greater_than text || is_call text

---- a word

-- what may end a word
abbrev pub is_end : WordEnd → List ℕ → Bool
is_end Line = is_number
is_end Name = is_name

-- where the colon is before the line that a word ends in, if it ends in one
abbrev pub line_colon : (word : List ℕ) → Option ℕ
line_colon word = colon_from (is_end Line) 0 word

-- where the colon is before the name that a word ends in, if it ends in one
abbrev pub name_colon : (word : List ℕ) → Option ℕ
name_colon word = colon_from (is_end Name) 0 word
