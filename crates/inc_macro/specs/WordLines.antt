-- Macros by the first line of a text, and the lines of several words.
use Rattle.std.specs.Prelude.{ℕ, ◌<◌, ◌≡◌, ◌==◌, ◌&&◌, ◌||◌, not, Bool, List, [], ◌∷◌, ◌++◌, Result, if◌then◌else◌, length, nat_le}
use Rattle.std.specs.List.{list_all}
use Rattle.inc_text.specs.Ascii.{backslash, carriage_return, line_feed, question_mark, slash}
use Rattle.inc_text.specs.PhaseText.{Cell}
use Rattle.inc_token.specs.TokenLines.{Tok, token_lines}
use Rattle.inc_macro.specs.declared.faults.DefineFault.{DefineFault}
use Rattle.inc_macro.specs.declared.definition_words.TheConstants.{LONGEST_PLAIN}
use Rattle.inc_macro.specs.Macros.{Table, define, define_word, tokens_or_bad, word_text}
use Rattle.inc_macro.specs.Results.{◌>>=◌}

-- the table after a line that stands for a definition
abbrev pub define_line : List Cell → Table → Result Table DefineFault
define_line cells table = do
  tokens ← tokens_or_bad (token_lines table.language cells)
  define tokens table

-- a byte that stands for itself, and neither ends its line nor begins a comment; the first of a byte order mark is none
abbrev pub is_plain_byte : ℕ → Bool
is_plain_byte b = not ((b == line_feed) || (b == carriage_return) || (b == question_mark) || (b == backslash) || (b == slash) || (b == 0xef))

-- a word of such bytes that is not too long
abbrev pub is_plain : List ℕ → Bool
is_plain word = nat_le (length word) LONGEST_PLAIN && list_all is_plain_byte word

-- the line of a word, which is empty where its text might not be read as it is by itself
abbrev pub line_text : List ℕ → List ℕ
line_text word = if is_plain word then word_text word else []

-- the lines of words
abbrev pub word_lines : List (List ℕ) → List ℕ
word_lines [] = []
word_lines (word ∷ words) = line_text word ++ line_feed ∷ word_lines words

-- tokens that define what a word does, if there are any
abbrev pub StandFor : List Tok → List ℕ → Table → Type 0
StandFor tokens word table = 0 < length tokens → define tokens table ≡ define_word word table
