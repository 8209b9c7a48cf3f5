-- For each class the length of the longest prefix that lies in it, 0 where there is none.
use Rattle.std.specs.Prelude.{ℕ, List, [], ◌∷◌, if◌then◌else◌, nat_lt}
use Rattle.inc_token.specs.Spellings.{nondigit_len, identifier_part, number_part, begins_number}
use Rattle.inc_token.specs.Scanning.{row_len, quoted_len, is_wide, wide_str_len}
use Rattle.inc_text.specs.declared.languages.Language.{Language}

abbrev pub identifier_len : Language → List ℕ → ℕ
identifier_len language text = if nat_lt 0 (nondigit_len language text) then row_len (identifier_part language) 0 text else 0

abbrev pub number_len : Language → List ℕ → ℕ
number_len language text = if begins_number text then row_len (number_part language) 0 text else 0

abbrev pub char_len : List ℕ → ℕ
char_len [] = 0
char_len (a ∷ bs) = if is_wide a then quoted_len 39 1 bs else quoted_len 39 0 (a ∷ bs)

abbrev pub str_len : List ℕ → ℕ
str_len [] = 0
str_len (a ∷ bs) = if is_wide a then wide_str_len a bs else quoted_len 34 0 (a ∷ bs)
