-- What the functions of the scanner compute, each from the front of a text, with 0 for a length where there is nothing of
-- its kind. `piece_at` is proved to be what the definition says.
use Rattle.std.specs.Prelude.{ℕ, zero, suc, ◌-◌, ◌==◌, ◌&&◌, ◌||◌, not, Bool, true, false, List, [], ◌∷◌, if◌then◌else◌, drop, nat_lt}
use Rattle.std.specs.List.{list_any, prefix_len}
use Rattle.inc_text.specs.Ascii.{ampersand, apostrophe, asterisk, backslash, capital_l, capital_u, caret, close_brace, close_bracket, close_parenthesis, colon, comma, digit_eight, equals, exclamation_mark, full_stop, greater_than, hash, less_than, line_feed, minus, open_brace, open_bracket, open_parenthesis, percent, plus, question_mark, quotation_mark, semicolon, slash, small_u, tilde, vertical_bar}
use Rattle.inc_token.specs.declared.kinds.Kind.{Kind}
use Rattle.inc_token.specs.declared.kinds.Kind.TheVariants.{HeaderName, Identifier, Number, Char, Str, Punct, Other}
use Rattle.inc_token.specs.declared.pieces.Piece.{Piece}
use Rattle.inc_token.specs.declared.pieces.Piece.TheVariants.{NewLine, Lexeme}
use Rattle.inc_token.specs.declared.pieces.Progress.{Progress}
use Rattle.inc_token.specs.declared.pieces.Progress.TheVariants.{AfterInclude}
use Rattle.inc_token.specs.TokenLines.{block_comment, line_comment}
use Rattle.inc_token.specs.Spellings.{begins_nondigit, is_digit, is_letter, identifier_part, number_part, is_empty, punctuators}
use Rattle.inc_text.specs.Languages.{is_gnu}
use Rattle.inc_text.specs.declared.languages.Language.{Language}

-- the length of the longest row of parts at the front; `left` is what is left of a part that began before
abbrev pub row_len : (List ℕ → ℕ) → ℕ → List ℕ → ℕ
row_len part left [] = 0
row_len part (suc left) (b ∷ bs) = suc (row_len part left bs)
row_len part zero (b ∷ bs) = if nat_lt 0 (part (b ∷ bs)) then suc (row_len part (part (b ∷ bs) - 1) bs) else 0

-- + or - is at the front
abbrev pub begins_with_sign : List ℕ → Bool
begins_with_sign [] = false
begins_with_sign (b ∷ bs) = (b == plus) || (b == minus)

-- the length of a literal of which n bytes are known, up to its closing quote and with it
abbrev pub closed_at : ℕ → Bool → ℕ → List ℕ → ℕ
closed_at quote escaped n [] = 0
closed_at quote true n (b ∷ bs) = if b == line_feed then 0 else closed_at quote false (suc n) bs
closed_at quote false n (b ∷ bs) = if b == quote then suc n else if b == line_feed then 0 else closed_at quote (b == backslash) (suc n) bs

-- u, U or L
abbrev pub is_wide : ℕ → Bool
is_wide b = (b == small_u) || (b == capital_u) || (b == capital_l)

-- the length of the quote, the items and the quote at the front, n bytes after the literal's beginning
abbrev pub quoted_len : ℕ → ℕ → List ℕ → ℕ
quoted_len quote n [] = 0
quoted_len quote n (b ∷ bs) = if b == quote then closed_at quote false (suc n) bs else 0

-- the length of a string literal whose first byte a is u, U or L
abbrev pub wide_str_len : ℕ → List ℕ → ℕ
wide_str_len a [] = 0
wide_str_len a (b ∷ bs) = if (a == small_u) && (b == digit_eight) then quoted_len quotation_mark 2 bs else quoted_len quotation_mark 1 (b ∷ bs)

-- a literal may have its quote here, after a first byte u, U or L
abbrev pub may_quote : List ℕ → Bool
may_quote [] = false
may_quote (b ∷ bs) = (b == quotation_mark) || ((b == apostrophe) || (b == digit_eight))

-- what is left after b of the texts that begin with b
abbrev pub after_byte : ℕ → List (List ℕ) → List (List ℕ)
after_byte b [] = []
after_byte b ([] ∷ others) = after_byte b others
after_byte b ((p ∷ ps) ∷ others) = if b == p then ps ∷ after_byte b others else after_byte b others

-- the length of the longest of the texts at the front
unfoldable pub member_len : List (List ℕ) → List ℕ → ℕ
member_len [] text = 0
member_len (p ∷ ps) [] = 0
member_len (p ∷ ps) (b ∷ bs) =
    let rest = after_byte b (p ∷ ps) in
    let n = member_len rest bs in
    if nat_lt 0 n then suc n else if list_any is_empty rest then 1 else 0

abbrev pub punctuator_len : List ℕ → ℕ
punctuator_len text = member_len punctuators text

-- [ ] ( ) { } ~ ? ; ,
abbrev pub is_single : ℕ → Bool
is_single a =
    (a == open_bracket) || (a == close_bracket) || (a == open_parenthesis) || (a == close_parenthesis) || (a == open_brace) || (a == close_brace) || (a == tilde) || (a == question_mark) || (a == semicolon) || (a == comma)

-- * / ! ^ =
abbrev pub is_assigned : ℕ → Bool
is_assigned a = (a == asterisk) || (a == slash) || (a == exclamation_mark) || (a == caret) || (a == equals)

-- + & |
abbrev pub is_doubled : ℕ → Bool
is_doubled a = (a == plus) || (a == ampersand) || (a == vertical_bar)

-- the length of the punctuator that begins with < and two bytes
abbrev pub less_len : ℕ → ℕ → ℕ
less_len b c =
    if b == less_than then (if c == equals then 3 else 2) else if (b == equals) || (b == colon) || (b == percent) then 2 else 1

-- the same for >
abbrev pub greater_len : ℕ → ℕ → ℕ
greater_len b c = if b == greater_than then (if c == equals then 3 else 2) else if b == equals then 2 else 1

-- the same for % and three bytes
abbrev pub percent_len : ℕ → ℕ → ℕ → ℕ
percent_len b c d =
    if b == colon then (if (c == percent) && (d == colon) then 4 else 2) else if (b == equals) || (b == greater_than) then 2 else 1

-- the length of the punctuator that four bytes begin with, where the first one is in none of the three groups
abbrev pub ungrouped_len : ℕ → ℕ → ℕ → ℕ → ℕ
ungrouped_len a b c d =
    if a == minus then (if (b == greater_than) || (b == minus) || (b == equals) then 2 else 1) else
    if a == full_stop then (if (b == full_stop) && (c == full_stop) then 3 else 1) else
    if a == hash then (if b == hash then 2 else 1) else
    if a == colon then (if b == greater_than then 2 else 1) else
    if a == less_than then less_len b c else
    if a == greater_than then greater_len b c else
    if a == percent then percent_len b c d else 0

-- the length of the punctuator that four bytes begin with, 0 where there is none
abbrev pub symbol_len : ℕ → ℕ → ℕ → ℕ → ℕ
symbol_len a b c d =
    if is_single a then 1 else
    if is_assigned a then (if b == equals then 2 else 1) else
    if is_doubled a then (if (b == equals) || (b == a) then 2 else 1) else ungrouped_len a b c d

-- how many bytes are before the next LF
abbrev pub line_len : List ℕ → ℕ
line_len text = prefix_len (λ b. not (b == line_feed)) text

-- how many bytes a quote takes whose literal does not close: in GNU C the rest of its line
abbrev pub lone_len : Language → List ℕ → ℕ
lone_len language text = if is_gnu language then line_len text else 1

-- the length of a header name of which n bytes are known, up to its closing delimiter and with it
abbrev pub name_at : ℕ → ℕ → List ℕ → ℕ
name_at close n [] = 0
name_at close n (b ∷ bs) = if b == close then suc n else if b == line_feed then 0 else name_at close (suc n) bs

abbrev pub header_name_len : List ℕ → ℕ
header_name_len (a ∷ b ∷ bs) =
    if (a == less_than) && not (b == greater_than) then name_at greater_than 1 (b ∷ bs) else
    if (a == quotation_mark) && not (b == quotation_mark) then name_at quotation_mark 1 (b ∷ bs) else 0
header_name_len _ = 0

-- a token of a class, or of one byte where there is none
abbrev pub lexeme_or_other : Kind → ℕ → Piece
lexeme_or_other kind n = if nat_lt 0 n then Lexeme kind n else Lexeme Other 1

-- a literal of n bytes, or its quote where it does not close
abbrev pub literal_or_lone : Language → Kind → ℕ → List ℕ → Piece
literal_or_lone language kind n text = if nat_lt 0 n then Lexeme kind n else Lexeme Other (lone_len language text)

-- the byte is at the front
abbrev pub begins_with_byte : ℕ → List ℕ → Bool
begins_with_byte a [] = false
begins_with_byte a (b ∷ bs) = b == a

-- the quote of a literal is at the front, after a first byte a, which is u, U or L
abbrev pub begins_quoted : ℕ → List ℕ → Bool
begins_quoted a bs =
    begins_with_byte apostrophe bs || (begins_with_byte quotation_mark bs || ((a == small_u) && (begins_with_byte digit_eight bs && begins_with_byte quotation_mark (drop 1 bs))))

-- how many bytes a quote takes with such a prefix where its literal does not close: in GNU C the rest of the line, else none
abbrev pub wide_lone_len : Language → List ℕ → ℕ
wide_lone_len language [] = 0
wide_lone_len language (a ∷ bs) = if begins_quoted a bs && is_gnu language then line_len (a ∷ bs) else 0

-- after u, U or L: the literal where there is one, the lone quote where there is one, else the identifier
abbrev pub wide_token : (char str lone word : ℕ) → Piece
wide_token char str lone word =
    if nat_lt 0 char then Lexeme Char char else
    if nat_lt 0 str then Lexeme Str str else
    if nat_lt 0 lone then Lexeme Other lone else Lexeme Identifier word

-- . and a digit are at the front
abbrev pub begins_with_point : List ℕ → Bool
begins_with_point (a ∷ b ∷ bs) = (a == full_stop) && is_digit b
begins_with_point _ = false

-- a digit or a letter
abbrev pub is_row_byte : ℕ → Bool
is_row_byte b = is_digit b || is_letter b

-- another byte
abbrev pub is_other_byte : ℕ → Bool
is_other_byte b = not (is_row_byte b)

-- `first_token` of a text that begins with a digit or a letter
abbrev pub word_token : Language → List ℕ → Piece
word_token language [] = NewLine
word_token language (b ∷ bs) =
    let word = row_len (identifier_part language) 0 (b ∷ bs) in
    if is_digit b then Lexeme Number (row_len (number_part language) 0 (b ∷ bs)) else
    if is_wide b then wide_token (quoted_len apostrophe 1 bs) (wide_str_len b bs) (wide_lone_len language (b ∷ bs)) word else
    lexeme_or_other Identifier word

-- `first_token` of a text that begins with another byte
abbrev pub mark_token : Language → List ℕ → Piece
mark_token language [] = NewLine
mark_token language (b ∷ bs) =
    if begins_with_point (b ∷ bs) then Lexeme Number (row_len (number_part language) 0 (b ∷ bs)) else
    if begins_nondigit language b then lexeme_or_other Identifier (row_len (identifier_part language) 0 (b ∷ bs)) else
    if b == quotation_mark then literal_or_lone language Str (closed_at quotation_mark false 1 bs) (b ∷ bs) else
    if b == apostrophe then literal_or_lone language Char (closed_at apostrophe false 1 bs) (b ∷ bs) else
    lexeme_or_other Punct (punctuator_len (b ∷ bs))

-- the same, where a header name may count
abbrev pub mark_by : Language → Progress → List ℕ → Piece
mark_by language AfterInclude text = if nat_lt 0 (header_name_len text) then Lexeme HeaderName (header_name_len text) else mark_token language text
mark_by language _ text = mark_token language text

-- `piece_by` of a text that begins with no white space of one byte, with digits and letters first
abbrev pub piece_behind_blanks : Language → Progress → List ℕ → Piece
piece_behind_blanks language progress [] = NewLine
piece_behind_blanks language progress (b ∷ bs) =
    if is_row_byte b then word_token language (b ∷ bs) else
    if b == line_feed then NewLine else
    if (b == slash) && begins_with_byte asterisk bs then block_comment (b ∷ bs) else
    if (b == slash) && begins_with_byte slash bs then line_comment (b ∷ bs) else mark_by language progress (b ∷ bs)
