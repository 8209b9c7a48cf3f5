-- Preprocessing tokens (ISO/IEC 9899:2018, 6.4): for each class, whether the whole of a text is spelled in it.
-- Choices of this profile: bytes 128 to 255 are non-digits, a universal character name may have any value, escape
-- sequences are not checked, '' is a character constant, and a quote without a partner is a token by itself. In GNU C it takes
-- the rest of its line with it, and $ is a non-digit.
use Rattle.std.specs.Prelude.{ℕ, zero, suc, ◌-◌, ◌==◌, ◌&&◌, ◌||◌, not, Bool, true, false, List, [], ◌∷◌, Option, Some, None, if◌then◌else◌, nat_lt, nat_le, codes, bytes_eq}
use Rattle.std.specs.List.{list_any}
use Rattle.inc_text.specs.Ascii.{apostrophe, backslash, blank, capital_a, capital_e, capital_f, capital_p, capital_u, capital_z, carriage_return, digit_nine, digit_zero, dollar, form_feed, full_stop, greater_than, less_than, line_feed, minus, plus, quotation_mark, small_a, small_e, small_f, small_p, small_u, small_z, tab, underscore, vertical_tab}
use Rattle.inc_text.specs.Languages.{is_gnu}
use Rattle.inc_text.specs.declared.languages.Language.{Language}
use Rattle.inc_token.specs.declared.kinds.Kind.{Kind}
use Rattle.inc_token.specs.declared.kinds.Kind.TheVariants.{HeaderName, Identifier, Number, Char, Str, Punct, Other}

-- b lies from low to high
abbrev pub is_within : ℕ → ℕ → ℕ → Bool
is_within low high b = nat_le low b && nat_le b high

-- 0 to 9
abbrev pub is_digit : ℕ → Bool
is_digit b = is_within digit_zero digit_nine b

-- 0 to 9, a to f, A to F
abbrev pub is_hex_digit : ℕ → Bool
is_hex_digit b = is_digit b || is_within small_a small_f b || is_within capital_a capital_f b

-- a letter, _ or a byte from 128 on: a non-digit of one byte
abbrev pub is_letter : ℕ → Bool
is_letter b = is_within small_a small_z b || is_within capital_a capital_z b || (b == underscore) || is_within 128 255 b

-- the text begins with n hexadecimal digits
abbrev pub begins_with_hex : ℕ → List ℕ → Bool
begins_with_hex zero bs = true
begins_with_hex (suc n) [] = false
begins_with_hex (suc n) (b ∷ bs) = is_hex_digit b && begins_with_hex n bs

-- the length of the universal character name at the front, 0 where there is none (6.4.3): \u and four digits, \U and eight
abbrev pub universal_len : List ℕ → ℕ
universal_len (a ∷ b ∷ bs) =
    if (a == backslash) && (b == small_u) && begins_with_hex 4 bs then 6 else
    if (a == backslash) && (b == capital_u) && begins_with_hex 8 bs then 10 else 0
universal_len _ = 0

-- a $, which is a non-digit in GNU C
abbrev pub is_dollar : Language → ℕ → Bool
is_dollar language b = (b == dollar) && is_gnu language

-- a byte that is no letter and may begin a non-digit: a \, or a $ in GNU C
abbrev pub begins_nondigit : Language → ℕ → Bool
begins_nondigit language b = (b == backslash) || is_dollar language b

-- the length of the non-digit at the front that is no letter, 0 where there is none
abbrev pub nonletter_len : Language → List ℕ → ℕ
nonletter_len language [] = 0
nonletter_len language (b ∷ bs) = if is_dollar language b then 1 else universal_len (b ∷ bs)

-- the length of the non-digit at the front, 0 where there is none (6.4.2.1)
abbrev pub nondigit_len : Language → List ℕ → ℕ
nondigit_len language [] = 0
nondigit_len language (b ∷ bs) = if is_letter b then 1 else nonletter_len language (b ∷ bs)

-- the text is a row of parts, each as long as `part` gives at its front; `left` is what is left of a part that began before
abbrev pub is_row : (List ℕ → ℕ) → ℕ → List ℕ → Bool
is_row part left [] = left == 0
is_row part (suc left) (b ∷ bs) = is_row part left bs
is_row part zero (b ∷ bs) = nat_lt 0 (part (b ∷ bs)) && is_row part (part (b ∷ bs) - 1) bs

-- a digit or a non-digit at the front
abbrev pub identifier_part : Language → List ℕ → ℕ
identifier_part language [] = 0
identifier_part language (b ∷ bs) = if is_digit b then 1 else nondigit_len language (b ∷ bs)

-- 6.4.2.1: a non-digit, then non-digits and digits
abbrev pub is_identifier : Language → List ℕ → Bool
is_identifier language text = nat_lt 0 (nondigit_len language text) && is_row (identifier_part language) 0 text

-- e, E, p or P
abbrev pub is_exponent_letter : ℕ → Bool
is_exponent_letter b = (b == small_e) || (b == capital_e) || (b == small_p) || (b == capital_p)

-- an exponent letter with a sign, a digit, a non-digit or . at the front
abbrev pub number_part : Language → List ℕ → ℕ
number_part language (a ∷ b ∷ bs) =
    if is_exponent_letter a && ((b == plus) || (b == minus)) then 2 else
    if a == full_stop then 1 else identifier_part language (a ∷ b ∷ bs)
number_part language (b ∷ []) = if b == full_stop then 1 else identifier_part language (b ∷ [])
number_part language [] = 0

-- a digit, or . and a digit, at the front
abbrev pub begins_number : List ℕ → Bool
begins_number (a ∷ b ∷ bs) = is_digit a || ((a == full_stop) && is_digit b)
begins_number (b ∷ []) = is_digit b
begins_number [] = false

-- 6.4.8: a digit, or . and a digit, then digits, non-digits, . and exponent letters with a sign
abbrev pub is_number : Language → List ℕ → Bool
is_number language text = begins_number text && is_row (number_part language) 0 text

-- the text has no byte
abbrev pub is_empty : List ℕ → Bool
is_empty [] = true
is_empty (b ∷ bs) = false

-- the items that are left of a literal and its closing quote; `escaped`: a \ is before, which takes any byte but LF with it
abbrev pub is_closed_by : ℕ → Bool → List ℕ → Bool
is_closed_by quote escaped [] = false
is_closed_by quote true (b ∷ bs) = not (b == line_feed) && is_closed_by quote false bs
is_closed_by quote false (b ∷ bs) =
    if b == quote then is_empty bs else not (b == line_feed) && is_closed_by quote (b == backslash) bs

-- a quote, items, and that quote
abbrev pub is_quoted : ℕ → List ℕ → Bool
is_quoted quote [] = false
is_quoted quote (b ∷ bs) = (b == quote) && is_closed_by quote false bs

-- the prefix, and then a text that passes the test
abbrev pub is_prefixed : List ℕ → (List ℕ → Bool) → List ℕ → Bool
is_prefixed [] test text = test text
is_prefixed (p ∷ ps) test [] = false
is_prefixed (p ∷ ps) test (b ∷ bs) = (p == b) && is_prefixed ps test bs

-- what may be before the ' of a character constant
abbrev pub char_prefixes : List (List ℕ)
char_prefixes = codes "" ∷ codes "u" ∷ codes "U" ∷ codes "L" ∷ []

-- what may be before the " of a string literal
abbrev pub str_prefixes : List (List ℕ)
str_prefixes = codes "" ∷ codes "u8" ∷ codes "u" ∷ codes "U" ∷ codes "L" ∷ []

-- 6.4.4.4: nothing or u, U, L, then ' and items and '
abbrev pub is_char : List ℕ → Bool
is_char text = list_any (λ prefix. is_prefixed prefix (is_quoted apostrophe) text) char_prefixes

-- 6.4.5: nothing or u8, u, U, L, then " and items and "
abbrev pub is_str : List ℕ → Bool
is_str text = list_any (λ prefix. is_prefixed prefix (is_quoted quotation_mark) text) str_prefixes

-- 6.4.6
abbrev pub punctuators : List (List ℕ)
punctuators =
    codes "[" ∷ codes "]" ∷ codes "(" ∷ codes ")" ∷ codes "{" ∷ codes "}" ∷ codes "." ∷ codes "->"
    ∷ codes "++" ∷ codes "--" ∷ codes "&" ∷ codes "*" ∷ codes "+" ∷ codes "-" ∷ codes "~" ∷ codes "!"
    ∷ codes "/" ∷ codes "%" ∷ codes "<<" ∷ codes ">>" ∷ codes "<" ∷ codes ">" ∷ codes "<=" ∷ codes ">="
    ∷ codes "==" ∷ codes "!=" ∷ codes "^" ∷ codes "|" ∷ codes "&&" ∷ codes "||"
    ∷ codes "?" ∷ codes ":" ∷ codes ";" ∷ codes "..."
    ∷ codes "=" ∷ codes "*=" ∷ codes "/=" ∷ codes "%=" ∷ codes "+=" ∷ codes "-=" ∷ codes "<<=" ∷ codes ">>="
    ∷ codes "&=" ∷ codes "^=" ∷ codes "|="
    ∷ codes "," ∷ codes "#" ∷ codes "##"
    ∷ codes "<:" ∷ codes ":>" ∷ codes "<%" ∷ codes "%>" ∷ codes "%:" ∷ codes "%:%:" ∷ []

abbrev pub is_punct : List ℕ → Bool
is_punct text = list_any (bytes_eq text) punctuators

-- space, HT, VT, FF and CR: white space of one byte. LF ends a line
abbrev pub is_blank : ℕ → Bool
is_blank b = (b == blank) || (b == tab) || (b == vertical_tab) || (b == form_feed) || (b == carriage_return)

-- the text lies in one of the classes above
abbrev pub is_one_above : Language → List ℕ → Bool
is_one_above language text = is_identifier language text || is_number language text || is_char text || is_str text || is_punct text

-- one byte that is no white space and no LF
abbrev pub is_mark : List ℕ → Bool
is_mark (b ∷ []) = not (is_blank b || (b == line_feed))
is_mark _ = false

-- the items of a literal that nothing closes, on one line; `escaped` as above
abbrev pub is_left_open : ℕ → Bool → List ℕ → Bool
is_left_open quote escaped [] = true
is_left_open quote true (b ∷ bs) = not (b == line_feed) && is_left_open quote false bs
is_left_open quote false (b ∷ bs) = not ((b == quote) || (b == line_feed)) && is_left_open quote (b == backslash) bs

-- a quote and items, without that quote
abbrev pub is_unclosed : ℕ → List ℕ → Bool
is_unclosed quote [] = false
is_unclosed quote (b ∷ bs) = (b == quote) && is_left_open quote false bs

-- a quote without a partner, with its prefix and with what is behind it on its line
abbrev pub is_lone : List ℕ → Bool
is_lone text =
    list_any (λ prefix. is_prefixed prefix (is_unclosed apostrophe) text) char_prefixes || list_any (λ prefix. is_prefixed prefix (is_unclosed quotation_mark) text) str_prefixes

-- what is in no class above: one byte, and in GNU C a lone quote
abbrev pub is_other : Language → List ℕ → Bool
is_other language text = not (is_one_above language text) && (is_mark text || (is_lone text && is_gnu language))

-- the class in which the whole of the text lies. No text lies in two
abbrev pub class_of : Language → List ℕ → Option Kind
class_of language text =
    if is_identifier language text then Some Identifier else
    if is_number language text then Some Number else
    if is_char text then Some Char else
    if is_str text then Some Str else
    if is_punct text then Some Punct else
    if is_other language text then Some Other else None

-- bytes other than LF and `close`, then `close`
abbrev pub is_name_until : ℕ → List ℕ → Bool
is_name_until close [] = false
is_name_until close (b ∷ bs) = if b == close then is_empty bs else not (b == line_feed) && is_name_until close bs

-- 6.4.7: < and one or more bytes other than LF and >, then >; or the same between two "
abbrev pub is_header_name : List ℕ → Bool
is_header_name (a ∷ b ∷ bs) =
    ((a == less_than) && not (b == greater_than) && is_name_until greater_than (b ∷ bs)) || ((a == quotation_mark) && not (b == quotation_mark) && is_name_until quotation_mark (b ∷ bs))
is_header_name _ = false

-- the whole of the text is a spelling of the class
abbrev pub is_spelling : Language → Kind → List ℕ → Bool
is_spelling language HeaderName text = is_header_name text
is_spelling language Identifier text = is_identifier language text
is_spelling language Number text = is_number language text
is_spelling language Char text = is_char text
is_spelling language Str text = is_str text
is_spelling language Punct text = is_punct text
is_spelling language Other text = is_other language text
