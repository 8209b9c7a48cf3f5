-- Integer constants (ISO/IEC 9899:2018, 6.4.4.1) and character constants (6.4.4.4) of controlling expressions. The extended
-- language and GNU C add binary constants. Choices of this profile: a constant from 2^63 on is unsigned whatever its suffix, a
-- character constant has one character, read as a signed number of 8 bits, with a prefix at most 127.
use Rattle.std.specs.Prelude.{ℕ, ◌+◌, ◌-◌, ◌*◌, ◌^◌, ◌==◌, ◌&&◌, ◌||◌, Bool, true, false, List, [], ◌∷◌, Option, Some, None, if◌then◌else◌, length, map, take, drop, nat_lt, nat_le, codes, bytes_eq, option_map, find, fold, option_and_then}
use Rattle.std.specs.List.{list_any, list_all, prefix_len}
use Rattle.inc_text.specs.Ascii.{alert, apostrophe, backslash, backspace, capital_a, capital_f, capital_u, carriage_return, digit_nine, digit_zero, form_feed, line_feed, question_mark, quotation_mark, small_a, small_b, small_f, small_n, small_r, small_t, small_u, small_v, small_x, tab, vertical_tab}
use Rattle.inc_token.specs.Spellings.{is_within}
use Rattle.inc_text.specs.declared.languages.Language.{Language}
use Rattle.inc_text.specs.declared.languages.Language.TheVariants.{C17}
use Rattle.inc_cond.specs.declared.values.Value.{Value}
use Rattle.inc_cond.specs.Values.{wrapped}

---- integer constants (6.4.4.1)

-- the value of a digit, 16 where it is none
abbrev pub digit_of : ℕ → ℕ
digit_of b =
    if is_within digit_zero digit_nine b then b - digit_zero else
    if is_within small_a small_f b then b - small_a + 10 else
    if is_within capital_a capital_f b then b - capital_a + 10 else 16

-- the byte is a digit of the base
abbrev pub is_digit_in : (base : ℕ) → ℕ → Bool
is_digit_in base b = nat_lt (digit_of b) base

-- the number that digits stand for
abbrev pub number_in : (base : ℕ) → List ℕ → ℕ
number_in base digits = fold (λ n b. n * base + digit_of b) 0 digits

-- suffixes without `u`; `ll` is in one case
abbrev pub signed_suffixes : List (List ℕ)
signed_suffixes = [] ∷ codes "l" ∷ codes "L" ∷ codes "ll" ∷ codes "LL" ∷ []

-- with `U` written `u`
abbrev pub unsigned_suffixes : List (List ℕ)
unsigned_suffixes =
    codes "u" ∷ codes "ul" ∷ codes "uL" ∷ codes "ull" ∷ codes "uLL"
    ∷ codes "lu" ∷ codes "Lu" ∷ codes "llu" ∷ codes "LLu" ∷ []

-- a byte, or `u` for `U`
abbrev pub small_letter_u : ℕ → ℕ
small_letter_u b = if b == capital_u then small_u else b

-- whether a suffix is that of an unsigned constant; none where it is no suffix
abbrev pub suffix : List ℕ → Option Bool
suffix s =
    if list_any (bytes_eq s) signed_suffixes then Some false else
    if list_any (bytes_eq (map small_letter_u s)) unsigned_suffixes then Some true else None

-- a number from 2^63 on is unsigned, one from 2^64 on has no value
abbrev pub sized : ℕ → Bool → Option Value
sized n u = if nat_lt n (2 ^ 64) then Some (record { unsigned = u || nat_le (2 ^ 63) n; bits = n }) else None

-- one or more digits of the base, and a suffix
abbrev pub constant_in : (base : ℕ) → List ℕ → Option Value
constant_in base text =
    let n = prefix_len (is_digit_in base) text in
    if n == 0 then None else option_and_then (sized (number_in base (take n text))) (suffix (drop n text))

-- the text begins with `0x` or `0X`
abbrev pub is_hexadecimal : List ℕ → Bool
is_hexadecimal text = bytes_eq (take 2 text) (codes "0x") || bytes_eq (take 2 text) (codes "0X")

-- the text begins with `0b` or `0B`, which C17 does not know
abbrev pub is_binary : Language → List ℕ → Bool
is_binary C17 text = false
is_binary _ text = bytes_eq (take 2 text) (codes "0b") || bytes_eq (take 2 text) (codes "0B")

-- hexadecimal, binary, octal from `0` on, or decimal
abbrev pub number_value : Language → List ℕ → Option Value
number_value language text =
    if is_hexadecimal text then constant_in 16 (drop 2 text) else
    if is_binary language text then constant_in 2 (drop 2 text) else
    if bytes_eq (take 1 text) (codes "0") then constant_in 8 text else constant_in 10 text

---- character constants (6.4.4.4)

-- simple escapes: the byte after `\`, and what it stands for
abbrev pub simple_escapes : List (ℕ × ℕ)
simple_escapes =
    (apostrophe, apostrophe) ∷ (quotation_mark, quotation_mark) ∷ (question_mark, question_mark) ∷ (backslash, backslash)
    ∷ (small_a, alert) ∷ (small_b, backspace) ∷ (small_f, form_feed) ∷ (small_n, line_feed) ∷ (small_r, carriage_return)
    ∷ (small_t, tab) ∷ (small_v, vertical_tab) ∷ []

-- the code of a simple escape
abbrev pub simple_escape : ℕ → Option ℕ
simple_escape b = option_map (λ p. p.1) (find (λ p. p.0 == b) simple_escapes)

-- nothing follows
abbrev pub is_last : List ℕ → Bool
is_last bs = length bs == 0

-- digits of the base alone, one or more, at most so many
abbrev pub code_in : (base most : ℕ) → List ℕ → Option ℕ
code_in base most text =
    if list_all (is_digit_in base) text && (nat_lt 0 (length text) && nat_le (length text) most)
    then Some (number_in base text) else None

-- the code of an escape sequence after its `\`
abbrev pub escape_code : List ℕ → Option ℕ
escape_code [] = None
escape_code (b ∷ bs) =
    if b == small_x then code_in 16 (length bs) bs else
    if is_digit_in 8 b then code_in 8 3 (b ∷ bs) else
    if is_last bs then simple_escape b else None

-- the code of what is between the quotes
abbrev pub character_code : List ℕ → Option ℕ
character_code [] = None
character_code (b ∷ bs) = if b == backslash then escape_code bs else if is_last bs then Some b else None

-- a code as a signed number of 8 bits
abbrev pub narrow_value : ℕ → Option Value
narrow_value n =
    if nat_lt n 128 then Some (wrapped false n) else
    if nat_lt n 256 then Some (wrapped false (2 ^ 64 + n - 256)) else None

-- with a prefix
abbrev pub wide_value : ℕ → Option Value
wide_value n = if nat_lt n 128 then Some (wrapped false n) else None

-- without the quotes at the ends
abbrev pub unquoted : List ℕ → List ℕ
unquoted text = take (length text - 2) (drop 1 text)

-- the value of a character constant; `u`, `U` or `L` may be before its quote
abbrev pub character_value : List ℕ → Option Value
character_value [] = None
character_value (b ∷ bs) =
    if b == apostrophe then option_and_then narrow_value (character_code (unquoted (b ∷ bs)))
    else option_and_then wide_value (character_code (unquoted bs))
