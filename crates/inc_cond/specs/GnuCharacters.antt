-- Character constants of GNU C, as gcc has them on Linux: without a prefix the bytes are those of a number of 32 bits, of which the last four
-- stay; with one there is one character, of 32 bits after `L` and `U` and of 16 after `u`, which after `u` and `U` is unsigned. Choices of this
-- profile: none has a value with another escape sequence or one that is out of range, nor after a prefix with several characters or one
-- that is no ASCII.
use Rattle.std.specs.Prelude.{ℕ, zero, suc, ◌+◌, ◌-◌, ◌*◌, ◌%◌, ◌^◌, ◌==◌, ◌&&◌, ◌||◌, true, false, List, [], ◌∷◌, Option, Some, None, if◌then◌else◌, length, min, take, nat_le, nat_lt, option_and_then, option_map}
use Rattle.std.specs.List.{prefix_len}
use Rattle.inc_text.specs.Ascii.{apostrophe, backslash, capital_e, capital_l, small_e, small_u, small_x}
use Rattle.inc_text.specs.declared.languages.Language.{Language}
use Rattle.inc_text.specs.declared.languages.Language.TheVariants.{Gnu}
use Rattle.inc_cond.specs.declared.characters.Code.{Code}
use Rattle.inc_cond.specs.declared.values.Value.{Value}
use Rattle.inc_cond.specs.Values.{wrapped}
use Rattle.inc_cond.specs.Constants.{character_value, is_digit_in, narrow_value, number_in, simple_escape, unquoted}

---- codes

-- the code that so many digits stand for, and how many they are; none where there are none, or where it has more than 32 bits
abbrev pub code_of : (base count : ℕ) → List ℕ → Option Code
code_of base count text =
    if count == 0 then None else
    if nat_lt (number_in base (take count text)) (2 ^ 32) then Some (record { code = number_in base (take count text); more = count }) else None

-- with a byte more
abbrev pub behind_byte : Code → Code
behind_byte c = record { code = c.code; more = c.more + 1 }

-- a code of one byte
abbrev pub of_byte : ℕ → Code
of_byte n = record { code = n; more = 1 }

-- the code of an escape sequence of one byte
abbrev pub simple_at : ℕ → Option Code
simple_at b = if (b == small_e) || (b == capital_e) then Some (of_byte 27) else option_map of_byte (simple_escape b)

-- the code of an escape sequence that a text after `\` begins with, and how many bytes it has
abbrev pub escape_at : List ℕ → Option Code
escape_at [] = None
escape_at (b ∷ bs) =
    if b == small_x then option_map behind_byte (code_of 16 (prefix_len (is_digit_in 16) bs) bs) else
    if is_digit_in 8 b then code_of 8 (min 3 (prefix_len (is_digit_in 8) (b ∷ bs))) (b ∷ bs) else
    simple_at b

-- the code that a byte begins, and how many of the bytes after it go with it
abbrev pub code_at : ℕ → List ℕ → Option Code
code_at b bs = if b == backslash then escape_at bs else Some (record { code = b; more = 0 })

---- without a prefix

-- a number of 32 bits, which is signed
abbrev pub int_value : ℕ → Value
int_value n = wrapped false (if nat_lt n (2 ^ 31) then n else 2 ^ 64 + n - 2 ^ 32)

-- what so many codes come to; one alone is a signed number of 8 bits
abbrev pub int_of : (count value : ℕ) → Option Value
int_of count value = if count == 0 then None else if count == 1 then narrow_value value else Some (int_value value)

-- with one code more, of 8 bits
abbrev pub with_code : ℕ → ℕ → ℕ
with_code value code = value % 2 ^ 24 * 256 + code

-- what a text comes to after so many codes, and what these come to; skip: how many of its first bytes went with a code before
abbrev pub int_from : (count value skip : ℕ) → List ℕ → Option Value
int_from count value skip [] = int_of count value
int_from count value (suc skip) (b ∷ bs) = int_from count value skip bs
int_from count value zero (b ∷ bs) =
    elim (code_at b bs) [
      | None ↦ None
      | Some c ↦ if nat_lt c.code 256 then int_from (count + 1) (with_code value c.code) c.more bs else None
    ]

---- with a prefix

-- the code of a text that has one alone
abbrev pub single : List ℕ → Option ℕ
single [] = None
single (b ∷ bs) =
    if nat_lt 127 b then None else
    option_and_then (λ (c : Code). if c.more == length bs then Some c.code else None) (code_at b bs)

-- the code after its prefix
abbrev pub wide_value : (prefix : ℕ) → ℕ → Option Value
wide_value prefix n =
    if prefix == capital_l then Some (int_value n) else
    if (prefix == small_u) && nat_le (2 ^ 16) n then None else Some (record { unsigned = true; bits = n })

---- constants

-- with its quotes
abbrev pub gnu_value : List ℕ → Option Value
gnu_value [] = None
gnu_value (b ∷ bs) =
    if b == apostrophe then int_from 0 0 0 (unquoted (b ∷ bs)) else option_and_then (wide_value b) (single (unquoted bs))

-- the value of a character constant in a language
abbrev pub character_in : Language → List ℕ → Option Value
character_in Gnu text = gnu_value text
character_in _ text = character_value text
