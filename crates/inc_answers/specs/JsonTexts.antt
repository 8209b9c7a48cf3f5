-- Texts of JSON (RFC 8259).
use Rattle.std.specs.Prelude.{ℕ, zero, suc, ◌/◌, ◌%◌, ◌==◌, ◌||◌, ◌++◌, Bool, List, [], ◌∷◌, if◌then◌else◌, codes, decimal, flat_map, nat_lt}
use Rattle.std.specs.Str.{is_utf8}
use Rattle.inc_answers.specs.MissingNotes.{hex_digit}

-- a byte in base 16
abbrev pub hex_byte : ℕ → List ℕ
hex_byte b = hex_digit (b / 16) ∷ hex_digit (b % 16) ∷ []

abbrev pub hex : List ℕ → List ℕ
hex bytes = flat_map hex_byte bytes

-- a byte of a string: `"`, `\` and control bytes are escaped
abbrev pub escaped_byte : ℕ → List ℕ
escaped_byte b = if b == 34 || b == 92 then 92 ∷ b ∷ [] else if nat_lt b 32 then codes "\\u00" ++ hex_byte b else b ∷ []

abbrev pub escaped : List ℕ → List ℕ
escaped bytes = flat_map escaped_byte bytes

abbrev pub quoted : List ℕ → List ℕ
quoted text = 34 ∷ (text ++ 34 ∷ [])

-- a string of bytes that are UTF-8
abbrev pub string_text : List ℕ → List ℕ
string_text bytes = quoted (escaped bytes)

-- of others in base 16, whose digits need no escape
abbrev pub hex_text : List ℕ → List ℕ
hex_text bytes = quoted (hex bytes)

-- a key that needs no escape
abbrev pub key_text : List ℕ → List ℕ
key_text key = 34 ∷ (key ++ codes "\":")

abbrev pub number_member : (key : List ℕ) → ℕ → List ℕ
number_member key n = key_text key ++ decimal n

-- bytes: as a string where they are UTF-8, else in base 16 under a key of another name
abbrev pub bytes_member : (key bytes : List ℕ) → List ℕ
bytes_member key bytes =
    if is_utf8 bytes then key_text key ++ string_text bytes else key_text (key ++ codes "_hex") ++ hex_text bytes

-- the same where no key stands before
abbrev pub bytes_item : List ℕ → List ℕ
bytes_item bytes = if is_utf8 bytes then string_text bytes else codes "{\"path_hex\":" ++ hex_text bytes ++ codes "}"

-- items with a comma between two
abbrev pub items_text : List (List ℕ) → List ℕ
items_text [] = []
items_text (x ∷ xs) = x ++ flat_map (λ y. codes "," ++ y) xs

abbrev pub list_of : List (List ℕ) → List ℕ
list_of items = codes "[" ++ items_text items ++ codes "]"

-- what stands before an item at a place
abbrev pub comma_at : ℕ → List ℕ
comma_at zero = []
comma_at (suc n) = codes ","
