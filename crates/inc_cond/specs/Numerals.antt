-- Numbers that have to fit into 64 bits, and their prefixes.
use Rattle.std.specs.Prelude.{ℕ, ◌^◌, ◌||◌, Bool, List, [], ◌∷◌, Option, Some, None, if◌then◌else◌, take, nat_lt, bytes_eq}
use Rattle.inc_text.specs.Ascii.{digit_zero}

-- a number below 2^64
abbrev pub if_fits : ℕ → Option ℕ
if_fits n = if nat_lt n (2 ^ 64) then Some n else None

-- a text begins with `0` and one of these letters
abbrev pub has_prefix : (small capital : ℕ) → List ℕ → Bool
has_prefix small capital text =
    bytes_eq (take 2 text) (digit_zero ∷ small ∷ []) || bytes_eq (take 2 text) (digit_zero ∷ capital ∷ [])
