-- Classes, member by member.
use Rattle.std.proofs.Common.{◌≡◌, ◌≢◌, ℕ, ◌+◌, ◌<◌, ◌≤◌, ◌||◌, List, [], ◌∷◌, length, drop, get_or, refl, ap, arith, Option, Some, None, option_map}
use Rattle.std.specs.Prelude.{◌&&◌, ◌==◌, nat_le}
use Rattle.std.proofs.lemmas.Bool.{ne_eqb}
use Rattle.inc_text.specs.Ascii.{close_bracket, minus}
use Rattle.inc_globs.specs.Globs.{is_in, len_to_bracket, members_len}

-- a range, and the members after it
pub range_first : (ms : List ℕ) (b : ℕ) → 2 < length ms → get_or ms 1 0 ≡ minus → ((nat_le (get_or ms 0 0) b && nat_le b (get_or ms 2 0)) || is_in (drop 3 ms) b) ≡ is_in ms b
range_first [] b long is = absurd (omega (arith, long))
range_first (x ∷ []) b long is = absurd (omega (arith, long))
range_first (x ∷ y ∷ []) b long is = absurd (omega (arith, long))
range_first (x ∷ y ∷ z ∷ ms) b long is = rw is refl

-- a byte, and the members after it, where there are not enough for a range
pub last_first : (ms : List ℕ) (b : ℕ) → 0 < length ms → length ms ≤ 2 → ((get_or ms 0 0 == b) || is_in (drop 1 ms) b) ≡ is_in ms b
last_first [] b some few = absurd (omega (arith, some))
last_first (x ∷ []) b some few = refl
last_first (x ∷ y ∷ []) b some few = refl
last_first (x ∷ y ∷ z ∷ ms) b some few = absurd (omega (arith, few))

-- a byte, and the members after it, where it begins no range
pub byte_first : (ms : List ℕ) (b : ℕ) → 2 < length ms → get_or ms 1 0 ≢ minus → ((get_or ms 0 0 == b) || is_in (drop 1 ms) b) ≡ is_in ms b
byte_first [] b long other = absurd (omega (arith, long))
byte_first (x ∷ []) b long other = absurd (omega (arith, long))
byte_first (x ∷ y ∷ []) b long other = absurd (omega (arith, long))
byte_first (x ∷ y ∷ z ∷ ms) b long other = rw (ne_eqb y minus other) refl

-- the first byte is no end of a class
pub members_rest : (text : List ℕ) → members_len text ≡ option_map (λ n. 1 + n) (len_to_bracket (drop 1 text))
members_rest [] = refl
members_rest (b ∷ bs) = plus_one (len_to_bracket bs)
  where
    plus_one : (found : Option ℕ) → option_map (λ n. n + 1) found ≡ option_map (λ n. 1 + n) found
    plus_one None = refl
    plus_one (Some n) = let same : n + 1 ≡ 1 + n = omega arith in ap (λ m. Some m) same

-- one byte more that is no end
pub bracket_on : (at : ℕ) (b : ℕ) (bs : List ℕ) → b ≢ close_bracket → option_map (λ n. at + n) (len_to_bracket (b ∷ bs)) ≡ option_map (λ n. (at + 1) + n) (len_to_bracket bs)
bracket_on at b bs other = rw (ne_eqb b close_bracket other) (shifted (len_to_bracket bs))
  where
    shifted : (found : Option ℕ) → option_map (λ n. at + n) (option_map (λ n. n + 1) found) ≡ option_map (λ n. (at + 1) + n) found
    shifted None = refl
    shifted (Some n) = let same : at + (n + 1) ≡ (at + 1) + n = omega arith in ap (λ m. Some m) same
