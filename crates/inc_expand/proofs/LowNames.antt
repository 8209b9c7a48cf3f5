-- Sets whose first 32 names are bits.
use Rattle.std.proofs.Common.{◌≡◌, ◌≢◌, ℕ, zero, suc, ◌+◌, ◌-◌, ◌*◌, ◌/◌, ◌%◌, ◌^◌, ◌<◌, ◌≤◌, Bool, true, false, ◌||◌, ◌&&◌, nat_lt, nat_eq, List, min, max, refl, sym, ap, ◌∙◌, arith, lt-ltb, le-ltb, eqb-true, true≢false, inl, inr, ◌⊎◌}
use Rattle.std.specs.Int.{bit_at}
use Rattle.std.specs.Int.Bits.{bit_and, bit_or}
use Rattle.std.proofs.Math.Nat.{div-eq_of_lt, pow-le-pow_right, mod-le}
use Rattle.std.proofs.lemmas.Bool.{cond-true, cond-false, eqb-false, false_from_ne_true, cases_lt}
use Rattle.std.proofs.lemmas.Nat.{and_mask, and_le_l, or_lt, or_shr, or_shifted, mod_low, shr_high, pow_below}
use Rattle.std.proofs.lemmas.Nat.Bits.{bit_at_and, bit_at_or, bit_at_ones, bit_at-pow_same, bit_at-pow_other, bit_at-zero, same_from_bits_below}
use Rattle.inc_expand.specs.declared.shared_sets.Node.{Node}
use Rattle.inc_expand.specs.Nodes.{has}
use Rattle.inc_expand.specs.Sets.{full_depth, in_set}
use Rattle.inc_expand.proofs.Sets.{has-empty}

---- one bit

-- the rest by 2 ^ 32 has the bits below
pub low-bit : (n k : ℕ) → k < 32 → bit_at (n % 4294967296) k ≡ bit_at n k
low-bit n k l =
    ap (λ m. bit_at m k) (sym (and_mask n 32))
    ∙ (let m = bit_at_and n (2 ^ 32 - 1) k in let one = bit_at_ones 32 k l in let small : bit_at n k < 2 = omega arith in omega (arith, m, one, small))

-- a number below a power of 2 has no bit from there on
pub no-bit : (n w k : ℕ) → n < 2 ^ w → w ≤ k → bit_at n k ≡ 0
no-bit n w k l m =
    let more : 2 ^ w ≤ 2 ^ k = pow-le-pow_right {n = 2} (omega arith) {i = w} {j = k} m in
    let z : n / 2 ^ k ≡ 0 = div-eq_of_lt (omega (arith, l, more)) in
    ap (λ x. x % 2) z

bits-both : (x y : ℕ) → x < 2 → y < 2 → nat_eq (min x y) 1 ≡ (nat_eq x 1 && nat_eq y 1)
bits-both zero zero l m = refl
bits-both zero (suc zero) l m = refl
bits-both (suc zero) zero l m = refl
bits-both (suc zero) (suc zero) l m = refl
bits-both zero (suc (suc y)) l m = absurd (omega (arith, m))
bits-both (suc zero) (suc (suc y)) l m = absurd (omega (arith, m))
bits-both (suc (suc x)) y l m = absurd (omega (arith, l))

bits-either : (x y : ℕ) → x < 2 → y < 2 → nat_eq (max x y) 1 ≡ (nat_eq x 1 || nat_eq y 1)
bits-either zero zero l m = refl
bits-either zero (suc zero) l m = refl
bits-either (suc zero) zero l m = refl
bits-either (suc zero) (suc zero) l m = refl
bits-either zero (suc (suc y)) l m = absurd (omega (arith, m))
bits-either (suc zero) (suc (suc y)) l m = absurd (omega (arith, m))
bits-either (suc (suc x)) y l m = absurd (omega (arith, l))

bit-small : (n k : ℕ) → bit_at n k < 2
bit-small n k = omega arith

-- the bits of these are made of those of two numbers
abbrev pub IsLow : (Bool → Bool → Bool) → ℕ → ℕ → ℕ → Type 0
IsLow op a b low = (k : ℕ) → k < 32 → nat_eq (bit_at low k) 1 ≡ op (nat_eq (bit_at a k) 1) (nat_eq (bit_at b k) 1)

pub low-both : (a b : ℕ) → IsLow (λ x y. x && y) a b (bit_and a b % 4294967296)
low-both a b k l = ap (λ n. nat_eq n 1) (low-bit (bit_and a b) k l ∙ bit_at_and a b k) ∙ bits-both _ _ (bit-small a k) (bit-small b k)

pub low-either : (a b : ℕ) → IsLow (λ x y. x || y) a b (bit_or a b % 4294967296)
low-either a b k l = ap (λ n. nat_eq n 1) (low-bit (bit_or a b) k l ∙ bit_at_or a b k) ∙ bits-either _ _ (bit-small a k) (bit-small b k)

-- they are not past those of the two
abbrev pub Fits : ℕ → ℕ → ℕ → Type 0
Fits a b low = (w : ℕ) → a < 2 ^ w → b < 2 ^ w → low < 2 ^ w

pub fits-both : (a b : ℕ) → Fits a b (bit_and a b % 4294967296)
fits-both a b w l m = let p = mod-le (bit_and a b) 4294967296 in let q = and_le_l a b in omega (arith, l, p, q)

pub fits-either : (a b : ℕ) → Fits a b (bit_or a b % 4294967296)
fits-either a b w l m = let p = mod-le (bit_or a b) 4294967296 in let q = or_lt w a b l m in omega (arith, p, q)

---- sets

pub in-low : (t : List Node) (n k : ℕ) → k < 32 → in_set t n k ≡ nat_eq (bit_at n k) 1
in-low t n k l = cond-true (nat_lt k 32) _ _ (lt-ltb k 32 l)

pub in-high : (t : List Node) (n k : ℕ) → 32 ≤ k → in_set t n k ≡ has t full_depth (n / 4294967296) (k - 32)
in-high t n k l = cond-false (nat_lt k 32) _ _ (le-ltb k 32 l)

module _ (t : List Node) (node low : ℕ) (l : low < 4294967296) where
  pub made-low : (k : ℕ) → k < 32 → in_set t (node * 4294967296 + low) k ≡ nat_eq (bit_at low k) 1
  made-low k m =
      in-low t (node * 4294967296 + low) k m
      ∙ ap (λ b. nat_eq b 1) (sym (low-bit (node * 4294967296 + low) k m) ∙ ap (λ n. bit_at n k) (mod_low node 32 low l))

  pub made-high : (k : ℕ) → 32 ≤ k → in_set t (node * 4294967296 + low) k ≡ has t full_depth node (k - 32)
  made-high k m = in-high t (node * 4294967296 + low) k m ∙ ap (λ n. has t full_depth n (k - 32)) (shr_high node 32 low l)

-- the upper half of a set is that of the set with one bit more
pub bit-upper : (set number : ℕ) → number < 32 → bit_or set (2 ^ number) / 4294967296 ≡ set / 4294967296
bit-upper set number l =
    let low : 2 ^ number < 2 ^ 32 = pow_below number 32 l in
    let none : 2 ^ number / 2 ^ 32 ≡ 0 = div-eq_of_lt low in
    or_shr set (2 ^ number) 32 ∙ ap (bit_or (set / 2 ^ 32)) none ∙ same_or (set / 2 ^ 32)
  where
    same_or : (n : ℕ) → bit_or n 0 ≡ n
    same_or n = let e : n * 2 ^ 0 ≡ n = omega arith in ap (λ m. bit_or m 0) (sym e) ∙ or_shifted n 0 0 (omega arith) ∙ (let z : n * 2 ^ 0 + 0 ≡ n = omega arith in z)

pub bit-members : (t : List Node) (set number : ℕ) → number < 32 → (k : ℕ) → in_set t (bit_or set (2 ^ number)) k ≡ (in_set t set k || nat_eq k number)
bit-members t set number l k = by (cases_lt k 32)
  where
    or-no : (a b : Bool) → b ≡ false → a ≡ (a || b)
    or-no true b e = refl
    or-no false b e = sym e

    or-yes : (a b : Bool) → b ≡ true → true ≡ (a || b)
    or-yes true b e = refl
    or-yes false b e = sym e

    low : (b : Bool) → nat_eq k number ≡ b → k < 32 → nat_eq (bit_at (bit_or set (2 ^ number)) k) 1 ≡ (nat_eq (bit_at set k) 1 || b)
    low true e m =
        let same : k ≡ number = eqb-true _ _ e in
        let here : bit_at (2 ^ number) k ≡ 1 = ap (bit_at (2 ^ number)) same ∙ bit_at-pow_same number in
        ap (λ n. nat_eq n 1) (bit_at_or set (2 ^ number) k) ∙ bits-either _ _ (bit-small set k) (bit-small (2 ^ number) k) ∙ ap (λ n. nat_eq (bit_at set k) 1 || nat_eq n 1) here
    low false e m =
        let other : k ≢ number = eqb-false _ _ e in
        let none : bit_at (2 ^ number) k ≡ 0 = bit_at-pow_other number k other in
        ap (λ n. nat_eq n 1) (bit_at_or set (2 ^ number) k) ∙ bits-either _ _ (bit-small set k) (bit-small (2 ^ number) k) ∙ ap (λ n. nat_eq (bit_at set k) 1 || nat_eq n 1) none

    by : (k < 32) ⊎ (32 ≤ k) → in_set t (bit_or set (2 ^ number)) k ≡ (in_set t set k || nat_eq k number)
    by (inl m) =
        in-low t (bit_or set (2 ^ number)) k m ∙ low (nat_eq k number) refl m
        ∙ ap (λ b. b || nat_eq k number) (sym (in-low t set k m))
    by (inr m) =
        let no : nat_eq k number ≡ false = false_from_ne_true _ (λ yes. let same : k ≡ number = eqb-true _ _ yes in absurd (omega (arith, same, l, m))) in
        in-high t (bit_or set (2 ^ number)) k m ∙ ap (λ n. has t full_depth n (k - 32)) (bit-upper set number l) ∙ sym (in-high t set k m)
        ∙ or-no (in_set t set k) (nat_eq k number) no

-- numbers with equal bits and upper halves are equal
pub same-number : (a b : ℕ) → ((k : ℕ) → k < 32 → nat_eq (bit_at a k) 1 ≡ nat_eq (bit_at b k) 1) → a / 4294967296 ≡ b / 4294967296 → a ≡ b
same-number a b bits upper =
    let low : a % 4294967296 ≡ b % 4294967296
    = same_from_bits_below 32 (a % 4294967296) (b % 4294967296) (omega arith) (omega arith) (λ k l. low-bit a k l ∙ bit (bit_at a k) (bit_at b k) (bit-small a k) (bit-small b k) (bits k l) ∙ sym (low-bit b k l)) in
    omega (arith, low, upper)
  where
    bit : (x y : ℕ) → x < 2 → y < 2 → nat_eq x 1 ≡ nat_eq y 1 → x ≡ y
    bit zero zero l m e = refl
    bit (suc zero) (suc zero) l m e = refl
    bit zero (suc zero) l m e = absurd (true≢false (sym e))
    bit (suc zero) zero l m e = absurd (true≢false e)
    bit zero (suc (suc y)) l m e = absurd (omega (arith, m))
    bit (suc zero) (suc (suc y)) l m e = absurd (omega (arith, m))
    bit (suc (suc x)) y l m e = absurd (omega (arith, l))

-- the empty set has nothing
pub in-empty : (t : List Node) (k : ℕ) → in_set t 0 k ≡ false
in-empty t k = by (cases_lt k 32)
  where
    by : (k < 32) ⊎ (32 ≤ k) → in_set t 0 k ≡ false
    by (inl l) = in-low t 0 k l ∙ ap (λ n. nat_eq n 1) (bit_at-zero k)
    by (inr l) = in-high t 0 k l ∙ has-empty t full_depth (k - 32)
