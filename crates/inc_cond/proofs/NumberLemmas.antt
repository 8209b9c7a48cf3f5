-- Numbers that digits stand for only grow with each digit.
use Rattle.std.proofs.Common.{◌≡◌, ℕ, ◌+◌, ◌*◌, ◌^◌, ◌<◌, ◌≤◌, Bool, true, false, List, [], ◌∷◌, Option, Some, None, length, nat_lt, cond, refl, ap, ◌∙◌, arith}
use Rattle.std.specs.Prelude.{fold, slice_index_or, drop}
use Rattle.std.proofs.Math.Nat.{le-mul_of_pos_right}
use Rattle.std.proofs.lemmas.Bool.{lt-ltb, ltb-true, ltb-false}
use Rattle.std.specs.Prelude.{option_and_then}
use Rattle.inc_cond.specs.declared.values.Value.{Value}
use Rattle.inc_cond.specs.Constants.{digit_of, narrow_value, wide_value}
use Rattle.inc_cond.specs.Numerals.{if_fits}

-- the digits after a number that is this large leave it so
grows : (most base n : ℕ) (bs : List ℕ) → 1 ≤ base → most ≤ n → most ≤ fold (λ k b. k * base + digit_of b) n bs
grows most base n [] pos h = h
grows most base n (b ∷ bs) pos h =
    let up : n ≤ n * base = le-mul_of_pos_right n (omega arith) in
    grows most base (n * base + digit_of b) bs pos (omega arith)

over_if : (most n : ℕ) (b : Bool) → nat_lt n most ≡ b → cond b (Some n) None ≡ None → most ≤ n
over_if most n true is e = cc
over_if most n false is e = ltb-false n most is

fits_if : (most n : ℕ) (b : Bool) → nat_lt n most ≡ b → most ≤ n → cond b (Some n) None ≡ None
fits_if most n true is low = absurd (omega (arith, ltb-true n most is))
fits_if most n false is low = refl

-- what does not fit does not fit with more digits
pub stays_over : (base n : ℕ) (bs : List ℕ) → 1 ≤ base → if_fits n ≡ None → if_fits (fold (λ k b. k * base + digit_of b) n bs) ≡ None
stays_over base n bs pos over =
    let m : ℕ = 2 ^ 64 in
    let large : m ≤ fold (λ k b. k * base + digit_of b) n bs = grows m base n bs pos (over_if m n (nat_lt n m) refl over) in
    fits_if m (fold (λ k b. k * base + digit_of b) n bs) (nat_lt (fold (λ k b. k * base + digit_of b) n bs) m) refl large

pub fits : (n : ℕ) → n < 2 ^ 64 → if_fits n ≡ Some n
fits n low = by (nat_lt n (2 ^ 64)) (lt-ltb n (2 ^ 64) low) where
  by : (b : Bool) → b ≡ true → cond b (Some n) None ≡ Some n
  by true e = refl
  by false e = cc

-- the digits that are left, where there is one
pub first_left : (base n : ℕ) (bs : List ℕ) → 1 ≤ length bs
    → fold (λ k b. k * base + digit_of b) n bs ≡ fold (λ k b. k * base + digit_of b) (n * base + digit_of (slice_index_or bs 0 0)) (drop 1 bs)
first_left base n [] low = absurd (omega arith)
first_left base n (b ∷ bs) low = refl

pub none_left : (base n : ℕ) (bs : List ℕ) → length bs < 1 → fold (λ k b. k * base + digit_of b) n bs ≡ n
none_left base n [] low = refl
none_left base n (b ∷ bs) low = absurd (omega arith)

---- codes of characters

-- a code that does not fit has no value, whatever the rule, where that gives none from some bound on
fitted : (value : ℕ → Option Value) → ((m : ℕ) → 256 ≤ m → value m ≡ None) → (m : ℕ) (o : Option ℕ) (b : Bool) → nat_lt m (2 ^ 64) ≡ b → cond b (Some m) None ≡ o
    → value m ≡ option_and_then value o
fitted value ends m o true is e = ap (option_and_then value) e
fitted value ends m o false is e =
    let large : 2 ^ 64 ≤ m = ltb-false m (2 ^ 64) is in
    ends m (omega arith) ∙ ap (option_and_then value) e

fitted_code : (value : ℕ → Option Value) → ((m : ℕ) → 256 ≤ m → value m ≡ None) → (code : Option ℕ) (o : Option ℕ) → option_and_then if_fits code ≡ o
    → option_and_then value code ≡ option_and_then value o
fitted_code value ends None o e = ap (option_and_then value) e
fitted_code value ends (Some m) o e = fitted value ends m o (nat_lt m (2 ^ 64)) refl e

below_not : (m n : ℕ) → n ≤ m → nat_lt m n ≡ false
below_not m n low = by (nat_lt m n) refl where
  by : (b : Bool) → nat_lt m n ≡ b → b ≡ false
  by true is = absurd (omega (arith, ltb-true m n is))
  by false is = refl

narrow_ends : (m : ℕ) → 256 ≤ m → narrow_value m ≡ None
narrow_ends m low = rw (below_not m 128 (omega arith), below_not m 256 low) refl

wide_ends : (m : ℕ) → 256 ≤ m → wide_value m ≡ None
wide_ends m low = rw (below_not m 128 (omega arith)) refl

pub narrow_fitted : (code o : Option ℕ) → option_and_then if_fits code ≡ o → option_and_then narrow_value code ≡ option_and_then narrow_value o
narrow_fitted code o e = fitted_code narrow_value narrow_ends code o e

pub wide_fitted : (code o : Option ℕ) → option_and_then if_fits code ≡ o → option_and_then wide_value code ≡ option_and_then wide_value o
wide_fitted code o e = fitted_code wide_value wide_ends code o e
