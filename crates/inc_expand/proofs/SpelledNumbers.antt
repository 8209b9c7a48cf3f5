-- Numbers in decimal are spelled as numbers.
use Rattle.std.proofs.Common.{◌≡◌, ℕ, zero, suc, ◌-◌, ◌<◌, ◌/◌, ◌%◌, ◌==◌, ◌&&◌, ◌||◌, Bool, true, false, cond, List, [], ◌∷◌, refl, sym, subst, arith, nat_lt}
use Rattle.std.specs.Fmt.{decimal, digit_glyph, digits_onto, digits}
use Rattle.std.proofs.lemmas.Bool.{agree_below_at}
use Rattle.inc_token.specs.Spellings.{is_digit, number_part, is_row, begins_number, is_number}
use Rattle.inc_token.proofs.Rows.{differs}
use Rattle.inc_text.specs.declared.languages.Language.{Language}

-- all are digits, and there is one
AreDigits : List ℕ → Type 0
AreDigits [] = Unit {0}
AreDigits (b ∷ bs) = (is_digit b ≡ true) × AreDigits bs

IsSome : List ℕ → Type 0
IsSome [] = ⊥
IsSome (b ∷ bs) = Unit {0}

-- a digit is a part by itself
part-digit : (language : Language) (b : ℕ) (bs : List ℕ) → is_digit b ≡ true → number_part language (b ∷ bs) ≡ 1
part-digit language b [] d = rw (differs is_digit 46 b refl d, d) refl
part-digit language b (c ∷ cs) d =
    rw (differs is_digit 101 b refl d, differs is_digit 69 b refl d, differs is_digit 112 b refl d, differs is_digit 80 b refl d, differs is_digit 46 b refl d, d) refl

row-digits : (language : Language) (bs : List ℕ) → AreDigits bs → is_row (number_part language) 0 bs ≡ true
unfolding AreDigits
row-digits language [] h = refl
row-digits language (b ∷ bs) h =
    subst (λ n. (nat_lt 0 n && is_row (number_part language) (n - 1) bs) ≡ true) (sym (part-digit language b bs h.0)) (row-digits language bs h.1)

both : (a b : Bool) → a ≡ true → b ≡ true → (a && b) ≡ true
both true b is h = h
both false b is h = cc

first_of : (a b : Bool) → a ≡ true → (a || b) ≡ true
first_of true b is = refl
first_of false b is = cc

begins-digit : (b : ℕ) (bs : List ℕ) → is_digit b ≡ true → begins_number (b ∷ bs) ≡ true
begins-digit b [] d = d
begins-digit b (c ∷ cs) d = first_of (is_digit b) _ d

number-digits : (language : Language) (bs : List ℕ) → IsSome bs → AreDigits bs → is_number language bs ≡ true
unfolding AreDigits IsSome
number-digits language [] some h = absurd some
number-digits language (b ∷ bs) some h = both (begins_number (b ∷ bs)) (is_row (number_part language) 0 (b ∷ bs)) (begins-digit b bs h.0) (row-digits language (b ∷ bs) h)

glyph-digit : (n : ℕ) → is_digit (digit_glyph false (n % 10)) ≡ true
glyph-digit n = let low : n % 10 < 10 = omega arith in agree_below_at (λ d. is_digit (digit_glyph false d)) (λ d. true) 10 (n % 10) refl low

onto-digits : (k n : ℕ) (bs : List ℕ) → AreDigits bs → AreDigits (digits_onto k 10 false n bs)
unfolding AreDigits
onto-digits zero n bs h = h
onto-digits (suc k) n bs h = go (n / 10 == 0) (onto-digits k (n / 10) (digit_glyph false (n % 10) ∷ bs) (glyph-digit n, h))
  where
    go : (t : Bool) → AreDigits (digits_onto k 10 false (n / 10) (digit_glyph false (n % 10) ∷ bs))
        → AreDigits (cond t (digit_glyph false (n % 10) ∷ bs) (digits_onto k 10 false (n / 10) (digit_glyph false (n % 10) ∷ bs)))
    go true more = (glyph-digit n, h)
    go false more = more

onto-some : (k n b : ℕ) (bs : List ℕ) → IsSome (digits_onto k 10 false n (b ∷ bs))
unfolding IsSome
onto-some zero n b bs = tt
onto-some (suc k) n b bs = go (n / 10 == 0) (onto-some k (n / 10) (digit_glyph false (n % 10)) (b ∷ bs))
  where
    go : (t : Bool) → IsSome (digits_onto k 10 false (n / 10) (digit_glyph false (n % 10) ∷ b ∷ bs))
        → IsSome (cond t (digit_glyph false (n % 10) ∷ b ∷ bs) (digits_onto k 10 false (n / 10) (digit_glyph false (n % 10) ∷ b ∷ bs)))
    go true more = tt
    go false more = more

first-some : (k n : ℕ) → IsSome (digits_onto (suc k) 10 false n [])
unfolding IsSome
first-some k n = go (n / 10 == 0)
  where
    go : (t : Bool) → IsSome (cond t (digit_glyph false (n % 10) ∷ []) (digits_onto k 10 false (n / 10) (digit_glyph false (n % 10) ∷ [])))
    go true = tt
    go false = onto-some k (n / 10) (digit_glyph false (n % 10)) []

decimal-by : (language : Language) (k n : ℕ) → is_number language (digits_onto (suc k) 10 false n []) ≡ true
unfolding AreDigits
decimal-by language k n = number-digits language (digits_onto (suc k) 10 false n []) (first-some k n) (onto-digits (suc k) n [] tt)

pub decimal-number : (language : Language) (n : ℕ) → is_number language (decimal n) ≡ true
unfolding digits
decimal-number language n = decimal-by language 63 n
