-- What the digits of a text say.
use Rattle.std.proofs.Common.{◌≡◌, ℕ, zero, suc, ◌<◌, ◌≤◌, Bool, true, false, List, Option, Some, None, length, get_or, refl, sym, ap, ◌∙◌, subst, arith, ◌&&◌}
use Rattle.std.specs.Prelude.{if◌then◌else◌, nat_le, bytes_eq, decimal}
use Rattle.std.specs.Str.Parse.{digits_value, AllDigits}
use Rattle.std.proofs.lemmas.Bool.{le-leb, leb-true, and_parts}
use Rattle.std.proofs.lemmas.Slice.Eq.{bytes_eq-Decides}
use Rattle.std.proofs.lemmas.Str.Parse.{IsNumeralModel, numerals_by_value, tells_digits}
use Rattle.std.proofs.lemmas.Fmt.{digits_decimal, digits_value-decimal, decimal_nonempty, length-decimal-le, first_decimal, decimal_digit}
use Rattle.inc_check.specs.Texts.{greatest_number}
use Rattle.inc_check.specs.Reading.{number_in}

pub own : IsNumeralModel (AllDigits 10) (digits_value 10)
own = numerals_by_value (AllDigits 10) tells_digits

chosen : (t : Bool) (m n : ℕ) → (if t then Some m else None) ≡ Some n → (t ≡ true) × (m ≡ n)
chosen true m n e = (refl, cc)
chosen false m n e = cc

when : (bs : List ℕ) (m n : ℕ) → m ≡ n → n ≤ greatest_number → decimal n ≡ bs → (if nat_le m greatest_number && bytes_eq (decimal m) bs then Some m else None) ≡ Some n
when bs m n same low e =
    rw same (rw (le-leb n greatest_number low, (bytes_eq-Decides (decimal n) bs).1 e) refl)

-- a number is read from its digits
pub number_in-decimal : (bs : List ℕ) (n : ℕ) → n ≤ greatest_number → decimal n ≡ bs → number_in bs ≡ Some n
number_in-decimal bs n low e =
    when bs (digits_value 10 bs) n (ap (digits_value 10) (sym e) ∙ digits_value-decimal own n (omega arith)) low e

-- what is read are the digits of a number
pub number_in-Some : (bs : List ℕ) (n : ℕ) → number_in bs ≡ Some n → (decimal n ≡ bs) × (n ≤ greatest_number)
number_in-Some bs n e =
    let both = chosen (nat_le (digits_value 10 bs) greatest_number && bytes_eq (decimal (digits_value 10 bs)) bs) (digits_value 10 bs) n e in
    let parts = and_parts (nat_le (digits_value 10 bs) greatest_number) (bytes_eq (decimal (digits_value 10 bs)) bs) both.0 in (
      sym (ap decimal both.1) ∙ (bytes_eq-Decides (decimal (digits_value 10 bs)) bs).0 parts.1,
      subst (λ m. m ≤ greatest_number) both.1 (leb-true (digits_value 10 bs) greatest_number parts.0),
    )

some_or_none : (o : Option ℕ) → ((n : ℕ) → o ≡ Some n → ⊥) → o ≡ None
some_or_none None never = refl
some_or_none (Some n) never = absurd (never n refl)

-- nothing is read from what are no digits of a number
pub number_in-None : (bs : List ℕ) → ((n : ℕ) → n ≤ greatest_number → decimal n ≡ bs → ⊥) → number_in bs ≡ None
number_in-None bs bad = some_or_none (number_in bs) (λ n e. let is = number_in-Some bs n e in bad n is.1 is.0)

-- a number that is not too great has one to ten digits
pub length-numeral : (bs : List ℕ) (n : ℕ) → n ≤ greatest_number → decimal n ≡ bs → (0 < length bs) × (length bs ≤ 10)
length-numeral bs n low e =
    rw (← e) (decimal_nonempty n (omega arith), length-decimal-le 10 n (omega arith) (omega arith) (omega arith))

-- and no leading zero
pub no_leading_zero : (bs : List ℕ) (n : ℕ) → n ≤ greatest_number → decimal n ≡ bs → get_or bs 0 0 ≡ 48 → 1 < length bs → ⊥
no_leading_zero bs zero low e lead long = let one = ap length (sym e ∙ decimal_digit 0 (omega arith)) in absurd (omega arith)
no_leading_zero bs (suc n) low e lead long =
    let first = first_decimal (suc n) (omega arith) (omega arith) in
    let same = ap (λ ds. get_or ds 0 0) e in absurd (omega arith)

pub all_digits : (bs : List ℕ) (n : ℕ) → n ≤ greatest_number → decimal n ≡ bs → AllDigits 10 bs
all_digits bs n low e = subst (AllDigits 10) e (digits_decimal own n (omega arith))
