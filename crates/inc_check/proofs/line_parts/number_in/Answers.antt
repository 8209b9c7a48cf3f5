use Rattle.std.proofs.Common.{◌≡◌, ◌==◌, ℕ, ◌<◌, ◌≤◌, ◌⊎◌, false, List, Some, None, length, take, get_or, sym, ap, ◌∙◌, subst, arith, inl, inr}
use Rattle.std.specs.Prelude.{if◌then◌else◌, nat_le, decimal}
use Rattle.std.specs.Char.{digit_value, is_ascii_digit}
use Rattle.std.specs.Str.Parse.{digits_value, AllDigits}
use Rattle.std.specs.Int.{IsInRange}
use Rattle.std.proofs.lemmas.Bool.{cases_Bool, le-leb, leb-true, eqb-true}
use Rattle.std.proofs.lemmas.Bool.Decides.{nat_tests}
use Rattle.std.proofs.lemmas.List.{take_all, length-take-le}
use Rattle.std.proofs.lemmas.Fmt.{decimal-digits_value, digits_value-decimal}
use Rattle.std.proofs.lemmas.Int.Digits.{digits_more, digits_value_more}
use Rattle.std.proofs.lemmas.Str.Parse.{digits_value_short, digit_at}
use Rattle.inc_check.specs.Texts.{greatest_number}
use Rattle.inc_check.specs.Reading.{number_in}
use Rattle.inc_check.proofs.DigitLemmas.{digit_is, more_value}
use Rattle.inc_check.proofs.Numerals.{own, number_in-decimal, number_in-None, length-numeral, no_leading_zero, all_digits}
use Rattle.inc_check.proofs.line_parts.number_in.Goals as goal

-- none or too many
bad_length : (bs : List ℕ) → (length bs ≡ 0) ⊎ (10 < length bs) → None ≡ number_in bs
bad_length bs (inl none) = sym (number_in-None bs (λ n low e. let long = length-numeral bs n low e in absurd (omega arith)))
bad_length bs (inr many) = sym (number_in-None bs (λ n low e. let long = length-numeral bs n low e in absurd (omega arith)))

pub returns-then-is_empty : goal.returns-then-is_empty
returns-then-is_empty c = bad_length c.args.digits.now (elim c.then-is_empty.either [
  | inl e ↦ inl (eqb-true (length c.args.digits.now) 0 (sym c.is_empty.ensures ∙ e))
  | inr e ↦ inr e.1
])

pub returns-then-digits-gt1 : goal.returns-then-digits-gt1
returns-then-digits-gt1 c =
    sym (number_in-None c.args.digits.now (λ n low e. no_leading_zero c.args.digits.now n low e c.if-digits-eq48.true c.if-digits-gt1.true))

no_digit : (b : ℕ) → IsInRange 48 57 b → is_ascii_digit b ≡ false → ⊥
no_digit b within e = let low = within.0 in let high = within.1 in grind (arith, nat_tests)

pub returns-then-not-is_ascii_digit : goal.returns-then-not-is_ascii_digit
returns-then-not-is_ascii_digit c =
    sym (number_in-None c.args.digits.now (λ n low e.
    let within = digit_at c.args.digits.now c.loop-digit.digit-index (all_digits c.args.digits.now n low e) c.loop-digit-test.true in
    no_digit (get_or c.args.digits.now c.loop-digit.digit-index 0) within (sym c.is_ascii_digit.ensures.value ∙ c.if-not-is_ascii_digit.true)))

value_low : (bs : List ℕ) (i : ℕ) → AllDigits 10 (take i bs) → i < length bs → length bs ≤ 10 → digits_value 10 (take i bs) < 1_000_000_000
value_low bs i all more few = digits_value_short own (take i bs) 9 all (omega (arith, length-take-le i bs (omega arith)))

pub overflow_mul-value : goal.overflow_mul-value
overflow_mul-value c =
    let low = value_low c.args.digits.now c.loop-digit.digit-index c.loop-digit.invariant.digits c.loop-digit-test.true c.if-digits-gt-MOST_DIGITS.false in
    let is = c.loop-digit.invariant.value in omega arith

pub overflow_add-value : goal.overflow_add-value
overflow_add-value c =
    let low = value_low c.args.digits.now c.loop-digit.digit-index c.loop-digit.invariant.digits c.loop-digit-test.true c.if-digits-gt-MOST_DIGITS.false in
    let is = c.loop-digit.invariant.value in
    let more = c.from.ensures in
    let digit = digit_is c.args.digits.now c.loop-digit.digit-index (sym c.is_ascii_digit.ensures.value ∙ c.if-not-is_ascii_digit.false) in omega arith

pub loop-digit-preserved : goal.loop-digit-preserved
loop-digit-preserved c = record {
  digits = digits_more 10 c.args.digits.now c.loop-digit.digit-index c.loop-digit-test.true c.loop-digit.invariant.digits (digit_is c.args.digits.now c.loop-digit.digit-index (sym c.is_ascii_digit.ensures.value ∙ c.if-not-is_ascii_digit.false)).1;
  value = rw (digits_value_more 10 c.args.digits.now c.loop-digit.digit-index c.loop-digit-test.true)
      (more_value c.loop-digit.value (digits_value 10 (take c.loop-digit.digit-index c.args.digits.now)) (digit_value (get_or c.args.digits.now c.loop-digit.digit-index 0)) (get_or c.args.digits.now c.loop-digit.digit-index 0) c.from.result
      c.loop-digit.invariant.value (digit_is c.args.digits.now c.loop-digit.digit-index (sym c.is_ascii_digit.ensures.value ∙ c.if-not-is_ascii_digit.false)).0 c.from.ensures);
}

value_or_none : (bs : List ℕ) (v : ℕ) → v ≡ digits_value 10 bs → AllDigits 10 bs → 0 < length bs → (get_or bs 0 0 ≡ 48 → length bs ≡ 1) → v < 10_000_000_000 → (if nat_le v greatest_number then Some v else None) ≡ number_in bs
value_or_none bs v is all some lead few = elim (cases_Bool (nat_le v greatest_number)) [
  | inl e ↦ rw e (sym (number_in-decimal bs v (leb-true v greatest_number e) (ap decimal is ∙ decimal-digits_value own bs all some lead (omega arith))))
  | inr e ↦ rw e (sym (number_in-None bs (λ n low d.
      let same : v ≡ n = is ∙ ap (digits_value 10) (sym d) ∙ digits_value-decimal own n (omega arith) in
      let fits = le-leb v greatest_number (omega arith) in cc)))
]

whole_value : (bs : List ℕ) (v i : ℕ) → v ≡ digits_value 10 (take i bs) → AllDigits 10 (take i bs) → length bs ≤ i → (v ≡ digits_value 10 bs) × AllDigits 10 bs
whole_value bs v i is all done = (is ∙ ap (digits_value 10) (take_all i bs done), subst (AllDigits 10) (take_all i bs done) all)

pub returns : goal.returns
returns c =
    let all = whole_value c.args.digits.now c.loop-digit.value c.loop-digit.digit-index c.loop-digit.invariant.value c.loop-digit.invariant.digits c.loop-digit-test.false in
    c.small.ensures ∙ value_or_none c.args.digits.now c.loop-digit.value all.0 all.1
    (not_empty c.args.digits.now (sym c.is_empty.ensures ∙ c.if-is_empty.false)) (lead_of c.args.digits.now (not_empty c.args.digits.now (sym c.is_empty.ensures ∙ c.if-is_empty.false)) c.else-digits-eq48.either)
    (low_of c.args.digits.now c.loop-digit.value all.0 all.1 c.if-digits-gt-MOST_DIGITS.false)
  where
    not_empty : (bs : List ℕ) → (length bs == 0) ≡ false → 0 < length bs
    not_empty bs e = grind (arith, nat_tests)

    lead_of : (bs : List ℕ) → 0 < length bs → ((get_or bs 0 0 ≡ 48) × (length bs ≤ 1)) ⊎ (get_or bs 0 0 ≡ 48 → ⊥) → get_or bs 0 0 ≡ 48 → length bs ≡ 1
    lead_of bs some (inl one) is = let short = one.1 in omega arith
    lead_of bs some (inr other) is = absurd (other is)

    low_of : (bs : List ℕ) (v : ℕ) → v ≡ digits_value 10 bs → AllDigits 10 bs → length bs ≤ 10 → v < 10_000_000_000
    low_of bs v is all few = rw is (digits_value_short own bs 10 all few)
