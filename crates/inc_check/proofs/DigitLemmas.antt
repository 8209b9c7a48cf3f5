-- Digits that are read one by one, and the number that a text begins with.
use Rattle.std.proofs.Common.{◌≡◌, ◌==◌, ℕ, zero, suc, ◌+◌, ◌-◌, ◌*◌, ◌<◌, ◌≤◌, true, false, List, [], ◌∷◌, Some, length, take, get_or, inl, inr, refl, sym, ap, ◌∙◌, arith}
use Rattle.std.specs.Prelude.{nat_le, decimal, position}
use Rattle.std.specs.Char.{digit_value, is_ascii_digit}
use Rattle.std.specs.Int.{IsInRange}
use Rattle.std.specs.List.{prefix_len}
use Rattle.std.specs.Str.Parse.{digits_value, AllDigits}
use Rattle.std.proofs.lemmas.Bool.{and_parts, cases_eq, leb-true, eq-eqb, eqb-true, ne_eqb}
use Rattle.std.proofs.lemmas.List.{get_or-take, length-take-le, take-take}
use Rattle.std.proofs.lemmas.List.Quantifiers.{position-Some}
use Rattle.std.proofs.lemmas.Fmt.{decimal-digits_value}
use Rattle.std.proofs.lemmas.Str.{digit_value_digit}
use Rattle.std.proofs.lemmas.Str.Parse.{digits_value_short, digit_at}
use Rattle.inc_check.specs.Reading.{is_in_word, number_in}
use Rattle.inc_check.proofs.Numerals.{own, number_in-decimal}
use Rattle.inc_check.proofs.FrontLemmas.{line_ends, blank_here}

---- a digit

is_digit : (b : ℕ) → is_ascii_digit b ≡ true → IsInRange 48 57 b
is_digit b e = let parts = and_parts (nat_le 48 b) (nat_le b 57) e in (leb-true 48 b parts.0, leb-true b 57 parts.1)

-- what the byte of a digit says
pub digit_is : (bs : List ℕ) (i : ℕ) → is_ascii_digit (get_or bs i 0) ≡ true → (digit_value (get_or bs i 0) + 48 ≡ get_or bs i 0) × (digit_value (get_or bs i 0) < 10)
digit_is bs i e =
    let within = is_digit (get_or bs i 0) e in
    let low = within.0 in
    let high = within.1 in
    let is = digit_value_digit (get_or bs i 0) within in (is, more (digit_value (get_or bs i 0)) (get_or bs i 0) is high)
  where
    more : (v b : ℕ) → v + 48 ≡ b → b ≤ 57 → v < 10
    more v b is high = omega arith

-- fewer than nine digits
pub few_low : (bs : List ℕ) (i : ℕ) → AllDigits 10 (take i bs) → i < 9 → i ≤ length bs → digits_value 10 (take i bs) < 100_000_000
few_low bs i all few within = digits_value_short own (take i bs) 8 all (omega (arith, length-take-le i bs within))

pub more_value : (v w d b r : ℕ) → v ≡ w → d + 48 ≡ b → r ≡ b - 48 → v * 10 + r ≡ w * 10 + d
more_value v w d b r same is rest = omega arith

---- the number that a text begins with

-- the first space is behind the digits
word_here : (text : List ℕ) (k : ℕ) → AllDigits 10 (take k text) → get_or text k 0 ≡ 32 → prefix_len is_in_word text ≡ k
word_here [] k all at = absurd (omega arith)
word_here (b ∷ bs) zero all at = rw (eq-eqb b 32 at) refl
word_here (b ∷ bs) (suc k) all at =
    let digit = digit_at (b ∷ take k bs) 0 all (omega arith) in
    let low = digit.0 in
    let other : (b == 32) ≡ false = ne_eqb b 32 (λ q. omega arith) in
    let more = word_here bs k all.1 at in
    rw other (omega arith)

number_here : (text : List ℕ) (k value : ℕ) → AllDigits 10 (take k text) → value ≡ digits_value 10 (take k text) → 0 < k → k ≤ 9 → k ≤ length text → (get_or text 0 0 ≡ 48 → ⊥) → number_in (take k text) ≡ Some value
number_here text k value all is some few within lead =
    let long : length (take k text) ≡ k = length-take-le k text within in
    let low : digits_value 10 (take k text) < 1_000_000_000 = digits_value_short own (take k text) 9 all (omega arith) in
    number_in-decimal (take k text) value (omega arith)
    (ap decimal is ∙ decimal-digits_value own (take k text) all (omega arith) (λ zero. absurd (lead (sym (get_or-take k text 0 0 some) ∙ zero))) (omega arith))

-- a space is no end of a line
below_end : (text : List ℕ) (end k : ℕ) → position (λ b. b == 10) text ≡ Some end → k ≤ end → get_or text k 0 ≡ 32 → k < end
below_end text end k e low at =
    let found = position-Some (λ b. b == 10) text end 0 e in
    let ends : get_or text end 0 ≡ 10 = eqb-true (get_or text end 0) 10 found.1 in
    elim (cases_eq k end) [
      | inl same ↦ let here : get_or text k 0 ≡ 10 = ap (λ (i : ℕ). get_or text i 0) same ∙ ends in absurd (omega arith)
      | inr other ↦ omega arith
    ]

pub front_is : (text : List ℕ) (end k value : ℕ) → position (λ b. b == 10) text ≡ Some end → k ≤ end → k ≤ 9 → AllDigits 10 (take k text) → value ≡ digits_value 10 (take k text) → 0 < k
    → (get_or text 0 0 ≡ 48 → ⊥) → get_or text k 0 ≡ 32 → (Some k ≡ position (λ b. b == 32) (take end text)) × (Some value ≡ number_in (take k (take end text)))
front_is text end k value e low few all is some lead at =
    let within : end ≤ length text = omega (arith, (line_ends text end e).1) in (
      blank_here text end k within (sym (word_here text k all at)) (below_end text end k e low at),
      sym (ap number_in (take-take k end text low) ∙ number_here text k value all is some few (omega arith) lead),
    )
