-- Identifiers and numbers: the row of parts from the front is the longest prefix that lies in the class.
use Rattle.std.proofs.Common.{◌≡◌, ℕ, zero, suc, ◌<◌, ◌≤◌, Bool, true, false, ◌&&◌, List, [], ◌∷◌, take, cond, nat_lt, ◌==◌, refl, sym, ap, ◌∙◌, subst, arith, ⊎_elim}
use Rattle.std.proofs.lemmas.Bool.{cond-true, cond-false, cond_both, and_parts, and_from, and_left, and_right, or_parts, or_from, or_left, or_cases, ltb-true, ltb-false, false_from_ne_true}
use Rattle.std.proofs.lemmas.Bool.Decides.{nat_tests}
use Rattle.inc_token.specs.Spellings.{is_digit, is_letter, is_exponent_letter, universal_len, begins_nondigit, is_dollar, nonletter_len, nondigit_len, identifier_part, number_part, begins_number, is_row, is_identifier, is_number}
use Rattle.inc_text.specs.Languages.{is_gnu}
use Rattle.inc_token.specs.Scanning.{row_len, begins_with_sign}
use Rattle.inc_token.proofs.Lengths.{identifier_len, number_len}
use Rattle.inc_token.proofs.Rows.{differs, row_line, row_passes, row_fails, part_in_row, two_in_row}
use Rattle.inc_token.proofs.Parts.{identifier_parts, number_parts, nondigit_kept, number_part-is}
use Rattle.inc_token.proofs.Longest.{IsLongest}
use Rattle.inc_text.specs.declared.languages.Language.{Language}

pub universal_other : (b : ℕ) (bs : List ℕ) → (b == 92) ≡ false → universal_len (b ∷ bs) ≡ 0
universal_other b [] other = refl
universal_other b (c ∷ cs) other = rw other refl

-- a byte that begins no non-digit
pub nonletter_other : (language : Language) (b : ℕ) (bs : List ℕ) → begins_nondigit language b ≡ false → nonletter_len language (b ∷ bs) ≡ 0
nonletter_other language b bs other =
    let parts = or_parts (b == 92) (is_dollar language b) other in
    cond-false (is_dollar language b) 1 (universal_len (b ∷ bs)) parts.1 ∙ universal_other b bs parts.0

-- a test that neither of the bytes passes with which one begins
pub no_start : (language : Language) (f : ℕ → Bool) (b : ℕ) → f 92 ≡ false → f 36 ≡ false → f b ≡ true → begins_nondigit language b ≡ false
no_start language f b backslash dollar passes =
    or_from (b == 92) (is_dollar language b) (differs f 92 b backslash passes)
    (and_left (b == 36) (is_gnu language) (differs f 36 b dollar passes))

digit_no_letter : (b : ℕ) → is_digit b ≡ true → is_letter b ≡ false
digit_no_letter b digit = false_from_ne_true (is_letter b) (λ letter. absurd (grind (arith, nat_tests)))

pub digit_no_nondigit : (language : Language) (b : ℕ) (bs : List ℕ) → is_digit b ≡ true → nondigit_len language (b ∷ bs) ≡ 0
digit_no_nondigit language b bs digit =
    cond-false (is_letter b) 1 (nonletter_len language (b ∷ bs)) (digit_no_letter b digit) ∙ nonletter_other language b bs (no_start language is_digit b refl refl digit)

nondigit_in_part : (language : Language) (text : List ℕ) → nondigit_len language text ≤ identifier_part language text
nondigit_in_part language [] = omega arith
nondigit_in_part language (b ∷ bs) =
    cond_both (is_digit b) 1 (nondigit_len language (b ∷ bs)) (λ n. nondigit_len language (b ∷ bs) ≤ n)
    (λ digit. omega (arith, digit_no_nondigit language b bs digit)) (λ _. omega arith)

pub nondigit_in_row : (language : Language) (text : List ℕ) → nondigit_len language text ≤ row_len (identifier_part language) 0 text
nondigit_in_row language text = omega (arith, nondigit_in_part language text, part_in_row (identifier_part language) (identifier_parts language) text)

pub longest_identifier : (language : Language) (text : List ℕ) → IsLongest (is_identifier language) text (identifier_len language text)
longest_identifier language text =
    let n = row_len (identifier_part language) 0 text in
    let first = nat_lt 0 (nondigit_len language text) in
    cond_both first n 0 (λ k. IsLongest (is_identifier language) text k)
    (λ begins.
    let some = ltb-true 0 (nondigit_len language text) begins in
    let enough = nondigit_in_row language text in
    let same = nondigit_kept language text n (omega arith) enough in
    record {
      within = row_line (identifier_part language) (identifier_parts language) 0 text (omega arith);
      passes = λ _. and_from (nat_lt 0 (nondigit_len language (take n text))) (is_row (identifier_part language) 0 (take n text))
          (ap (λ k. nat_lt 0 k) same ∙ begins) (row_passes (identifier_part language) (identifier_parts language) 0 text (omega arith));
      fails = λ m above below. and_right (nat_lt 0 (nondigit_len language (take m text))) (is_row (identifier_part language) 0 (take m text))
          (row_fails (identifier_part language) (identifier_parts language) 0 text m (omega arith) above below);
    })
    (λ other.
    let none = ltb-false 0 (nondigit_len language text) other in
    record {
      within = omega arith;
      passes = λ some. absurd (omega arith);
      fails = λ m above below. and_left (nat_lt 0 (nondigit_len language (take m text))) (is_row (identifier_part language) 0 (take m text))
          (ap (λ k. nat_lt 0 k) (nondigit_kept language text m above (omega (arith, none))) ∙ other);
    })

begins_digit : (a : ℕ) (xs : List ℕ) → is_digit a ≡ true → begins_number (a ∷ xs) ≡ true
begins_digit a [] digit = digit
begins_digit a (b ∷ bs) digit = or_left (is_digit a) ((a == 46) && is_digit b) digit

digit_is_part : (language : Language) (b : ℕ) (bs : List ℕ) → is_digit b ≡ true → 0 < number_part language (b ∷ bs)
digit_is_part language b bs digit =
    let P : ℕ → Type 0 = λ n. 0 < n in
    let exponent = is_exponent_letter b && begins_with_sign bs in
    subst P (sym (number_part-is language b bs))
    (cond_both (b == 46) 1 (cond exponent 2 (identifier_part language (b ∷ bs))) P (λ _. omega arith)
    (λ _. cond_both exponent 2 (identifier_part language (b ∷ bs)) P (λ _. omega arith)
    (λ _. subst P (sym (cond-true (is_digit b) 1 (nondigit_len language (b ∷ bs)) digit)) (omega arith))))

dot_is_part : (language : Language) (b : ℕ) (bs : List ℕ) → (b == 46) ≡ true → 0 < number_part language (b ∷ bs)
dot_is_part language b bs dot =
    subst (λ n. 0 < n) (sym (number_part-is language b bs ∙ cond-true (b == 46) 1 (cond (is_exponent_letter b && begins_with_sign bs) 2 (identifier_part language (b ∷ bs))) dot)) (omega arith)

pub first_is_part : (language : Language) (a : ℕ) (xs : List ℕ) → begins_number (a ∷ xs) ≡ true → 0 < number_part language (a ∷ xs)
first_is_part language a [] begins = digit_is_part language a [] begins
first_is_part language a (b ∷ bs) begins =
    ⊎_elim (λ digit. digit_is_part language a (b ∷ bs) digit)
    (λ dot. let parts = and_parts (a == 46) (is_digit b) dot in dot_is_part language a (b ∷ bs) parts.0)
    (or_cases (is_digit a) ((a == 46) && is_digit b) begins)

begins_not : (text : List ℕ) (m : ℕ) → begins_number text ≡ false → begins_number (take m text) ≡ false
begins_not text zero other = refl
begins_not [] (suc m) other = refl
begins_not (a ∷ []) (suc zero) other = other
begins_not (a ∷ []) (suc (suc m)) other = other
begins_not (a ∷ b ∷ bs) (suc zero) other = let parts = or_parts (is_digit a) ((a == 46) && is_digit b) other in parts.0
begins_not (a ∷ b ∷ bs) (suc (suc m)) other = other

begins_taken : (language : Language) (text : List ℕ) (n : ℕ) → row_len (number_part language) 0 text ≡ n → begins_number text ≡ true → begins_number (take n text) ≡ true
begins_taken language [] n e begins = cc
begins_taken language (a ∷ xs) zero e begins =
    absurd (omega (arith, first_is_part language a xs begins, part_in_row (number_part language) (number_parts language) (a ∷ xs), e))
begins_taken language (a ∷ []) (suc n) e begins = begins_digit a (take n []) begins
begins_taken language (a ∷ b ∷ bs) (suc zero) e begins =
    ⊎_elim (λ digit. digit)
    (λ dot.
    let parts = and_parts (a == 46) (is_digit b) dot in
    absurd (omega (arith, e, two_in_row (number_part language) (number_parts language) a b bs (dot_is_part language a (b ∷ bs) parts.0) (digit_is_part language b bs parts.1))))
    (or_cases (is_digit a) ((a == 46) && is_digit b) begins)
begins_taken language (a ∷ b ∷ bs) (suc (suc n)) e begins = begins

pub longest_number : (language : Language) (text : List ℕ) → IsLongest (is_number language) text (number_len language text)
longest_number language text =
    let n = row_len (number_part language) 0 text in
    cond_both (begins_number text) n 0 (λ k. IsLongest (is_number language) text k)
    (λ begins. record {
      within = row_line (number_part language) (number_parts language) 0 text (omega arith);
      passes = λ _. and_from (begins_number (take n text)) (is_row (number_part language) 0 (take n text))
          (begins_taken language text n refl begins) (row_passes (number_part language) (number_parts language) 0 text (omega arith));
      fails = λ m above below. and_right (begins_number (take m text)) (is_row (number_part language) 0 (take m text))
          (row_fails (number_part language) (number_parts language) 0 text m (omega arith) above below);
    })
    (λ other. record {
      within = omega arith;
      passes = λ some. absurd (omega arith);
      fails = λ m above below. and_left (begins_number (take m text)) (is_row (number_part language) 0 (take m text)) (begins_not text m other);
    })
