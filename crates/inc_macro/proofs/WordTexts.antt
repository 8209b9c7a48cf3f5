-- Words of the command line.
use Rattle.std.proofs.Common.{◌≡◌, ℕ, zero, suc, ◌+◌, ◌-◌, ◌<◌, ◌≤◌, ◌==◌, true, false, not, List, [], ◌∷◌, ◌++◌, Some, None, length, position, nat_lt, cond, refl, sym, ap, arith, ⊎_elim, set, codes, ◌∙◌}
use Rattle.std.specs.List.{prefix_len}
use Rattle.std.proofs.lemmas.Bool.{cases_Bool, ltb-true, ltb-false}
use Rattle.std.proofs.lemmas.List.{set-append_right}
use Rattle.inc_macro.specs.Macros.{word_text}

found_place : (n len at : ℕ) → cond (nat_lt n len) (Some n) None ≡ Some at → (n ≡ at) × (n < len)
found_place n len at found =
    ⊎_elim (λ (is : nat_lt n len ≡ true). let same : Some n ≡ Some at = rw is at found in (cc, ltb-true n len is))
    (λ (other : nat_lt n len ≡ false). let none : None ≡ Some at = rw other at found in cc)
    (cases_Bool (nat_lt n len))

no_place : (n len : ℕ) → cond (nat_lt n len) (Some n) None ≡ None → len ≤ n
no_place n len none =
    ⊎_elim (λ (is : nat_lt n len ≡ true). let found : Some n ≡ None = rw is at none in cc)
    (λ (other : nat_lt n len ≡ false). ltb-false n len other)
    (cases_Bool (nat_lt n len))

-- how many bytes are before the first `=`
abbrev before_equals : List ℕ → ℕ
before_equals word = prefix_len (λ b. not (b == 61)) word

set_first : (word : List ℕ) (m : ℕ) → before_equals word ≡ m → m < length word → set word m 32 ≡ word_text word
set_first [] m is less = absurd (omega arith)
set_first (b ∷ bs) zero is less =
    ⊎_elim (λ (here : (b == 61) ≡ true). rw here refl)
    (λ (later : (b == 61) ≡ false). let more : 1 + before_equals bs ≡ 0 = rw later at is in absurd (omega arith))
    (cases_Bool (b == 61))
set_first (b ∷ bs) (suc m) is less =
    ⊎_elim (λ (here : (b == 61) ≡ true). let none : 0 ≡ suc m = rw here at is in absurd (omega arith))
    (λ (later : (b == 61) ≡ false).
    let more : 1 + before_equals bs ≡ suc m = rw later at is in
    rw later (ap (λ rest. b ∷ rest) (set_first bs m (omega arith) (omega arith))))
    (cases_Bool (b == 61))

word_text-set : (word : List ℕ) (at : ℕ) → Some at ≡ position (λ b. b == 61) word → set word at 32 ≡ word_text word
word_text-set word at found =
    let place = found_place (before_equals word) (length word) at (sym found) in
    let is = place.0 in
    set_first word at is (omega (arith, place.1))

-- the same of a word that was added to a text
pub word_text-behind : (text word : List ℕ) (begin at : ℕ) → begin ≡ length text → Some at ≡ position (λ b. b == 61) word → set (text ++ word) (begin + at) 32 ≡ text ++ word_text word
word_text-behind text word begin at is found =
    let offset : begin + at - begin ≡ at = omega arith in
    set-append_right text word begin (begin + at) 32 (sym is) (omega arith) ∙ ap (λ i. text ++ set word i 32) offset ∙ ap (λ (bs : List ℕ). text ++ bs) (word_text-set word at found)

pub word_text-none : (word : List ℕ) → None ≡ position (λ b. b == 61) word → word ++ codes " 1" ≡ word_text word
word_text-none word none = at_end word (no_place (before_equals word) (length word) (sym none))
  where
    at_end : (bs : List ℕ) → length bs ≤ before_equals bs → bs ++ codes " 1" ≡ word_text bs
    at_end [] le = refl
    at_end (b ∷ bs) le =
        ⊎_elim (λ (here : (b == 61) ≡ true). let none' : suc (length bs) ≤ 0 = rw here at le in absurd (omega arith))
        (λ (later : (b == 61) ≡ false).
        let more : suc (length bs) ≤ 1 + before_equals bs = rw later at le in
        rw later (ap (λ rest. b ∷ rest) (at_end bs (omega arith))))
        (cases_Bool (b == 61))
