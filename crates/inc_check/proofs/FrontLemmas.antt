-- The front of a text: up to the first byte of a kind, and its parts.
use Rattle.std.proofs.Common.{◌≡◌, ℕ, zero, suc, ◌+◌, ◌-◌, ◌<◌, ◌≤◌, Bool, true, false, not, cond, List, [], ◌∷◌, Option, Some, None, length, take, drop, refl, sym, ap, ap₂, ◌∙◌, arith, inl, inr}
use Rattle.std.specs.Prelude.{◌==◌, ◌||◌, nat_lt, position}
use Rattle.std.specs.List.{prefix_len, list_any}
use Rattle.std.proofs.lemmas.Bool.{cases_Bool, lt-ltb, le-ltb, ltb-true}
use Rattle.std.proofs.lemmas.List.{drop-take, length-take-le, length-drop}
use Rattle.std.proofs.lemmas.List.Quantifiers.{position-Some}
use Rattle.inc_graph.specs.Marks.{Mark, Cost}
use Rattle.inc_check.specs.Reading.{is_in_line, is_in_word, mark_with, mark_at_blank, mark_in, cost_with, cost_at_blank, cost_in, number_in}

---- fronts of bytes that pass

-- a front that ends within a part of the text ends there in the part too
pub front_in : (q : ℕ → Bool) (xs : List ℕ) (n : ℕ) → prefix_len q xs < n → prefix_len q (take n xs) ≡ prefix_len q xs
front_in q [] zero e = refl
front_in q [] (suc n) e = refl
front_in q (x ∷ xs) zero e = absurd (omega arith)
front_in q (x ∷ xs) (suc n) e = step (q x) n (prefix_len q xs) (prefix_len q (take n xs)) e (front_in q xs n)
  where
    step : (b : Bool) (n m k : ℕ) → cond b (1 + m) 0 < suc n → (m < n → k ≡ m) → cond b (1 + k) 0 ≡ cond b (1 + m) 0
    step true n m k e f = ap (λ i. 1 + i) (f (omega arith))
    step false n m k e f = refl

-- one that does not is the whole part
pub front_over : (q : ℕ → Bool) (xs : List ℕ) (n : ℕ) → n ≤ prefix_len q xs → prefix_len q (take n xs) ≡ n
front_over q [] zero e = refl
front_over q [] (suc n) e = absurd (omega arith)
front_over q (x ∷ xs) zero e = refl
front_over q (x ∷ xs) (suc n) e = step (q x) n (prefix_len q xs) (prefix_len q (take n xs)) e (front_over q xs n)
  where
    step : (b : Bool) (n m k : ℕ) → suc n ≤ cond b (1 + m) 0 → (n ≤ m → k ≡ n) → cond b (1 + k) 0 ≡ suc n
    step true n m k e f = let same = f (omega arith) in omega arith
    step false n m k e f = absurd (omega arith)

-- what is left of a front
pub front_rest : (q : ℕ → Bool) (xs : List ℕ) (n : ℕ) → n ≤ prefix_len q xs → prefix_len q (drop n xs) + n ≡ prefix_len q xs
front_rest q [] zero e = refl
front_rest q [] (suc n) e = absurd (omega arith)
front_rest q (x ∷ xs) zero e = omega arith
front_rest q (x ∷ xs) (suc n) e = step (q x) n (prefix_len q xs) (prefix_len q (drop n xs)) e (front_rest q xs n)
  where
    step : (b : Bool) (n m k : ℕ) → suc n ≤ cond b (1 + m) 0 → (n ≤ m → k + n ≡ m) → k + suc n ≡ cond b (1 + m) 0
    step true n m k e f = let same = f (omega arith) in omega arith
    step false n m k e f = absurd (omega arith)

-- the first space of a part of a text, if it is in the part
pub blank_here : (text : List ℕ) (end found : ℕ) → end ≤ length text → found ≡ prefix_len is_in_word text → found < end → Some found ≡ position (λ b. b == 32) (take end text)
blank_here text end found within is low =
    let same : prefix_len is_in_word (take end text) ≡ found = front_in is_in_word text end (omega (arith, is)) ∙ sym is in
    rw (same, length-take-le end text within, lt-ltb found end low) refl

-- and if it does not
pub blank_beyond : (text : List ℕ) (end found : ℕ) → end ≤ length text → found ≡ prefix_len is_in_word text → end ≤ found → None ≡ position (λ b. b == 32) (take end text)
blank_beyond text end found within is high =
    let same : prefix_len is_in_word (take end text) ≡ end = front_over is_in_word text end (omega (arith, is)) in
    rw (same, length-take-le end text within, le-ltb end end (omega arith)) refl

---- lines

-- where the first line of a text ends
pub line_ends : (text : List ℕ) (end : ℕ) → position (λ b. b == 10) text ≡ Some end → (prefix_len is_in_line text ≡ end) × (end < length text)
line_ends text end e = elim (cases_Bool (nat_lt (prefix_len is_in_line text) (length text))) [
  | inl low ↦ let same : prefix_len is_in_line text ≡ end = some_same _ _ (rw low at e) in (same, omega (arith, ltb-true (prefix_len is_in_line text) (length text) low))
  | inr high ↦ absurd (none_some end (rw high at e))
]
  where
    some_same : (a b : ℕ) → Some a ≡ Some b → a ≡ b
    some_same a b e = cc

    none_some : (b : ℕ) → None ≡ Some b → ⊥
    none_some b e = cc

-- no part in front of its end holds LF
none_before : (xs : List ℕ) (n : ℕ) → n ≤ prefix_len is_in_line xs → list_any (λ b. b == 10) (take n xs) ≡ false
none_before [] zero e = refl
none_before [] (suc n) e = refl
none_before (x ∷ xs) zero e = refl
none_before (x ∷ xs) (suc n) e = step (x == 10) n (prefix_len is_in_line xs) (list_any (λ b. b == 10) (take n xs)) e (none_before xs n)
  where
    step : (b : Bool) (n m : ℕ) (r : Bool) → suc n ≤ cond (not b) (1 + m) 0 → (n ≤ m → r ≡ false) → (b || r) ≡ false
    step true n m r e f = absurd (omega arith)
    step false n m r e f = f (omega arith)

-- the rest of the first line
pub rest_ends : (text : List ℕ) (at end : ℕ) → at ≤ end → position (λ b. b == 10) text ≡ Some end → position (λ b. b == 10) (drop at text) ≡ Some (end - at)
rest_ends text at end low e =
    let is = line_ends text end e in
    let rest = front_rest is_in_line text at (omega (arith, is.0)) in
    let same : prefix_len is_in_line (drop at text) ≡ end - at = omega (arith, is.0) in
    let less : prefix_len is_in_line (drop at text) < length (drop at text) = omega (arith, is.1, length-drop at text) in
    rw (lt-ltb _ _ less) (ap (λ n. Some n) same)

-- it holds no LF
pub rest_open : (text : List ℕ) (at end : ℕ) → at ≤ end → position (λ b. b == 10) text ≡ Some end → list_any (λ b. b == 10) (take (end - at) (drop at text)) ≡ false
rest_open text at end low e =
    let is = line_ends (drop at text) (end - at) (rest_ends text at end low e) in none_before (drop at text) (end - at) (omega (arith, is.0))

---- marks

pub drop_part : (text : List ℕ) (at end : ℕ) → at ≤ end → drop at (take end text) ≡ take (end - at) (drop at text)
drop_part text at end low = let sum : at + (end - at) ≡ end = omega arith in ap (λ n. drop at (take n text)) (sym sum) ∙ drop-take at (end - at) text

-- a space of a line is in front of its end
pub blank_low : (text : List ℕ) (end k : ℕ) → end ≤ length text → Some k ≡ position (λ b. b == 32) (take end text) → k + 1 ≤ end
blank_low text end k within e = let at = position-Some (λ b. b == 32) (take end text) k 0 (sym e) in omega (arith, at.0, length-take-le end text within)

-- a mark, by where its path begins
pub mark_by_parts : (text : List ℕ) (end k n : ℕ) → end ≤ length text → Some k ≡ position (λ b. b == 32) (take end text) → Some n ≡ number_in (take k (take end text))
    → mark_with (Some n) (take (end - (k + 1)) (drop (k + 1) text)) ≡ mark_in (take end text)
mark_by_parts text end k n within blank number =
    sym (ap (mark_at_blank (take end text)) (sym blank) ∙ ap (λ o. mark_with o (drop (k + 1) (take end text))) (sym number)
    ∙ ap (mark_with (Some n)) (drop_part text (k + 1) end (blank_low text end k within blank)))

-- a cost, by where its mark begins
pub cost_by_parts : (text : List ℕ) (end k : ℕ) (amount : Option ℕ) (mark : Option Mark) (cost : Option Cost) → end ≤ length text → Some k ≡ position (λ b. b == 32) (take end text)
    → amount ≡ number_in (take k (take end text)) → mark ≡ mark_in (take (end - (k + 1)) (drop (k + 1) text)) → cost ≡ cost_with amount mark → cost ≡ cost_in (take end text)
cost_by_parts text end k amount mark cost within blank number named is =
    is ∙ ap₂ cost_with number (named ∙ ap mark_in (sym (drop_part text (k + 1) end (blank_low text end k within blank)))) ∙ ap (cost_at_blank (take end text)) blank
