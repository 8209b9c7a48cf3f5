-- Numbers below a bound, no two of which are equal.
use Rattle.std.proofs.Common.{◌≡◌, ℕ, ◌<◌, ◌≤◌, ◌==◌, true, false, eqb, List, [], ◌∷◌, length, inl, inr, sym, subst}
use Rattle.std.specs.Prelude.{not}
use Rattle.std.specs.List.{All, list_any, AllByRecursion, IsDistinct}
use Rattle.std.proofs.lemmas.Bool.{and_parts, or_parts, or_cases, or_left, or_right, not-true, eqb-true, eq-eqb, eqb-false, ne_eqb, false≢true}
use Rattle.std.proofs.lemmas.List.Elements.{All-head, All-tail}
use Rattle.std.proofs.lemmas.Map.Steps.{length-le_from_distinct_below}
use Rattle.inc_graph.specs.Members.{is_member, is_distinct}

apart : (x : ℕ) (xs : List ℕ) → is_member x xs ≡ false → AllByRecursion (λ y. (x == y) ≡ false) xs
apart x [] none = tt
apart x (y ∷ ys) none =
    let parts = or_parts (y == x) (is_member x ys) none in
    (ne_eqb x y (λ same. eqb-false y x parts.0 (sym same)), apart x ys parts.1)

distinct : (xs : List ℕ) → is_distinct xs ≡ true → IsDistinct eqb xs
unfolding IsDistinct
distinct [] is = tt
distinct (x ∷ xs) is = let parts = and_parts (not (is_member x xs)) (is_distinct xs) is in (apart x xs (not-true (is_member x xs) parts.0), distinct xs parts.1)

member : (q : ℕ) (xs : List ℕ) → list_any (eqb q) xs ≡ true → is_member q xs ≡ true
member q [] there = absurd (false≢true there)
member q (x ∷ xs) there = elim (or_cases (q == x) (list_any (eqb q) xs) there) [
  | inl here ↦ or_left (x == q) (is_member q xs) (eq-eqb x q (sym (eqb-true q x here)))
  | inr later ↦ or_right (x == q) (is_member q xs) (member q xs later)
]

pub few_distinct : (n : ℕ) (xs : List ℕ) → is_distinct xs ≡ true → ((x : ℕ) → is_member x xs ≡ true → x < n) → length xs ≤ n
few_distinct n xs once below = length-le_from_distinct_below xs n (distinct xs once) (λ q there. below q (member q xs there))

below : (n : ℕ) (xs : List ℕ) → All (λ i. i < n) xs → (q : ℕ) → list_any (eqb q) xs ≡ true → q < n
below n [] all q there = absurd (false≢true there)
below n (x ∷ xs) all q there = elim (or_cases (q == x) (list_any (eqb q) xs) there) [
  | inl here ↦ subst (λ (i : ℕ). i < n) (sym (eqb-true q x here)) (All-head (λ i. i < n) x xs all)
  | inr later ↦ below n xs (All-tail (λ i. i < n) x xs all) q later
]

pub few_within : (n : ℕ) (xs : List ℕ) → is_distinct xs ≡ true → All (λ i. i < n) xs → length xs ≤ n
few_within n xs once all = length-le_from_distinct_below xs n (distinct xs once) (below n xs all)
