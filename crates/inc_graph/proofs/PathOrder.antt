-- The order of lists of numbers: shorter ones first, and those of one length by their first difference.
use Rattle.std.proofs.Common.{◌≡◌, ℕ, ◌<◌, ◌≤◌, true, List, [], ◌∷◌, ◌++◌, length, inl, inr, refl, sym, ap, ◌∙◌, arith}
use Rattle.std.proofs.lemmas.List.{length_push}
use Rattle.std.proofs.lemmas.Bool.{cases_order}
use Rattle.std.proofs.lemmas.Bool.Decides.{nat_tests}
use Rattle.inc_graph.specs.Chains.{is_before}
use Rattle.inc_graph.specs.PathOrder.{IsLess, Precedes, shorter, less, IsAtMost, before, same}

is_less_trans : (xs ys zs : List ℕ) → IsLess xs ys → IsLess ys zs → IsLess xs zs
is_less_trans (x ∷ xs) (y ∷ ys) (z ∷ zs) (inl p) (inl q) = inl (omega arith)
is_less_trans (x ∷ xs) (y ∷ ys) (z ∷ zs) (inl p) (inr q) = inl (omega arith)
is_less_trans (x ∷ xs) (y ∷ ys) (z ∷ zs) (inr p) (inl q) = inl (omega arith)
is_less_trans (x ∷ xs) (y ∷ ys) (z ∷ zs) (inr p) (inr q) = inr (p.0 ∙ q.0, is_less_trans xs ys zs p.1 q.1)
is_less_trans [] ys zs p q = absurd p
is_less_trans (x ∷ xs) [] zs p q = absurd p
is_less_trans (x ∷ xs) (y ∷ ys) [] p q = absurd q

is_less_push : (xs ys : List ℕ) (i j : ℕ) → IsLess xs ys → IsLess (xs ++ i ∷ []) (ys ++ j ∷ [])
is_less_push (x ∷ xs) (y ∷ ys) i j (inl p) = inl p
is_less_push (x ∷ xs) (y ∷ ys) i j (inr p) = inr (p.0, is_less_push xs ys i j p.1)
is_less_push [] ys i j p = absurd p
is_less_push (x ∷ xs) [] i j p = absurd p

is_less_last : (xs : List ℕ) (i j : ℕ) → i < j → IsLess (xs ++ i ∷ []) (xs ++ j ∷ [])
is_less_last [] i j h = inl h
is_less_last (x ∷ xs) i j h = inr (refl, is_less_last xs i j h)

is_before_less : (xs ys : List ℕ) → IsLess xs ys → is_before xs ys ≡ true
is_before_less (x ∷ xs) (y ∷ ys) (inl p) = grind (arith, nat_tests)
is_before_less (x ∷ xs) (y ∷ ys) (inr p) = let rest = is_before_less xs ys p.1 in grind (arith, nat_tests)
is_before_less [] ys p = absurd p
is_before_less (x ∷ xs) [] p = absurd p

is_before_itself : (xs : List ℕ) → is_before xs xs ≡ true
is_before_itself [] = refl
is_before_itself (x ∷ xs) = let rest = is_before_itself xs in grind (arith, nat_tests)

pub precedes_trans : {xs ys zs : List ℕ} → Precedes xs ys → Precedes ys zs → Precedes xs zs
precedes_trans (shorter p) (shorter q) = shorter (omega arith)
precedes_trans (shorter p) (less e q) = shorter (omega arith)
precedes_trans (less e p) (shorter q) = shorter (omega arith)
precedes_trans {xs} {ys} {zs} (less e p) (less f q) = less (e ∙ f) (is_less_trans xs ys zs p q)

-- each with one more edge
pub precedes_push : {xs ys : List ℕ} (i j : ℕ) → Precedes xs ys → Precedes (xs ++ i ∷ []) (ys ++ j ∷ [])
precedes_push {xs} {ys} i j (shorter p) = shorter (omega (arith, length_push xs i, length_push ys j))
precedes_push {xs} {ys} i j (less e p) = less (omega (arith, length_push xs i, length_push ys j)) (is_less_push xs ys i j p)

pub precedes_last : (xs : List ℕ) (i j : ℕ) → i < j → Precedes (xs ++ i ∷ []) (xs ++ j ∷ [])
precedes_last xs i j h = less (length_push xs i ∙ sym (length_push xs j)) (is_less_last xs i j h)

-- a number that is no less
pub precedes_later : (zs xs : List ℕ) (i j : ℕ) → i ≤ j → Precedes zs (xs ++ i ∷ []) → Precedes zs (xs ++ j ∷ [])
precedes_later zs xs i j h p =
    elim (cases_order i j) [
      | inl e ↦ rw (← e) p
      | inr o ↦ elim o [ inl l ↦ precedes_trans p (precedes_last xs i j l) | inr g ↦ absurd (omega arith) ]
    ]

pub at_most_trans : {xs ys zs : List ℕ} → IsAtMost xs ys → IsAtMost ys zs → IsAtMost xs zs
at_most_trans (before p) (before q) = before (precedes_trans p q)
at_most_trans (before p) (same e) = before (rw (← e) p)
at_most_trans (same e) q = rw e q

pub at_most_push : {xs ys : List ℕ} (i : ℕ) → IsAtMost xs ys → IsAtMost (xs ++ i ∷ []) (ys ++ i ∷ [])
at_most_push i (before p) = before (precedes_push i i p)
at_most_push i (same e) = same (ap (λ (l : List ℕ). l ++ i ∷ []) e)

pub at_most_length : {xs ys : List ℕ} → IsAtMost xs ys → length xs ≤ length ys
at_most_length (before (shorter p)) = omega arith
at_most_length (before (less e p)) = omega arith
at_most_length (same e) = omega (arith, ap (λ (l : List ℕ). length l) e)

pub at_most_first : {xs ys : List ℕ} → IsAtMost xs ys → length ys ≡ length xs → is_before xs ys ≡ true
at_most_first (before (shorter p)) h = absurd (omega arith)
at_most_first {xs} {ys} (before (less e p)) h = is_before_less xs ys p
at_most_first {xs} {ys} (same e) h = rw (← e) (is_before_itself xs)
