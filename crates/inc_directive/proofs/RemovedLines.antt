-- Whether a line is among those that are removed, by binary search.
use Rattle.std.proofs.Common.{◌≡◌, ℕ, ◌<◌, ◌≤◌, List, Ok, Err, Result, MatchResult, length, get_or, inl, inr, sym, arith}
use Rattle.std.specs.Prelude.{◌==◌, is_ok}
use Rattle.std.specs.List.Sorted.{IsBinarySearchResult, IsNonDecreasing}
use Rattle.std.specs.Ordering.{nat_cmp}
use Rattle.std.proofs.lemmas.Bool.{cases_lt, eq-eqb, ne_eqb}
use Rattle.std.proofs.lemmas.List.{get_or_default}
use Rattle.std.proofs.lemmas.List.Folds.{list_any_at, list_any_none}
use Rattle.std.proofs.lemmas.List.Sorted.{searched}
use Rattle.inc_directive.specs.Removal.{is_among}

-- what the search of numbers that rise answers
pub found_among : (ns : List ℕ) (n : ℕ) (r : Result ℕ ℕ) → IsBinarySearchResult (λ y. nat_cmp y n) ns r → IsNonDecreasing ns → is_ok r ≡ is_among ns n
found_among ns n r h rising = by r (searched ns n r h (λ i j le lt. rising i j 0 le lt))
  where
    by : (r : Result ℕ ℕ) → MatchResult r (λ i. (i < length ns) × (get_or ns i 0 ≡ n)) (λ i. (i ≤ length ns) × ((k : ℕ) → k < i → get_or ns k 0 < n) × ((k : ℕ) → i ≤ k → k < length ns → n < get_or ns k 0))
        → is_ok r ≡ is_among ns n
    by (Ok i) at = sym (list_any_at (λ k. k == n) ns i 0 at.0 (eq-eqb (get_or ns i 0) n at.1))
    by (Err i) none =
        sym (list_any_none (λ k. k == n) ns (λ k d lt.
        let same = get_or_default ns k d 0 lt in
        elim (cases_lt k i) [
          | inl below ↦ let less = none.1 k below in ne_eqb (get_or ns k d) n (omega arith)
          | inr from ↦ let more = none.2 k from lt in ne_eqb (get_or ns k d) n (omega arith)
        ]))
