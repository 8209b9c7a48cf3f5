-- Of paths no two of which are equal, each is at one place.
use Rattle.std.proofs.Common.{◌≡◌, ℕ, suc, zero, ◌+◌, ◌<◌, Bool, true, false, ◌||◌, is_some, List, [], ◌∷◌, ◌++◌, Option, Some, None, length, refl, sym, ap, ◌∙◌, arith}
use Rattle.std.specs.Prelude.{slice_get, bytes_eq, unwrap_or}
use Rattle.std.specs.Option.{option_map_or}
use Rattle.std.specs.List.{list_any, position_from}
use Rattle.std.proofs.lemmas.Bool.{true≢false, cond-true, cond-false}
use Rattle.std.proofs.lemmas.Option.{none-some, same_Some}
use Rattle.std.proofs.lemmas.Iterator.Adapters.{position_from-zero}
use Rattle.std.proofs.lemmas.Slice.Eq.{bytes_eq-Decides}
use Rattle.std.proofs.lemmas.List.Folds.{list_any-append}
use Rattle.inc_lookup.proofs.ListingLemmas.{is_some-position}
use Rattle.inc_lookup.specs.Projects.{place_of, same_path_from}

-- what a list that has no such place leaves of those after it
same_none : (o : Option ℕ) (n : ℕ) (more : Option (ℕ × ℕ)) → option_map_or (λ (first : ℕ). Some (first, n)) o more ≡ None → (o ≡ None) × (more ≡ None)
same_none None n more e = (refl, e)
same_none (Some i) n more e = absurd (none-some _ (sym e))

neither : (a b : Bool) → (a || b) ≡ false → (a ≡ false) × (b ≡ false)
neither true b e = absurd (true≢false e)
neither false b e = (refl, e)

same_bytes : (p q : List ℕ) → p ≡ q → bytes_eq p q ≡ true
same_bytes p q e = (bytes_eq-Decides p q).1 e

-- a path after these is none of them
absent : (done ps : List (List ℕ)) (k : ℕ) (p : List ℕ) → same_path_from done ps ≡ None → slice_get ps k ≡ Some p → list_any (bytes_eq p) done ≡ false
absent done [] k p differ at = absurd (none-some p at)
absent done (q ∷ qs) zero p differ at =
    let same : q ≡ p = same_Some q p at in
    let none = (same_none (place_of q done) (length done) _ differ).0 in
    sym (is_some-position (bytes_eq p) done) ∙ rw same at (ap is_some none)
absent done (q ∷ qs) (suc k) p differ at =
    let more = (same_none (place_of q done) (length done) _ differ).1 in
    let behind = absent (done ++ q ∷ []) qs k p more at in
    (neither _ _ (sym (list_any-append (bytes_eq p) done (q ∷ [])) ∙ behind)).0

-- so it differs from the path before them
apart : (done ps : List (List ℕ)) (q : List ℕ) (k : ℕ) (p : List ℕ) → same_path_from (done ++ q ∷ []) ps ≡ None → slice_get ps k ≡ Some p → bytes_eq p q ≡ false
apart done ps q k p differ at =
    let none = (neither _ _ (sym (list_any-append (bytes_eq p) done (q ∷ [])) ∙ absent (done ++ q ∷ []) ps k p differ at)).1 in
    (neither (bytes_eq p q) false none).0

found : (done ps : List (List ℕ)) (k : ℕ) (p : List ℕ) (i : ℕ) → same_path_from done ps ≡ None → slice_get ps k ≡ Some p → position_from (bytes_eq p) i ps ≡ Some (i + k)
found done [] k p i differ at = absurd (none-some p at)
found done (q ∷ qs) zero p i differ at =
    let same : p ≡ q = sym (same_Some q p at) in
    let e : i ≡ i + 0 = omega arith in
    cond-true (bytes_eq p q) _ _ (same_bytes p q same) ∙ ap (λ (n : ℕ). Some n) e
found done (q ∷ qs) (suc k) p i differ at =
    let more = (same_none (place_of q done) (length done) _ differ).1 in
    let e : i + 1 + k ≡ i + suc k = omega arith in
    cond-false (bytes_eq p q) _ _ (apart done qs q k p more at) ∙ found (done ++ q ∷ []) qs k p (i + 1) more at
    ∙ ap (λ (n : ℕ). Some n) e

there : (paths : List (List ℕ)) (k : ℕ) → k < length paths → slice_get paths k ≡ Some (unwrap_or (slice_get paths k) [])
there [] k within = absurd (omega arith)
there (p ∷ ps) zero within = refl
there (p ∷ ps) (suc k) within = there ps k (omega arith)

-- the place of a path that is there
pub one_place : (paths : List (List ℕ)) (k : ℕ) (p : List ℕ) → same_path_from [] paths ≡ None → k < length paths → unwrap_or (slice_get paths k) [] ≡ p → place_of p paths ≡ Some k
one_place paths k p differ within is =
    let e : 0 + k ≡ k = omega arith in
    position_from-zero (bytes_eq p) paths ∙ found [] paths k p 0 differ (there paths k within ∙ ap (λ (l : List ℕ). Some l) is)
    ∙ ap (λ (n : ℕ). Some n) e
