-- Paths that rise: one more after the last, and binary search.
use Rattle.std.proofs.Common.{◌≡◌, Bor, ℕ, zero, suc, ◌+◌, ◌<◌, ◌≤◌, Bool, true, false, cond, List, [], ◌∷◌, ◌++◌, Some, None, length, take, drop, get_or, Ordering, Less, Equal, Greater, nat_cmp, ⊎_elim, refl, sym, ap, subst, ◌∙◌, arith}
use Rattle.std.specs.Prelude.{map, bytes_eq, position, slice_index_or}
use Rattle.std.specs.List.{All, list_any, position_from}
use Rattle.std.specs.Cmp.Lexicographic.{slice_cmp}
use Rattle.std.specs.Ordering.{is_lt, is_eq, ordering_reverse}
use Rattle.std.proofs.lemmas.Bool.{false≢true, cond-true, cond-false, cases_lt}
use Rattle.std.proofs.lemmas.List.Folds.{list_any_none}
use Rattle.std.proofs.lemmas.Cmp.{nat_list_cmp_total}
use Rattle.std.proofs.lemmas.List.{get_or_append_left, length-append, map-append, length-drop, length-take-le, take_more, get_or-take, get_or_default}
use Rattle.std.proofs.lemmas.List.Elements.{All-nil, All-cons, All-head, All-tail, All-push}
use Rattle.std.proofs.lemmas.Iterator.Adapters.{position_from-zero}
use Rattle.std.proofs.lemmas.Map.Text.{is_eq-slice_cmp}
use Rattle.std.proofs.lemmas.Slice.Eq.{bytes_eq-Decides}
use Rattle.std.proofs.Math.Seq.{get_or-append_seam}
use Rattle.inc_lookup.specs.Invariants.{IsNormal, IsGoodForm, AreTabled}
use Rattle.inc_lookup.specs.PathLists.{kept_form, kept_forms, is_before, Rises, IsInserted}
use Rattle.inc_lookup.specs.Paths.{normal_form}
use Rattle.inc_lookup.specs.Projects.{is_bad_file_path, place_of}
use Rattle.inc_lookup.proofs.ListingLemmas.{none_from_is_some, is_some-position, forms-push, tabled_new}

less : (o : Ordering) → is_lt o ≡ true → o ≡ Less
less Less e = refl
less Equal e = absurd (false≢true e)
less Greater e = absurd (false≢true e)

before_trans : (x y z : List ℕ) → is_before x y ≡ true → is_before y z ≡ true → is_before x z ≡ true
before_trans x y z a b = ap is_lt (nat_list_cmp_total.trans x y z (less _ a) (less _ b))

-- a path after another is not equal to it
pub after_differs : (x y : List ℕ) → is_before y x ≡ true → bytes_eq x y ≡ false
after_differs x y a = sym (is_eq-slice_cmp x y) ∙ ap is_eq (nat_list_cmp_total.antisymm x y ∙ ap ordering_reverse (less _ a))

pub before_differs : (x y : List ℕ) → is_before x y ≡ true → bytes_eq x y ≡ false
before_differs x y a = sym (is_eq-slice_cmp x y) ∙ ap is_eq (less _ a)

---- one more path

-- each of these paths is before every path that the last one is before
abbrev pub AreBelow : (last : List ℕ) → (paths : List (List ℕ)) → Type 0
AreBelow last paths = (path : List ℕ) → is_before last path ≡ true → (i : ℕ) → i < length paths → is_before (slice_index_or paths i []) path ≡ true

below_more : (xs : List (List ℕ)) (last y : List ℕ) → AreBelow last xs → is_before last y ≡ true → AreBelow y (xs ++ y ∷ [])
below_more xs last y below after = λ path before i within.
    let long : length (xs ++ y ∷ []) ≡ length xs + 1 = length-append xs (y ∷ []) in
    ⊎_elim
    (λ low. ap (λ (x : List ℕ). is_before x path) (get_or_append_left xs (y ∷ []) [] i low)
    ∙ before_trans (get_or xs i []) y path (below y after i low) before)
    (λ high.
    let same : i ≡ length xs = omega arith in
    ap (λ (x : List ℕ). is_before x path) (ap (λ (k : ℕ). get_or (xs ++ y ∷ []) k []) same ∙ get_or-append_seam xs y [] [])
    ∙ before)
    (cases_lt i (length xs))

-- a path that the last one is before is none of them
apart_from_all : (xs : List (List ℕ)) (last y : List ℕ) → AreBelow last xs → is_before last y ≡ true → list_any (bytes_eq y) xs ≡ false
apart_from_all xs last y below after =
    list_any_none (bytes_eq y) xs (λ k d low. ap (bytes_eq y) (get_or_default xs k d [] low) ∙ after_differs y (get_or xs k []) (below y after k low))

rises_more : (xs : List (List ℕ)) (last y : List ℕ) → Rises xs → AreBelow last xs → is_before last y ≡ true → Rises (xs ++ y ∷ [])
rises_more xs last y rises below after = λ i j before within.
    let long : length (xs ++ y ∷ []) ≡ length xs + 1 = length-append xs (y ∷ []) in
    ⊎_elim
    (λ low. ap (λ (x : List ℕ). is_before x (get_or (xs ++ y ∷ []) j [])) (get_or_append_left xs (y ∷ []) [] i (omega arith))
    ∙ ap (λ (x : List ℕ). is_before (get_or xs i []) x) (get_or_append_left xs (y ∷ []) [] j low) ∙ rises i j before low)
    (λ high.
    let same : j ≡ length xs = omega arith in
    ap (λ (x : List ℕ). is_before x (get_or (xs ++ y ∷ []) j [])) (get_or_append_left xs (y ∷ []) [] i (omega arith))
    ∙ ap (λ (x : List ℕ). is_before (get_or xs i []) x) (ap (λ (k : ℕ). get_or (xs ++ y ∷ []) k []) same ∙ get_or-append_seam xs y [] [])
    ∙ below y after i (omega arith))
    (cases_lt j (length xs))

---- the front of a list

-- the form of the path at a place
pub kept_at : (ps : List (Bor (List ℕ))) (i : ℕ) (d : Bor (List ℕ)) → i < length (kept_forms (map (λ p. p.now) ps)) → kept_form (get_or ps i d).now ≡ get_or (kept_forms (map (λ p. p.now) ps)) i []
kept_at [] i d low = absurd (omega arith)
kept_at (p ∷ ps) zero d low = refl
kept_at (p ∷ ps) (suc i) d low = kept_at ps i d (omega arith)

-- the kept forms of written paths are their normal forms, and rise; the last one tells what may follow
pub record AreRising (written : List (List ℕ)) (last : List ℕ) : Type 0 where
  pub tabled : AreTabled written (kept_forms written) None
  pub rises : Rises (kept_forms written)
  pub below : AreBelow last (kept_forms written)

pub rising_begun : AreRising [] []
rising_begun = record {
  tabled = record {
    forms = [];
    good = record { good = refl; are = refl; normal = All-nil IsNormal };
    tabled = (refl, refl);
  };
  rises = λ i j before within. absurd (omega arith);
  below = λ path before i within. absurd (omega arith);
}

pub rising_more : (written : List (List ℕ)) (last path : List ℕ) → AreRising written last → IsGoodForm (is_bad_file_path path) (normal_form path) (Some (kept_form path)) → is_before last (kept_form path) ≡ true → AreRising (written ++ path ∷ []) (kept_form path)
rising_more written last path h good after =
    let keys = kept_forms written in
    let form = kept_form path in
    let more : kept_forms (written ++ path ∷ []) ≡ keys ++ form ∷ [] = map-append kept_form written (path ∷ []) in
    let none : place_of form keys ≡ None = none_from_is_some _ (is_some-position (bytes_eq form) keys ∙ apart_from_all keys last form h.below after) in
    record {
      tabled = record {
        forms = h.tabled.forms ++ form ∷ [];
        good = forms-push is_bad_file_path written h.tabled.forms path form h.tabled.good good;
        tabled = tabled_new h.tabled.forms keys form None (kept_forms (written ++ path ∷ [])) refl more none h.tabled.tabled;
      };
      rises = subst Rises (sym more) (rises_more keys last form h.rises h.below after);
      below = subst (AreBelow form) (sym more) (below_more keys last form h.below after);
    }

---- paths that are put into a table

-- one after the other, of paths that rise
pub inserted_more : (xs new : List (List ℕ)) (i place : ℕ) (added : Bool) → Rises xs → i < length xs → IsInserted (take i xs) (get_or xs i []) place added new → new ≡ take (i + 1) xs
inserted_more xs new i place added rises low inserted =
    let size : length (take i xs) ≡ i = length-take-le i xs (omega arith) in
    let apart : list_any (bytes_eq (get_or xs i [])) (take i xs) ≡ false =
    list_any_none (bytes_eq (get_or xs i [])) (take i xs) (λ k d inside.
    let below : k < i = omega arith in
    ap (bytes_eq (get_or xs i [])) (get_or-take i xs k d below ∙ get_or_default xs k d [] (omega arith))
    ∙ after_differs (get_or xs i []) (get_or xs k []) (rises k i below low)) in
    inserted.paths ∙ cond-false (list_any (bytes_eq (get_or xs i [])) (take i xs)) (take i xs) (take i xs ++ get_or xs i [] ∷ []) apart ∙ sym (take_more xs i [] low)

---- binary search

-- no path below the one place and none from the other on is the one that is looked for
pub record IsSearch (paths : List (List ℕ)) (path : List ℕ) (low high : ℕ) : Type 0 where
  -- what is left to look at is a part of the list
  pub order : low ≤ high
  -- that ends with it at most
  pub within : high ≤ length paths
  -- no path before it is the one
  pub below : (k : ℕ) → k < low → bytes_eq path (get_or paths k []) ≡ false
  -- and none after it
  pub above : (k : ℕ) → high ≤ k → k < length paths → bytes_eq path (get_or paths k []) ≡ false

pub search_begun : (paths : List (List ℕ)) (path : List ℕ) → IsSearch paths path 0 (length paths)
search_begun paths path = record {
  order = omega arith;
  within = omega arith;
  below = λ k low. absurd (omega arith);
  above = λ k high low. absurd (omega arith);
}

-- the path in the middle is less
pub search_right : (paths : List (List ℕ)) (path : List ℕ) (low high middle : ℕ) → Rises paths → IsSearch paths path low high → middle < high → slice_cmp nat_cmp (get_or paths middle []) path ≡ Less → IsSearch paths path (middle + 1) high
search_right paths path low high middle rises s inside is =
    let within = s.within in
    let here : is_before (get_or paths middle []) path ≡ true = ap is_lt is in
    record {
      order = omega arith;
      within = s.within;
      below = λ k below. ⊎_elim
          (λ before. after_differs path (get_or paths k []) (before_trans (get_or paths k []) (get_or paths middle []) path (rises k middle before (omega arith)) here))
          (λ other.
          let same : k ≡ middle = omega arith in
          after_differs path (get_or paths k []) (ap (λ (i : ℕ). is_before (get_or paths i []) path) same ∙ here))
          (cases_lt k middle);
      above = s.above;
    }

greater : (x y : List ℕ) → slice_cmp nat_cmp x y ≡ Greater → is_before y x ≡ true
greater x y is = ap is_lt (nat_list_cmp_total.antisymm y x ∙ ap ordering_reverse is)

-- the path in the middle is greater
pub search_left : (paths : List (List ℕ)) (path : List ℕ) (low high middle : ℕ) → Rises paths → IsSearch paths path low high → low ≤ middle → middle < high → slice_cmp nat_cmp (get_or paths middle []) path ≡ Greater → IsSearch paths path low middle
search_left paths path low high middle rises s inside below is =
    let within = s.within in
    let here : is_before path (get_or paths middle []) ≡ true = greater (get_or paths middle []) path is in
    record {
      order = omega arith;
      within = omega arith;
      below = s.below;
      above = λ k high low. ⊎_elim
          (λ after. before_differs path (get_or paths k []) (before_trans path (get_or paths middle []) (get_or paths k []) here (rises middle k after low)))
          (λ other.
          let same : k ≡ middle = omega arith in
          before_differs path (get_or paths k []) (ap (λ (i : ℕ). is_before path (get_or paths i [])) same ∙ here))
          (cases_lt middle k);
    }

module _ {X : Type 0} (p : X → Bool) (d : X) where
  all_fail : (i : ℕ) (xs : List X) → ((k : ℕ) → k < length xs → p (get_or xs k d) ≡ false) → position_from p i xs ≡ None
  all_fail i [] fail = refl
  all_fail i (x ∷ xs) fail = cond-false (p x) _ _ (fail 0 (omega arith)) ∙ all_fail (i + 1) xs (λ k low. fail (suc k) (omega arith))

  first_passes : (i k : ℕ) (xs : List X) → k < length xs → p (get_or xs k d) ≡ true → ((j : ℕ) → j < k → p (get_or xs j d) ≡ false) → position_from p i xs ≡ Some (i + k)
  first_passes i k [] low passes fail = absurd (omega arith)
  first_passes i zero (x ∷ xs) low passes fail =
      let e : i ≡ i + 0 = omega arith in
      cond-true (p x) _ _ passes ∙ ap (λ (n : ℕ). Some n) e
  first_passes i (suc k) (x ∷ xs) low passes fail =
      let e : i + 1 + k ≡ i + suc k = omega arith in
      cond-false (p x) _ _ (fail 0 (omega arith)) ∙ first_passes (i + 1) k xs (omega arith) passes (λ j below. fail (suc j) (omega arith))
      ∙ ap (λ (n : ℕ). Some n) e

-- nothing is left
pub search_over : (paths : List (List ℕ)) (path : List ℕ) (low high : ℕ) → IsSearch paths path low high → high ≤ low → None ≡ position (bytes_eq path) paths
search_over paths path low high s over =
    sym (position_from-zero (bytes_eq path) paths ∙ all_fail (bytes_eq path) [] 0 paths
    (λ k inside. ⊎_elim (λ below. s.below k below) (λ other. s.above k (omega arith) inside) (cases_lt k low)))

equal : (x y : List ℕ) → slice_cmp nat_cmp x y ≡ Equal → x ≡ y
equal x y is = (bytes_eq-Decides x y).0 (sym (is_eq-slice_cmp x y) ∙ ap is_eq is)

-- the path in the middle is it
pub search_found : (paths : List (List ℕ)) (path : List ℕ) (middle : ℕ) → Rises paths → middle < length paths → slice_cmp nat_cmp (get_or paths middle []) path ≡ Equal → Some middle ≡ position (bytes_eq path) paths
search_found paths path middle rises inside is =
    let same : get_or paths middle [] ≡ path = equal (get_or paths middle []) path is in
    let e : 0 + middle ≡ middle = omega arith in
    sym (position_from-zero (bytes_eq path) paths
    ∙ first_passes (bytes_eq path) [] 0 middle paths inside ((bytes_eq-Decides path (get_or paths middle [])).1 (sym same))
    (λ j below. after_differs path (get_or paths j []) (ap (is_before (get_or paths j [])) (sym same) ∙ rises j middle below inside))
    ∙ ap (λ (n : ℕ). Some n) e)

---- lengths

-- a number that no path passes, where one more is looked at
pub lengths_more : (ps : List (Bor (List ℕ))) (i : ℕ) (d : Bor (List ℕ)) (old new : ℕ) → i < length ps → All (λ (p : Bor (List ℕ)). length p.now ≤ old) (take i ps) → old ≤ new → length (get_or ps i d).now ≤ new
    → All (λ (p : Bor (List ℕ)). length p.now ≤ new) (take (i + 1) ps)
lengths_more ps i d old new low so_far more here =
    rw (take_more ps i d low)
    (All-push (λ (p : Bor (List ℕ)). length p.now ≤ new) (take i ps) (get_or ps i d) (λ k e high. let was = so_far k e high in omega arith) here)

-- no form is longer than its path
form_short : (b : Bool) (path : List ℕ) (n : ℕ) → length path ≤ n → length (cond b (drop 2 path) path) ≤ n
form_short true path n short = let left = length-drop 2 path in omega arith
form_short false path n short = short

pub lengths_from : (ps : List (Bor (List ℕ))) (n : ℕ) → All (λ (p : Bor (List ℕ)). length p.now ≤ n) ps → All (λ (path : List ℕ). length path ≤ n) (kept_forms (map (λ p. p.now) ps))
lengths_from [] n short = All-nil (λ (path : List ℕ). length path ≤ n)
lengths_from (p ∷ ps) n short =
    All-cons (λ (path : List ℕ). length path ≤ n) (kept_form p.now) (kept_forms (map (λ p. p.now) ps))
    (form_short _ p.now n (All-head (λ (p : Bor (List ℕ)). length p.now ≤ n) p ps short)) (lengths_from ps n (All-tail (λ (p : Bor (List ℕ)). length p.now ≤ n) p ps short))
