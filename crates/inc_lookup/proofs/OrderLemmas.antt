-- The order of two paths by their first bytes that differ, a vector at a time.
use Rattle.std.proofs.Common.{◌≡◌, ◌≢◌, ℕ, zero, suc, ◌+◌, ◌-◌, ◌<◌, ◌≤◌, Bool, true, false, cond, List, [], ◌∷◌, length, get_or, map, Ordering, Less, Equal, Greater, ⊎_elim, refl, sym, ap, ap₂, ◌∙◌, arith}
use Rattle.std.specs.Prelude.{◌==◌, not, nat_lt}
use Rattle.std.specs.List.{prefix_len}
use Rattle.std.specs.Ordering.{is_lt, ordering_then}
use Rattle.std.proofs.lemmas.Bool.{eqb-true, eq-eqb, ne_eqb, true≢false, cases_lt, lt-ltb, le-ltb}
use Rattle.std.proofs.lemmas.List.Sums.{prefix_len_passes, prefix_len_stops}
use Rattle.std.proofs.lemmas.Simd.{length-zip2, get_or-zip2, length-chunk, get_or-chunk, trailing_mask_l}
use lib.Count.{count_trailing_zeros}
use lib.Lanes.{chunk, zip2, mask_l}
use Rattle.inc_lookup.specs.PathLists.{is_before, IsCommon}
use Rattle.inc_text.proofs.Vectors.{twice}
use Rattle.inc_lookup.proofs.SimpleLemmas.{none_set}

---- the order

by_differing : (less same : Bool) (o : Ordering) → same ≡ false → is_lt (ordering_then (cond less Less (cond same Equal Greater)) o) ≡ less
by_differing true same o e = refl
by_differing false true o e = absurd (true≢false e)
by_differing false false o e = refl

by_equal : (less same : Bool) (o : Ordering) → less ≡ false → same ≡ true → ordering_then (cond less Less (cond same Equal Greater)) o ≡ o
by_equal true same o e f = absurd (true≢false e)
by_equal false true o e f = refl
by_equal false false o e f = absurd (true≢false (sym f))

equal_step : (x y : ℕ) (p q : List ℕ) → x ≡ y → is_before (x ∷ p) (y ∷ q) ≡ is_before p q
equal_step x y p q e = ap is_lt (by_equal (nat_lt x y) (x == y) _ (le-ltb x y (omega arith)) (eq-eqb x y e))

suc_lt : (m n : ℕ) → nat_lt m n ≡ nat_lt (suc m) (suc n)
suc_lt m n =
    ⊎_elim
    (λ low. lt-ltb m n low ∙ sym (lt-ltb (suc m) (suc n) (omega arith)))
    (λ high. le-ltb m n (omega arith) ∙ sym (le-ltb (suc m) (suc n) (omega arith)))
    (cases_lt m n)

-- one begins as the whole of the other
pub ended : (p q : List ℕ) → ((k : ℕ) → k < length p → k < length q → get_or p k 0 ≡ get_or q k 0) → nat_lt (length p) (length q) ≡ is_before p q
ended [] [] same = refl
ended [] (y ∷ q) same = lt-ltb 0 (suc (length q)) (omega arith)
ended (x ∷ p) [] same = le-ltb (suc (length p)) 0 (omega arith)
ended (x ∷ p) (y ∷ q) same =
    sym (suc_lt (length p) (length q)) ∙ ended p q (λ k left right. same (suc k) (omega arith) (omega arith))
    ∙ sym (equal_step x y p q (same 0 (omega arith) (omega arith)))

-- the first bytes that differ
pub apart : (n : ℕ) (p q : List ℕ) → n < length p → n < length q → ((k : ℕ) → k < n → get_or p k 0 ≡ get_or q k 0) → get_or p n 0 ≢ get_or q n 0
    → nat_lt (get_or p n 0) (get_or q n 0) ≡ is_before p q
apart n [] q left right same differ = absurd (omega arith)
apart n (x ∷ p) [] left right same differ = absurd (omega arith)
apart zero (x ∷ p) (y ∷ q) left right same differ = sym (by_differing (nat_lt x y) (x == y) _ (ne_eqb x y differ))
apart (suc n) (x ∷ p) (y ∷ q) left right same differ =
    apart n p q (omega arith) (omega arith) (λ k low. same (suc k) (omega arith)) differ
    ∙ sym (equal_step x y p q (same 0 (omega arith)))

---- a vector

whole : (ms : List Bool) → map (λ b. b) ms ≡ ms
whole [] = refl
whole (b ∷ ms) = ap (λ l. b ∷ l) (whole ms)

one_set : (ms : List Bool) → 0 < mask_l ms → prefix_len not ms < length ms
one_set [] some = absurd (omega arith)
one_set (true ∷ ms) some = omega arith
one_set (false ∷ ms) some = let rest = one_set ms (omega arith) in omega (arith, rest)

equal_from : (x y : ℕ) → not (not (x == y)) ≡ true → x ≡ y
equal_from x y e = eqb-true x y (twice (x == y) ∙ e)

differ_from : (x y : ℕ) → not (not (x == y)) ≡ false → x ≢ y
differ_from x y e = λ same. true≢false (sym (ap (λ b. not (not b)) (eq-eqb x y same)) ∙ e)

abbrev pub differs : ℕ → ℕ → Bool
differs x y = not (x == y)

module _ (p q : List ℕ) (at : ℕ) (left : at + 16 ≤ length p) (right : at + 16 ≤ length q) where
  abbrev pub lanes : List Bool
  lanes = zip2 differs (chunk at 16 p) (chunk at 16 q)

  size : length lanes ≡ 16
  size =
      let long = length-chunk at 16 p left in
      let other = length-chunk at 16 q right in
      length-zip2 differs (chunk at 16 p) (chunk at 16 q) (long ∙ sym other) ∙ long

  lane : (k : ℕ) → at ≤ k → k < at + 16 → get_or lanes (k - at) false ≡ differs (get_or p k 0) (get_or q k 0)
  lane k from to =
      let low : k - at < 16 = omega arith in
      let here : at + (k - at) ≡ k = omega arith in
      let long = length-chunk at 16 p left in
      let other = length-chunk at 16 q right in
      get_or-zip2 differs (chunk at 16 p) (chunk at 16 q) (k - at) 0 0 false (omega arith) (omega arith)
      ∙ ap₂ differs (get_or-chunk at 16 p (k - at) 0 low ∙ ap (λ i. get_or p i 0) here) (get_or-chunk at 16 q (k - at) 0 low ∙ ap (λ i. get_or q i 0) here)

  pub none_differ : mask_l lanes ≡ 0 → (k : ℕ) → at ≤ k → k < at + 16 → get_or p k 0 ≡ get_or q k 0
  none_differ none k from to = equal_from (get_or p k 0) (get_or q k 0) (ap not (sym (lane k from to) ∙ none_set lanes (k - at) none))

  first : 0 < mask_l lanes → count_trailing_zeros 64 (mask_l lanes) ≡ prefix_len not lanes
  first some =
      let same = ap mask_l (whole lanes) in
      ap (count_trailing_zeros 64) (sym same) ∙ trailing_mask_l (λ b. b) 64 lanes (omega (arith, size)) (omega (arith, same))

  pub first_within : 0 < mask_l lanes → count_trailing_zeros 64 (mask_l lanes) < 16
  first_within some = omega (arith, first some, one_set lanes some, size)

  pub before_first : 0 < mask_l lanes → (k : ℕ) → at ≤ k → k < at + count_trailing_zeros 64 (mask_l lanes) → get_or p k 0 ≡ get_or q k 0
  before_first some k from to =
      let low = first_within some in
      equal_from (get_or p k 0) (get_or q k 0)
      (ap not (sym (lane k from (omega arith))) ∙ prefix_len_passes not lanes (k - at) false (omega (arith, first some)))

  pub at_first : 0 < mask_l lanes → get_or p (at + count_trailing_zeros 64 (mask_l lanes)) 0 ≢ get_or q (at + count_trailing_zeros 64 (mask_l lanes)) 0
  at_first some =
      let n = count_trailing_zeros 64 (mask_l lanes) in
      let low = first_within some in
      let back : at + n - at ≡ n = omega arith in
      let stops = prefix_len_stops not lanes false (omega (arith, one_set lanes some)) in
      differ_from (get_or p (at + n) 0) (get_or q (at + n) 0)
      (ap not (sym (lane (at + n) (omega arith) (omega arith)) ∙ ap (λ i. get_or lanes i false) (back ∙ first some)) ∙ stops)

-- the paths are equal before this vector, and differ in it
pub common_to : (p q : List ℕ) (both at : ℕ) → both ≤ length p → both ≤ length q → at + 16 ≤ both → ((k : ℕ) → k < at → get_or p k 0 ≡ get_or q k 0)
    → 0 < mask_l (zip2 differs (chunk at 16 p) (chunk at 16 q)) → IsCommon p q both (at + count_trailing_zeros 64 (mask_l (zip2 differs (chunk at 16 p) (chunk at 16 q))))
common_to p q both at left right room same some =
    let low = first_within p q at (omega arith) (omega arith) some in
    record {
      within = omega arith;
      same = λ k below. ⊎_elim (λ before. same k before) (λ behind. before_first p q at (omega arith) (omega arith) some k (omega arith) below) (cases_lt k at);
      differ = λ inside. at_first p q at (omega arith) (omega arith) some;
    }

-- one more vector in which they are equal
pub same_on : (p q : List ℕ) (at : ℕ) → at + 16 ≤ length p → at + 16 ≤ length q → ((k : ℕ) → k < at → get_or p k 0 ≡ get_or q k 0) → mask_l (zip2 differs (chunk at 16 p) (chunk at 16 q)) ≡ 0
    → (k : ℕ) → k < at + 16 → get_or p k 0 ≡ get_or q k 0
same_on p q at left right same none k below = ⊎_elim (λ before. same k before) (λ behind. none_differ p q at left right none k (omega arith) below) (cases_lt k at)
