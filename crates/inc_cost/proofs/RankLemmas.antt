-- The keys of amounts in order, and what their places are.
use Rattle.std.proofs.Common.{◌≡◌, ℕ, zero, suc, ◌+◌, ◌-◌, ◌%◌, ◌<◌, ◌≤◌, false, List, [], ◌∷◌, Some, length, get_or, take, inl, inr, refl, sym, ap, ◌∙◌, subst, eqb, arith}
use Rattle.std.specs.Prelude.{slice_get, slice_index}
use Rattle.std.specs.List.{IsDistinct, AllByRecursion}
use Rattle.std.specs.List.Sorted.{IsPermutation, IsNonDecreasing, IsStrictlyIncreasing}
use Rattle.std.proofs.lemmas.Bool.{cases_eq, cases_lt, ne_eqb}
use Rattle.std.proofs.lemmas.List.Sorted.{Contains-permutation, IsPermutation-sym}
use Rattle.std.proofs.lemmas.Map.Keys.{IsDistinct-IsPermutation, IsStrictlyIncreasing-from_distinct}
use Rattle.std.proofs.lemmas.Grind.{get_or_default_zero}
use Rattle.std.proofs.lemmas.List.{get_or_past, take_all}
use Rattle.std.proofs.lemmas.Nat.{mod-mul-add}
use Rattle.std.proofs.lemmas.Option.{slice_get-get_or, slice_get_within, get_or_from_slice_get}
use Rattle.inc_graph.proofs.Members.{member_at}
use Rattle.inc_cost.specs.Costs.{IsDearer, AreDearest}
use Rattle.inc_cost.specs.Ranking.{key_of, AreKeysOf, ArePlacesOf}

-- of two keys the less
key_less : (amounts : List ℕ) (a b : ℕ) → a < 4_294_967_296 → b < 4_294_967_296 → slice_index amounts a < 18_446_744_073_709_551_616 → slice_index amounts b < 18_446_744_073_709_551_616
    → key_of (slice_index amounts a) a < key_of (slice_index amounts b) b → IsDearer amounts a b
key_less amounts a b low_a low_b fits_a fits_b less = elim (cases_lt (slice_index amounts b) (slice_index amounts a)) [
  | inl more ↦ inl more
  | inr most ↦ elim (cases_eq (slice_index amounts b) (slice_index amounts a)) [
    | inl same ↦ inr (same, omega arith)
    | inr other ↦ absurd (omega arith)
  ]
]

once_distinct : (keys : List ℕ) → ((j k key : ℕ) → slice_get keys j ≡ Some key → slice_get keys k ≡ Some key → j ≡ k) → IsDistinct eqb keys
unfolding IsDistinct
once_distinct [] once = tt
once_distinct (x ∷ xs) once = (apart xs (λ k at. let same = once 0 (suc k) x refl at in omega arith), once_distinct xs (λ j k key at also. let same = once (suc j) (suc k) key at also in omega arith))
  where
    apart : (ys : List ℕ) → ((k : ℕ) → slice_get ys k ≡ Some x → ⊥) → AllByRecursion (λ y. eqb x y ≡ false) ys
    apart [] never = tt
    apart (y ∷ ys) never = (ne_eqb x y (λ same. never 0 (ap (λ (n : ℕ). Some n) (sym same))), apart ys (λ k at. never (suc k) at))

rises : (xs : List ℕ) → IsStrictlyIncreasing xs → (j n : ℕ) → j + suc n < length xs → slice_index xs j < slice_index xs (j + suc n)
rises xs rise j zero low =
    let step = rise j (omega arith) in
    let at : slice_index xs (j + 1) ≡ slice_index xs (j + suc zero) = refl in
    omega arith
rises xs rise j (suc n) low =
    let before = rises xs rise j n (omega arith) in
    let step = rise (j + suc n) (omega arith) in
    let at : slice_index xs (j + suc n + 1) ≡ slice_index xs (j + suc (suc n)) = ap (slice_index xs) (let e : j + suc n + 1 ≡ j + suc (suc n) = omega arith in e) in
    omega arith

pub rises_to : (xs : List ℕ) → IsStrictlyIncreasing xs → (j k : ℕ) → j < k → k < length xs → slice_index xs j < slice_index xs k
rises_to xs rise j k less low =
    let is : k ≡ j + suc (k - suc j) = omega arith in
    subst (λ (m : ℕ). slice_index xs j < slice_index xs m) (sym is) (rises xs rise j (k - suc j) (omega arith))

take_index : (n : ℕ) (xs : List ℕ) (k : ℕ) → k < n → slice_index (take n xs) k ≡ slice_index xs k
take_index zero xs k low = absurd (omega arith)
take_index (suc n) [] k low = refl
take_index (suc n) (x ∷ xs) zero low = refl
take_index (suc n) (x ∷ xs) (suc k) low = take_index n xs k (omega arith)

length_take : (n : ℕ) (xs : List ℕ) → (length (take n xs) ≤ n) × (length (take n xs) ≤ length xs) × (n ≤ length xs → length (take n xs) ≡ n)
length_take zero xs = (omega arith, omega arith, λ low. refl)
length_take (suc n) [] = (omega arith, omega arith, λ low. absurd (omega arith))
length_take (suc n) (x ∷ xs) = let r = length_take n xs in let a = r.0 in let b = r.1 in (omega arith, omega arith, λ low. let c = r.2 (omega arith) in omega arith)

-- the first of the sorted keys have the places of the dearest amounts
pub dearest_are : (amounts keys sorted : List ℕ) (most : ℕ) (places : List ℕ) → length amounts ≤ 4_294_967_296 → ((i : ℕ) → slice_index amounts i < 18_446_744_073_709_551_616)
    → AreKeysOf amounts (length amounts) keys → IsPermutation keys sorted → IsNonDecreasing sorted → ArePlacesOf (take most sorted) (length (take most sorted)) places → AreDearest amounts most places
dearest_are amounts keys sorted most places few fits are moved ordered named =
    let rising = IsStrictlyIncreasing-from_distinct sorted ordered (IsDistinct-IsPermutation eqb (λ x y. flips x y) keys sorted moved (once_distinct keys are.once)) in
    let cut = length_take most sorted in
    let long = named.long in
    let at_most = cut.0 in
    let within = cut.1 in
    let entry : (k : ℕ) → k < length places → (place : ℕ) × (place < length amounts) × (0 < slice_index amounts place) × (slice_index sorted k ≡ key_of (slice_index amounts place) place) × (slice_index places k ≡ place) = λ k low.
    let there = Contains-permutation sorted keys (slice_index sorted k) (IsPermutation-sym keys sorted moved) (k, omega arith, get_or_default_zero sorted k (slice_index sorted k) (omega arith)) in
    let e = are.each there.0 (slice_index sorted k) (slice_get-get_or keys there.0 0 there.1 ∙ ap (λ (n : ℕ). Some n) (at_zero keys there.0 (slice_index sorted k) there.1 there.2)) in
    let read : slice_index places k ≡ slice_index sorted k % 4_294_967_296 = named.each k (omega arith) ∙ ap (λ (n : ℕ). n % 4_294_967_296) (take_index most sorted k (omega arith)) in
    let low_place : e.0 < 4_294_967_296 = let l = e.1 in omega arith in
    (e.0, e.1, e.2, e.3, read ∙ ap (λ (n : ℕ). n % 4_294_967_296) e.3 ∙ mod-mul-add (18_446_744_073_709_551_615 - slice_index amounts e.0) 4_294_967_296 e.0 low_place) in
    let placed : (k place : ℕ) → slice_get places k ≡ Some place → (k < length places) × (slice_index places k ≡ place) = λ k place at. (slice_get_within places k place at, get_or_from_slice_get places k place 0 at) in
    let dearer : (j k : ℕ) → j < k → k < length sorted → (first other : ℕ) → first < length amounts → other < length amounts → slice_index sorted j ≡ key_of (slice_index amounts first) first
    → slice_index sorted k ≡ key_of (slice_index amounts other) other → IsDearer amounts first other = λ j k less low first other low_first low_other first_is other_is.
    let up = rises_to sorted rising j k less low in
    key_less amounts first other (omega arith) (omega arith) (fits first) (fits other) (omega arith) in
    record {
      few = omega arith;
      some = λ k place at.
          let p = placed k place at in
          let e = entry k p.0 in
          subst (λ (n : ℕ). 0 < slice_index amounts n) (sym e.4 ∙ p.1) e.2;
      order = λ j k first other less at also.
          let p = placed j first at in
          let q = placed k other also in
          let d = entry j p.0 in
          let e = entry k q.0 in
          let low = q.0 in
          subst (λ (n : ℕ). IsDearer amounts n other) (sym d.4 ∙ p.1) (subst (IsDearer amounts d.0) (sym e.4 ∙ q.1) (dearer j k less (omega arith) d.0 e.0 d.1 e.1 d.3 e.3));
      rest = λ place some.
          let low = amount_within amounts place some in
          let key = are.all place low some in
          let there = Contains-permutation keys sorted (key_of (slice_index amounts place) place) moved
          (key.0, slice_get_within keys key.0 (key_of (slice_index amounts place) place) key.1, get_or_from_slice_get keys key.0 (key_of (slice_index amounts place) place) (key_of (slice_index amounts place) place) key.1) in
          let i = there.0 in
          let i_low = there.1 in
          let i_is : slice_index sorted there.0 ≡ key_of (slice_index amounts place) place = at_zero sorted there.0 (key_of (slice_index amounts place) place) there.1 there.2 in
          elim (cases_lt there.0 most) [
            | inl inside ↦
                let here : there.0 < length places = let all = cut.2 in elim (cases_lt (length sorted) most) [
                  | inl short ↦ let whole = take_whole most sorted (omega arith) in let same = ap (λ (l : List ℕ). length l) whole in omega arith
                  | inr enough ↦ let full = all enough in omega arith
                ] in
                let e = entry there.0 here in
                let same : e.0 ≡ place = same_place (slice_index amounts e.0) (slice_index amounts place) e.0 place (let l = e.1 in omega arith) (omega arith) (sym e.3 ∙ i_is) in
                inl (member_at places there.0 place (slice_get-get_or places there.0 0 here ∙ ap (λ (n : ℕ). Some n) (e.4 ∙ same)))
            | inr behind ↦
                let full = cut.2 (omega arith) in
                inr (
                  omega arith,
                  λ k first at.
                      let p = placed k first at in
                      let e = entry k p.0 in
                      let inside = p.0 in
                      subst (λ (n : ℕ). IsDearer amounts n place) (sym e.4 ∙ p.1) (dearer k there.0 (omega arith) there.1 e.0 place e.1 low e.3 i_is),
                )
          ];
    }
  where
    flips : (x y : ℕ) → eqb x y ≡ eqb y x
    flips x y = elim (cases_eq x y) [
      | inl same ↦ ap (λ (n : ℕ). eqb n y) same ∙ ap (eqb y) (sym same)
      | inr other ↦ ne_eqb x y other ∙ sym (ne_eqb y x (λ is. other (sym is)))
    ]

    at_zero : (xs : List ℕ) (k x : ℕ) → k < length xs → get_or xs k x ≡ x → slice_index xs k ≡ x
    at_zero xs k x low at = sym (get_or_default_zero xs k x low) ∙ at

    amount_within : (xs : List ℕ) (k : ℕ) → 0 < slice_index xs k → k < length xs
    amount_within xs k some = elim (cases_lt k (length xs)) [
      | inl low ↦ low
      | inr high ↦ let none : slice_index xs k ≡ 0 = get_or_past xs k 0 high in absurd (omega arith)
    ]

    take_whole : (n : ℕ) (xs : List ℕ) → length xs ≤ n → take n xs ≡ xs
    take_whole n xs low = take_all n xs low

    same_place : (a b p q : ℕ) → p < 4_294_967_296 → q < 4_294_967_296 → key_of a p ≡ key_of b q → p ≡ q
    same_place a b p q low high same = sym (mod-mul-add (18_446_744_073_709_551_615 - a) 4_294_967_296 p low) ∙ ap (λ (n : ℕ). n % 4_294_967_296) same ∙ mod-mul-add (18_446_744_073_709_551_615 - b) 4_294_967_296 q high
