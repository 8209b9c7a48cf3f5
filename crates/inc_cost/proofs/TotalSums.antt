-- Sums of weights over files and over sources, and how large they are.
use Rattle.std.proofs.Common.{◌≡◌, ℕ, ◌+◌, ◌<◌, ◌≤◌, List, [], ◌∷◌, ◌++◌, length, get_or, map, take, refl, sym, ap, ◌∙◌, subst, add-one, arith}
use Rattle.std.specs.Prelude.{slice_index_or, sum_by}
use Rattle.std.proofs.Math.Seq.{take-suc}
use Rattle.std.proofs.lemmas.List.{take-map}
use Rattle.std.proofs.lemmas.List.Sums.{sum-map, sum_by-cons}
use Rattle.std.proofs.lemmas.Map.Keys.{sorted_from_strictly_increasing}
use Rattle.std.proofs.lemmas.Map.Views.{length-le_from_below}
use Rattle.inc_graph.specs.declared.search.Visit.{Visit}
use Rattle.inc_graph.specs.IncludeGraph.{Graph, IsSound}
use Rattle.inc_cost.specs.Costs.{IsSum, IsTotal, IsWeight, no_source, and_source, weight_of}

sum_push : (w : ℕ → ℕ) (xs : List ℕ) (x : ℕ) → sum_by w (xs ++ x ∷ []) ≡ sum_by w xs + w x
sum_push w [] x = let one = sum_by-cons w x [] in omega arith
sum_push w (y ∷ ys) x =
    let rest = sum_push w ys x in
    let more = sum_by-cons w y (ys ++ x ∷ []) in
    let less = sum_by-cons w y ys in
    omega arith

pub weight_push : (weights xs : List ℕ) (x : ℕ) → weight_of weights (xs ++ x ∷ []) ≡ weight_of weights xs + slice_index_or weights x 0
weight_push weights xs x =
    let w : ℕ → ℕ = λ f. slice_index_or weights f 0 in
    let all = sum-map w (xs ++ x ∷ []) in
    let some = sum-map w xs in
    let more = sum_push w xs x in
    omega arith

take_push : {X : Type 0} (xs : List X) (i : ℕ) (x : X) → i < length xs → x ≡ get_or xs i x → take (i + 1) xs ≡ take i xs ++ x ∷ []
take_push xs i x low at = ap (λ (n : ℕ). take n xs) (add-one i) ∙ take-suc xs i x low ∙ ap (λ y. take i xs ++ y ∷ []) (sym at)

-- one more file that is reached
pub visits_taken : (vs items : List (Visit (Unit {0}))) (i : ℕ) (v : Visit (Unit {0})) → items ≡ vs → i < length items → v ≡ get_or items i v
    → take (i + 1) (map (λ (u : Visit (Unit {0})). u.file) vs) ≡ take i (map (λ (u : Visit (Unit {0})). u.file) vs) ++ v.file ∷ []
visits_taken vs items i v are low at =
    let file : Visit (Unit {0}) → ℕ = λ u. u.file in
    let inside : i < length vs = let long = ap (λ (l : List (Visit (Unit {0}))). length l) are in omega arith in
    let there : v ≡ get_or vs i v = at ∙ ap (λ (l : List (Visit (Unit {0}))). get_or l i v) are in
    take-map file (i + 1) vs ∙ ap (λ (l : List (Visit (Unit {0}))). map file l) (take_push vs i v inside there) ∙ mapped (take i vs) ∙ ap (λ (l : List ℕ). l ++ v.file ∷ []) (sym (take-map file i vs))
  where
    mapped : (us : List (Visit (Unit {0}))) → map (λ (u : Visit (Unit {0})). u.file) (us ++ v ∷ []) ≡ map (λ (u : Visit (Unit {0})). u.file) us ++ v.file ∷ []
    mapped [] = refl
    mapped (u ∷ us) = ap (λ (l : List ℕ). u.file ∷ l) (mapped us)

pub visit_more : (weights : List ℕ) (vs items : List (Visit (Unit {0}))) (i : ℕ) (v : Visit (Unit {0})) → items ≡ vs → i < length items → v ≡ get_or items i v
    → weight_of weights (take (i + 1) (map (λ (u : Visit (Unit {0})). u.file) vs)) ≡ weight_of weights (take i (map (λ (u : Visit (Unit {0})). u.file) vs)) + slice_index_or weights v.file 0
visit_more weights vs items i v are low at =
    ap (weight_of weights) (visits_taken vs items i v are low at) ∙ weight_push weights (take i (map (λ (u : Visit (Unit {0})). u.file) vs)) v.file

-- one more source
pub sum_more : (Has : ℕ → ℕ → Type 0) (sources : List ℕ) (total source n : ℕ) → IsSum Has sources total → Has source n → IsSum Has (sources ++ source ∷ []) (total + n)
sum_more Has [] total source n no_source has = subst (λ k. IsSum Has (source ∷ []) k) (let e : n + 0 ≡ 0 + n = omega arith in e) (and_source has no_source)
sum_more Has (s ∷ ss) total source n (and_source {n = m} {total = rest} first others) has =
    subst (λ k. IsSum Has (s ∷ (ss ++ source ∷ [])) k) (let e : m + (rest + n) ≡ m + rest + n = omega arith in e) (and_source first (sum_more Has ss rest source n others has))

pub total_push : (g : Graph) (weights set sources : List ℕ) (total source n : ℕ) → IsTotal g weights set sources total → IsWeight g weights set source n → IsTotal g weights set (sources ++ source ∷ []) (total + n)
total_push g weights set sources total source n is weight = sum_more (λ s m. IsWeight g weights set s m) sources total source n is weight

pub total_more : (g : Graph) (weights set sources items : List ℕ) (i total source n : ℕ) → items ≡ sources → i < length items → source ≡ get_or items i source → IsTotal g weights set (take i sources) total
    → IsWeight g weights set source n → IsTotal g weights set (take (i + 1) sources) (total + n)
total_more g weights set sources items i total source n are low at so_far weight =
    let inside : i < length sources = let long = ap (λ (l : List ℕ). length l) are in omega arith in
    subst (λ (l : List ℕ). IsTotal g weights set l (total + n)) (sym (take_push sources i source inside (at ∙ ap (λ (l : List ℕ). get_or l i source) are)))
    (total_push g weights set (take i sources) total source n so_far weight)

-- a graph has few sources
pub few_sources : (g : Graph) → IsSound g → length g.sources ≤ 65_535
few_sources g sound =
    let most = length-le_from_below g.files g.sources (sorted_from_strictly_increasing g.sources sound.ends.sources_rise) sound.ends.sources_within in
    let few = sound.few in
    omega arith
