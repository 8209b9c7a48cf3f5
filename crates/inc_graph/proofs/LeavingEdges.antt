-- The edges that leave a file, by their places among them and by their numbers.
use Rattle.std.proofs.Common.{◌≡◌, ℕ, ◌+◌, Bool, true, List, [], ◌∷◌, Some, filter, zero, suc, sym, ap, ◌∙◌, inl, inr, arith}
use Rattle.std.specs.Prelude.{slice_get, ◌==◌}
use Rattle.std.proofs.lemmas.Bool.{cases_Bool, cond-true, cond-false, eqb-true}
use Rattle.std.proofs.lemmas.Option.{none-some, same_Some}
use Rattle.inc_graph.specs.declared.graphs.Edge as declared
use Rattle.inc_graph.specs.IncludeGraph.{Edge, Graph}
use Rattle.inc_graph.specs.Views.{numbered_from, seen_edge}
use Rattle.inc_graph.specs.Indexes.{edges_leaving}
use Rattle.inc_graph.proofs.NumberedEdges.{with_number}

-- an edge that passes is among those that pass
pub passing_at : (p : declared.Edge → Bool) (n : ℕ) (edges : List Edge) (i m : ℕ) (x : Edge) → m ≡ n + i → slice_get edges i ≡ Some x
    → p (with_number m x) ≡ true → (k : ℕ) × (slice_get (filter p (numbered_from n edges)) k ≡ Some (with_number m x))
passing_at p n [] i m x is at passes = absurd (none-some x at)
passing_at p n (y ∷ ys) zero m x is at passes =
    let e : m ≡ n = omega arith in
    let same : with_number m x ≡ with_number n y = ap (λ (j : ℕ). with_number j x) e ∙ ap (with_number n) (sym (same_Some y x at)) in
    (0, rw (cond-true (p (with_number n y)) _ _ (ap p (sym same) ∙ passes)) (ap Some (sym same)))
passing_at p n (y ∷ ys) (suc i) m x is at passes =
    let further = passing_at p (n + 1) ys i m x (omega arith) at passes in
    elim (cases_Bool (p (with_number n y))) [
      | inl yes' ↦ (suc further.0, rw (cond-true (p (with_number n y)) _ _ yes') further.1)
      | inr no' ↦ (further.0, rw (cond-false (p (with_number n y)) _ _ no') further.1)
    ]

first_passing : (p : declared.Edge → Bool) (n : ℕ) (y : Edge) (ys : List Edge) (k : ℕ) (e : declared.Edge)
    → ((j : ℕ) → slice_get (filter p (numbered_from (n + 1) ys)) j ≡ Some e → (i : ℕ) × (e.id ≡ n + 1 + i) × (slice_get ys i ≡ Some (seen_edge e)) × (p e ≡ true))
    → slice_get (with_number n y ∷ filter p (numbered_from (n + 1) ys)) k ≡ Some e → p (with_number n y) ≡ true
    → (i : ℕ) × (e.id ≡ n + i) × (slice_get (y ∷ ys) i ≡ Some (seen_edge e)) × (p e ≡ true)
first_passing p n y ys zero e more there passes =
    let same : with_number n y ≡ e = same_Some (with_number n y) e there in
    let id : n ≡ e.id = ap (λ (d : declared.Edge). d.id) same in
    (0, omega arith, ap (λ (d : declared.Edge). Some (seen_edge d)) same, ap p (sym same) ∙ passes)
first_passing p n y ys (suc j) e more there passes =
    let further = more j there in
    let is = further.1 in
    (suc further.0, omega arith, further.2, further.3)

-- and each of these passes
pub passing_from : (p : declared.Edge → Bool) (n : ℕ) (edges : List Edge) (k : ℕ) (e : declared.Edge) → slice_get (filter p (numbered_from n edges)) k ≡ Some e
    → (i : ℕ) × (e.id ≡ n + i) × (slice_get edges i ≡ Some (seen_edge e)) × (p e ≡ true)
passing_from p n [] k e at = absurd (none-some e at)
passing_from p n (y ∷ ys) k e at =
    elim (cases_Bool (p (with_number n y))) [
      | inl passes ↦ first_passing p n y ys k e (λ j there. passing_from p (n + 1) ys j e there) (ap (λ (l : List declared.Edge). slice_get l k) (sym (cond-true (p (with_number n y)) _ _ passes)) ∙ at) passes
      | inr fails ↦
          let further = passing_from p (n + 1) ys k e (ap (λ (l : List declared.Edge). slice_get l k) (sym (cond-false (p (with_number n y)) _ _ fails)) ∙ at) in
          let is = further.1 in
          (suc further.0, omega arith, further.2, further.3)
    ]

-- each edge that leaves a file is the one with its number
pub leaving_at : (g : Graph) (file k : ℕ) (e : declared.Edge) → slice_get (edges_leaving g.edges file) k ≡ Some e
    → (slice_get g.edges e.id ≡ Some (seen_edge e)) × (e.from ≡ file)
leaving_at g file k e at =
    let p = passing_from (λ (d : declared.Edge). d.from == file) 0 g.edges k e at in
    let is : p.0 ≡ e.id = let x = p.1 in omega arith in
    (ap (slice_get g.edges) (sym is) ∙ p.2, eqb-true e.from file p.3)
