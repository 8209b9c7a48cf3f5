-- The amounts of marked edges, and that the files with a mark are those of the closure.
use Rattle.std.proofs.Common.{◌≡◌, ℕ, suc, ◌≤◌, Bool, true, false, ◌||◌, cond, List, [], ◌∷◌, ◌++◌, Option, Some, Ok, inl, inr, refl, sym, ap, ◌∙◌, arith}
use Rattle.std.specs.Prelude.{map, ◌==◌, ◌⊎◌, slice_get, slice_index, option_map}
use Rattle.std.specs.List.{All, list_any}
use Rattle.std.specs.Option.{option_map_or}
use Rattle.std.proofs.lemmas.Bool.{true≢false, false≢true, eq-eqb, eqb-true, ne_eqb, and_parts}
use Rattle.std.proofs.lemmas.List.Folds.{list_any_at, Any-from_list_any}
use Rattle.std.proofs.lemmas.Option.{slice_get-map, slice_get_within, slice_get-get_or, get_or_from_slice_get}
use Rattle.inc_graph.specs.declared.building.Source.{Source}
use Rattle.inc_graph.specs.Settings.{Setting}
use Rattle.inc_lookup.specs.Projects.{Layout, Listing}
use Rattle.inc_graph.specs.Chains.{target, leaves, is_walk}
use Rattle.inc_graph.specs.Cuts.{fixed_by, costs_by}
use Rattle.inc_graph.specs.IncludeGraph.{Edge, Graph, InClosure, IsClosure, is_found, IsGraphAnswer, LeadsToOne, Start}
use Rattle.inc_graph.specs.MarkedEdges.{names, names_edge, is_reached, amount_at, amount_for, edge_amount, amounts_by, is_kept}
use Rattle.inc_graph.specs.Marks.{Mark, Cost}
use Rattle.inc_graph.specs.Members.{is_member}
use Rattle.inc_graph.proofs.ClosureWalks.{closure_by_walks, edge_in_closure, found_inside, inside_found}
use Rattle.inc_graph.proofs.Walks.{walk_push, leaving_edge}

---- amounts

by_test : (c : Cost) (o : Option Cost) (b : Bool) → 1 ≤ c.amount → 1 ≤ option_map_or (λ (x : Cost). x.amount) o 1 → 1 ≤ option_map_or (λ (x : Cost). x.amount) (cond b (Some c) o) 1
by_test c o true here later = here
by_test c o false here later = later

-- a cost that is given is 1 or more
given_cost : (layout : Layout) (costs : List Cost) (file line : ℕ) → All (λ (c : Cost). 1 ≤ c.amount) costs → 1 ≤ amount_at layout costs file line
given_cost layout [] file line each = omega arith
given_cost layout (c ∷ cs) file line each =
    by_test c _ (names layout c.mark file line) (each 0 c (omega arith)) (given_cost layout cs file line (λ k d low. each (suc k) d (omega arith)))

amount_read : (f : Edge → ℕ) (es : List Edge) (i : ℕ) (e : Edge) → slice_get es i ≡ Some e → slice_index (map f es) i ≡ f e
amount_read f es i e is = get_or_from_slice_get (map f es) i (f e) 0 (slice_get-map f es i ∙ ap (option_map f) is)

zero_where : (a b : Bool) (n : ℕ) → 1 ≤ n → (cond a 0 (cond b 0 n) == 0) ≡ (a || b)
zero_where true b n low = refl
zero_where false true n low = refl
zero_where false false n low = ne_eqb n 0 (λ e. omega arith)

else_there : (a b : Bool) (n : ℕ) → (cond a 0 (cond b 0 n) == 0) ≡ false → cond a 0 (cond b 0 n) ≡ n
else_there true b n e = absurd (true≢false e)
else_there false true n e = absurd (true≢false e)
else_there false false n e = refl

pub fixed_where_marked : (layout : Layout) (g : Graph) (kept : List Bool) (marks : List Mark) (costs : List Cost) (i : ℕ) (e : Edge) → All (λ (c : Cost). 1 ≤ c.amount) costs
    → slice_get g.edges i ≡ Some e → fixed_by (amounts_by layout g kept marks costs) i ≡ (is_kept kept e || list_any (λ (m : Mark). names_edge layout m e) marks)
fixed_where_marked layout g kept marks costs i e each is =
    ap (λ (n : ℕ). n == 0) (amount_read (edge_amount layout kept marks costs) g.edges i e is)
    ∙ zero_where (is_kept kept e) (list_any (λ (m : Mark). names_edge layout m e) marks) (amount_for layout costs e) (given_cost layout costs e.from e.line each)

pub cost_elsewhere : (layout : Layout) (g : Graph) (kept : List Bool) (marks : List Mark) (costs : List Cost) (i : ℕ) (e : Edge) → All (λ (c : Cost). 1 ≤ c.amount) costs
    → slice_get g.edges i ≡ Some e → fixed_by (amounts_by layout g kept marks costs) i ≡ false → costs_by (amounts_by layout g kept marks costs) i ≡ amount_for layout costs e
cost_elsewhere layout g kept marks costs i e each is editable =
    let read = amount_read (edge_amount layout kept marks costs) g.edges i e is in
    read ∙ else_there (is_kept kept e) (list_any (λ (m : Mark). names_edge layout m e) marks) (amount_for layout costs e) (sym (ap (λ (n : ℕ). n == 0) read) ∙ editable)

---- reached files

both_ways : (a b : Bool) → (a ≡ true → b ≡ true) → (b ≡ true → a ≡ true) → a ≡ b
both_ways true b to from = sym (to refl)
both_ways false true to from = from refl
both_ways false false to from = refl

or_either : (a b : Bool) → (a || b) ≡ true → (a ≡ true) ⊎ (b ≡ true)
or_either true b e = inl refl
or_either false b e = inr e

or_right : (a b : Bool) → b ≡ true → (a || b) ≡ true
or_right true b e = refl
or_right false b e = e

or_left : (a b : Bool) → a ≡ true → (a || b) ≡ true
or_left true b e = refl
or_left false b e = absurd (false≢true e)

-- a walk leads to where it begins, or to where an edge leads
walk_end : (g : Graph) (a : ℕ) (w : List ℕ) (f : ℕ) → is_walk g a w f ≡ true → (a ≡ f) ⊎ (list_any (λ (e : Edge). e.to == f) g.edges ≡ true)
walk_end g a [] f walk = inl (eqb-true a f walk)
walk_end g a (i ∷ is) f walk =
    let steps = and_parts (leaves g a i) (is_walk g (target g i) is f) walk in
    let e = leaving_edge g a i _ refl steps.0 in
    let to : target g i ≡ e.0.to = ap (λ (o : Option Edge). option_map_or (λ (x : Edge). x.to) o 0) e.1 in
    elim (walk_end g (target g i) is f steps.1) [
      | inl here ↦ inr (list_any_at (λ (x : Edge). x.to == f) g.edges i e.0 (slice_get_within g.edges i e.0 e.1)
          (ap (λ (x : Edge). x.to == f) (get_or_from_slice_get g.edges i e.0 e.0 e.1) ∙ eq-eqb e.0.to f (sym to ∙ here)))
      | inr later ↦ inr later
    ]

module _ (setting : Setting) (listing : Listing) (sources : List Source) (headers : List ℕ) (g : Graph) (answer : IsGraphAnswer setting listing sources headers (Ok g)) (one : LeadsToOne g) where
  reached_inside : (f : ℕ) → is_reached g f ≡ true → InClosure setting listing sources headers f
  reached_inside f reached =
      elim (or_either (is_member f g.sources) (list_any (λ (e : Edge). e.to == f) g.edges) reached) [
        | inl here ↦ (closure_by_walks setting listing sources headers g answer one f).1 (record { source = f; among = here; walk = []; real = eq-eqb f f refl })
        | inr entered ↦
            let some = Any-from_list_any (λ (e : Edge). e.to == f) g.edges entered in
            let k : ℕ = some.0 in
            let e : Edge = some.1 in
            let at : slice_get g.edges k ≡ Some e = slice_get-get_or g.edges k e some.2 ∙ ap (λ (x : Edge). Some x) some.3 in
            let leaving : leaves g e.from k ≡ true = ap (λ (o : Option Edge). option_map_or (λ (x : Edge). x.from == e.from) o false) at ∙ eq-eqb e.from e.from refl in
            let to : target g k ≡ f = ap (λ (o : Option Edge). option_map_or (λ (x : Edge). x.to) o 0) at ∙ eqb-true e.to f some.4 in
            let front = (closure_by_walks setting listing sources headers g answer one e.from).0 (edge_in_closure setting listing sources headers g answer k e at) in
            (closure_by_walks setting listing sources headers g answer one f).1 (record {
              source = front.source;
              among = front.among;
              walk = front.walk ++ k ∷ [];
              real = ap (λ (b : ℕ). is_walk g front.source (front.walk ++ k ∷ []) b) (sym to) ∙ walk_push g front.source front.walk e.from k front.real leaving;
            })
      ]

  inside_reached : (f : ℕ) → InClosure setting listing sources headers f → is_reached g f ≡ true
  inside_reached f inside =
      let walk = (closure_by_walks setting listing sources headers g answer one f).0 inside in
      elim (walk_end g walk.source walk.walk f walk.real) [
        | inl here ↦ or_left (is_member f g.sources) (list_any (λ (e : Edge). e.to == f) g.edges) (ap (λ (x : ℕ). is_member x g.sources) (sym here) ∙ walk.among)
        | inr entered ↦ or_right (is_member f g.sources) (list_any (λ (e : Edge). e.to == f) g.edges) entered
      ]

pub reached_is_inside : (setting : Setting) (listing : Listing) (sources : List Source) (headers : List ℕ) (g : Graph) (starts : ℕ → List Start) → IsGraphAnswer setting listing sources headers (Ok g) → LeadsToOne g
    → IsClosure setting listing sources headers starts → (f : ℕ) → is_reached g f ≡ is_found (starts f)
reached_is_inside setting listing sources headers g starts answer one closure f =
    both_ways (is_reached g f) (is_found (starts f))
    (λ reached. inside_found setting listing sources headers starts closure f (reached_inside setting listing sources headers g answer one f reached))
    (λ here. inside_reached setting listing sources headers g answer one f (found_inside setting listing sources headers starts closure f here))
