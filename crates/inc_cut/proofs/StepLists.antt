-- The steps that leave a file, along edges and back over them, as lists.
use Rattle.std.proofs.Common.{◌≡◌, ℕ, ◌+◌, ◌<◌, Bool, true, false, List, [], ◌∷◌, Some, length, map, filter, zero, suc, refl, sym, ap, ◌∙◌, arith}
use Rattle.std.specs.Prelude.{slice_get, nat_lt, ◌==◌}
use Rattle.std.specs.Option.{option_map_or}
use Rattle.std.proofs.lemmas.Bool.{eqb-true, eq-eqb, lt-ltb, ltb-true}
use Rattle.std.proofs.lemmas.Option.{none-some, same_Some, slice_get_within}
use Rattle.inc_graph.specs.declared.graphs.Edge as declared
use Rattle.inc_graph.specs.IncludeGraph.{Edge, Graph, IsSound}
use Rattle.inc_graph.specs.Views.{numbered_from, numbered, seen_edge}
use Rattle.inc_graph.specs.Chains.{target}
use Rattle.inc_graph.specs.Indexes.{edges_leaving, edges_entering}
use Rattle.inc_graph.proofs.NumberedEdges.{with_number}
use Rattle.inc_graph.proofs.LeavingEdges.{passing_at, passing_from, leaving_at}
use Rattle.inc_graph.proofs.Walks.{inner_edge}
use Rattle.inc_cut.specs.declared.flows.Step.{Step}
use Rattle.inc_cut.specs.Flows.{source_of, step_from, step_to}
use Rattle.inc_cut.specs.NextSteps.{ahead_of, back_of}

---- lists by their places

pub at_of : {X : Type 0} (xs : List X) (i : ℕ) → i < length xs → (x : X) × (slice_get xs i ≡ Some x)
at_of [] i less = absurd (omega arith)
at_of (x ∷ xs) zero less = (x, refl)
at_of (x ∷ xs) (suc i) less = at_of xs i (omega arith)

pub map_at : {X Y : Type 0} (f : X → Y) (xs : List X) (k : ℕ) (x : X) → slice_get xs k ≡ Some x → slice_get (map f xs) k ≡ Some (f x)
map_at f [] k x at = absurd (none-some x at)
map_at f (y ∷ ys) zero x at = ap (λ z. Some (f z)) (same_Some y x at)
map_at f (y ∷ ys) (suc k) x at = map_at f ys k x at

pub map_from : {X Y : Type 0} (f : X → Y) (xs : List X) (k : ℕ) (y : Y) → slice_get (map f xs) k ≡ Some y → (x : X) × (slice_get xs k ≡ Some x) × (f x ≡ y)
map_from f [] k y at = absurd (none-some y at)
map_from f (x ∷ xs) zero y at = (x, refl, same_Some (f x) y at)
map_from f (x ∷ xs) (suc k) y at = map_from f xs k y at

---- steps from a file

-- the steps from a file in one direction, each between files of the graph
pub record AreSteps (g : Graph) (file : ℕ) (forward : Bool) (steps : List Step) : Type 0 where
  -- each is over an edge of the graph
  pub within : (k : ℕ) (s : Step) → slice_get steps k ≡ Some s → nat_lt s.edge (length g.edges) ≡ true
  -- from this file
  pub from : (k : ℕ) (s : Step) → slice_get steps k ≡ Some s → step_from g s ≡ file
  -- to a file of the graph
  pub to : (k : ℕ) (s : Step) → slice_get steps k ≡ Some s → step_to g s < g.files
  -- and each such step is there
  pub whole : (s : Step) → s.forward ≡ forward → nat_lt s.edge (length g.edges) ≡ true → step_from g s ≡ file → (k : ℕ) × (slice_get steps k ≡ Some s)

pub from_at : (g : Graph) (i : ℕ) (x : Edge) → slice_get g.edges i ≡ Some x → source_of g i ≡ x.from
from_at g i x at = ap (λ o. option_map_or (λ (e : Edge). e.from) o 0) at

pub to_at : (g : Graph) (i : ℕ) (x : Edge) → slice_get g.edges i ≡ Some x → target g i ≡ x.to
to_at g i x at = ap (λ o. option_map_or (λ (e : Edge). e.to) o 0) at

-- an edge with this number leads to the file
pub entering_at : (g : Graph) (file k i : ℕ) → slice_get (edges_entering g.edges file) k ≡ Some i
    → (x : Edge) × (slice_get g.edges i ≡ Some x) × (x.to ≡ file)
entering_at g file k i at =
    let e = map_from (λ (d : declared.Edge). d.id) (filter (λ (d : declared.Edge). d.to == file) (numbered g.edges)) k i at in
    let p = passing_from (λ (d : declared.Edge). d.to == file) 0 g.edges k e.0 e.1 in
    let is : p.0 ≡ i = let x = p.1 in let y = e.2 in omega arith in
    (seen_edge e.0, ap (slice_get g.edges) (sym is) ∙ p.2, eqb-true e.0.to file p.3)

pub steps_ahead : (g : Graph) (file : ℕ) → IsSound g → AreSteps g file true (map ahead_of (edges_leaving g.edges file))
steps_ahead g file sound = record { within = within; from = from; to = to; whole = whole }
  where
    within : (k : ℕ) (s : Step) → slice_get (map ahead_of (edges_leaving g.edges file)) k ≡ Some s → nat_lt s.edge (length g.edges) ≡ true
    within k s at =
        let e = map_from ahead_of (edges_leaving g.edges file) k s at in
        rw (← e.2) (lt-ltb e.0.id (length g.edges) (slice_get_within g.edges e.0.id (seen_edge e.0) (leaving_at g file k e.0 e.1).0))

    from : (k : ℕ) (s : Step) → slice_get (map ahead_of (edges_leaving g.edges file)) k ≡ Some s → step_from g s ≡ file
    from k s at =
        let e = map_from ahead_of (edges_leaving g.edges file) k s at in
        let l = leaving_at g file k e.0 e.1 in
        rw (← e.2) (from_at g e.0.id (seen_edge e.0) l.0 ∙ l.1)

    to : (k : ℕ) (s : Step) → slice_get (map ahead_of (edges_leaving g.edges file)) k ≡ Some s → step_to g s < g.files
    to k s at =
        let e = map_from ahead_of (edges_leaving g.edges file) k s at in
        let l = leaving_at g file k e.0 e.1 in
        rw (← e.2) (rw (to_at g e.0.id (seen_edge e.0) l.0) (inner_edge g e.0.id (seen_edge e.0) sound l.0).to_within)

    whole : (s : Step) → s.forward ≡ true → nat_lt s.edge (length g.edges) ≡ true → step_from g s ≡ file
        → (k : ℕ) × (slice_get (map ahead_of (edges_leaving g.edges file)) k ≡ Some s)
    whole s is low begins =
        let x = at_of g.edges s.edge (ltb-true s.edge (length g.edges) low) in
        let same : s ≡ record { edge = s.edge; forward = true } = ap (λ (b : Bool). record { edge = s.edge; forward = b }) is in
        let at_file : x.0.from ≡ file = sym (from_at g s.edge x.0 x.1) ∙ ap (step_from g) (sym same) ∙ begins in
        let there = passing_at (λ (d : declared.Edge). d.from == file) 0 g.edges s.edge s.edge x.0 (omega arith) x.1 (eq-eqb x.0.from file at_file) in
        (there.0, map_at ahead_of (edges_leaving g.edges file) there.0 (with_number s.edge x.0) there.1 ∙ ap Some (sym same))

pub steps_back : (g : Graph) (file : ℕ) → IsSound g → AreSteps g file false (map back_of (edges_entering g.edges file))
steps_back g file sound = record { within = within; from = from; to = to; whole = whole }
  where
    within : (k : ℕ) (s : Step) → slice_get (map back_of (edges_entering g.edges file)) k ≡ Some s → nat_lt s.edge (length g.edges) ≡ true
    within k s at =
        let i = map_from back_of (edges_entering g.edges file) k s at in
        let x = entering_at g file k i.0 i.1 in
        rw (← i.2) (lt-ltb i.0 (length g.edges) (slice_get_within g.edges i.0 x.0 x.1))

    from : (k : ℕ) (s : Step) → slice_get (map back_of (edges_entering g.edges file)) k ≡ Some s → step_from g s ≡ file
    from k s at =
        let i = map_from back_of (edges_entering g.edges file) k s at in
        let x = entering_at g file k i.0 i.1 in
        rw (← i.2) (to_at g i.0 x.0 x.1 ∙ x.2)

    to : (k : ℕ) (s : Step) → slice_get (map back_of (edges_entering g.edges file)) k ≡ Some s → step_to g s < g.files
    to k s at =
        let i = map_from back_of (edges_entering g.edges file) k s at in
        let x = entering_at g file k i.0 i.1 in
        rw (← i.2) (rw (from_at g i.0 x.0 x.1) (inner_edge g i.0 x.0 sound x.1).from_within)

    whole : (s : Step) → s.forward ≡ false → nat_lt s.edge (length g.edges) ≡ true → step_from g s ≡ file
        → (k : ℕ) × (slice_get (map back_of (edges_entering g.edges file)) k ≡ Some s)
    whole s is low begins =
        let x = at_of g.edges s.edge (ltb-true s.edge (length g.edges) low) in
        let same : s ≡ record { edge = s.edge; forward = false } = ap (λ (b : Bool). record { edge = s.edge; forward = b }) is in
        let at_file : x.0.to ≡ file = sym (to_at g s.edge x.0 x.1) ∙ ap (step_from g) (sym same) ∙ begins in
        let there = passing_at (λ (d : declared.Edge). d.to == file) 0 g.edges s.edge s.edge x.0 (omega arith) x.1 (eq-eqb x.0.to file at_file) in
        let id = map_at (λ (d : declared.Edge). d.id) (filter (λ (d : declared.Edge). d.to == file) (numbered g.edges)) there.0 (with_number s.edge x.0) there.1 in
        (there.0, map_at back_of (edges_entering g.edges file) there.0 s.edge id ∙ ap Some (sym same))

---- the numbered edges

pub numbered_at : (n : ℕ) (edges : List Edge) (i : ℕ) (e : declared.Edge) → slice_get (numbered_from n edges) i ≡ Some e → (e.id ≡ n + i) × (slice_get edges i ≡ Some (seen_edge e))
numbered_at n [] i e at = absurd (none-some e at)
numbered_at n (y ∷ ys) zero e at =
    let same : with_number n y ≡ e = same_Some (with_number n y) e at in
    let id : n ≡ e.id = ap (λ (d : declared.Edge). d.id) same in
    (omega arith, ap (λ (d : declared.Edge). Some (seen_edge d)) same)
numbered_at n (y ∷ ys) (suc i) e at =
    let r = numbered_at (n + 1) ys i e at in
    let id = r.0 in
    (omega arith, r.1)
