-- The first edge of each file to a nearer one, over the edges from the last one back.
use Rattle.std.proofs.Common.{◌≡◌, ℕ, ◌+◌, ◌<◌, ◌≤◌, true, false, List, Some, length, get_or, set, inl, inr, refl, sym, ap, ◌∙◌, subst, zero-add, arith, get_or-set_same, get_or-set_other}
use Rattle.std.specs.Prelude.{slice_get, slice_index, ◌==◌}
use Rattle.std.proofs.lemmas.Bool.{cases_eq, eq-eqb, eqb-true, false≢true}
use Rattle.std.proofs.lemmas.Option.{same_Some, slice_get_within}
use Rattle.inc_graph.specs.declared.graphs.Edge as declared
use Rattle.inc_graph.specs.IncludeGraph.{Edge, Graph, IsSound}
use Rattle.inc_graph.specs.Chains.{target, leaves}
use Rattle.inc_graph.specs.Distances.{distance, IsNearer, AreStepsFrom}
use Rattle.inc_graph.specs.Views.{seen_edge, numbered}
use Rattle.inc_graph.proofs.NumberedEdges.{length-numbered_from, numbered_at, numbered_from-at}
use Rattle.inc_graph.proofs.Walks.{inner_edge, leaving_edge}

-- an edge as it is read
pub record IsRead (g : Graph) (i : ℕ) (e : declared.Edge) : Type 0 where
  pub at : slice_get g.edges i ≡ Some (seen_edge e)
  pub id : e.id ≡ i
  pub from_within : e.from < g.files
  pub to_within : e.to < g.files

pub edge_read : (g : Graph) (i : ℕ) (edges : List declared.Edge) (e : declared.Edge) → IsSound g → edges ≡ numbered g.edges → i < length edges → e ≡ get_or edges i e → IsRead g i e
edge_read g i edges e sound are low read =
    let inside : i < length g.edges = let long = ap (λ (l : List declared.Edge). length l) are in omega (arith, long, length-numbered_from 0 g.edges) in
    let is : e ≡ get_or (numbered g.edges) i e = read ∙ ap (λ (l : List declared.Edge). get_or l i e) are in
    let there = numbered_from-at 0 g.edges i e inside is in
    let inner = inner_edge g i (seen_edge e) sound there in
    record {
      at = there;
      id = ap (λ (x : declared.Edge). x.id) (is ∙ numbered_at 0 g.edges i (seen_edge e) e there) ∙ zero-add i;
      from_within = inner.from_within;
      to_within = inner.to_within;
    }

-- an edge that leaves a file is one of the graph
leaves_low : (g : Graph) (f i : ℕ) → leaves g f i ≡ true → i < length g.edges
leaves_low g f i leads = let e = leaving_edge g f i _ refl leads in slice_get_within g.edges i e.0 e.1

pub no_steps : (g : Graph) (ds : List ℕ) (edges : List declared.Edge) (steps : List ℕ) → edges ≡ numbered g.edges → AreStepsFrom g ds (length edges) steps
no_steps g ds edges steps are f i past near =
    let long = ap (λ (l : List declared.Edge). length l) are in
    absurd (omega (arith, past, long, length-numbered_from 0 g.edges, leaves_low g f i near.0))

module _ (g : Graph) (ds steps : List ℕ) (n : ℕ) (e : declared.Edge) (read : IsRead g n e) (so_far : AreStepsFrom g ds (n + 1) steps) where
  leads_to : target g n ≡ e.to
  leads_to = rw read.at refl

  -- an edge that leads to a nearer file is the first so far of its file
  pub step_taken : (k : ℕ) → k ≡ e.from → k < length steps → (distance ds e.from == distance ds e.to + 1) ≡ true → AreStepsFrom g ds n (set steps k e.id)
  step_taken k is within nearer f i low near =
      elim (cases_eq f k) [
        | inl here ↦
            let at : slice_index (set steps k e.id) f ≡ n = ap (λ (x : ℕ). slice_index (set steps k e.id) x) here ∙ get_or-set_same steps k e.id 0 within ∙ read.id in
            let from : e.from ≡ f = sym (here ∙ is) in
            let here_near : IsNearer g ds f n = (
              rw read.at (eq-eqb e.from f from),
              ap (distance ds) (sym from) ∙ eqb-true (distance ds e.from) (distance ds e.to + 1) nearer ∙ ap (λ (x : ℕ). distance ds x + 1) (sym leads_to),
            ) in
            (subst (IsNearer g ds f) (sym at) here_near, omega (arith, at, low))
        | inr other ↦
            let at : slice_index (set steps k e.id) f ≡ slice_index steps f = get_or-set_other steps k f e.id 0 other in
            let later : n + 1 ≤ i = elim (cases_eq n i) [
              | inl same ↦
                  let x = leaving_edge g f n (slice_get g.edges n) refl (ap (leaves g f) same ∙ near.0) in
                  let edge : seen_edge e ≡ x.0 = same_Some (seen_edge e) x.0 (sym read.at ∙ x.1) in
                  absurd (other (sym (ap (λ (y : Edge). y.from) edge ∙ x.2) ∙ sym is))
              | inr apart ↦ omega arith
            ] in
            let old = so_far f i later near in
            (subst (IsNearer g ds f) (sym at) old.0, omega (arith, at, old.1))
      ]

  -- another one changes nothing
  pub step_skipped : (distance ds e.from == distance ds e.to + 1) ≡ false → AreStepsFrom g ds n steps
  step_skipped farther f i low near = elim (cases_eq n i) [
    | inl same ↦
        let x = leaving_edge g f n (slice_get g.edges n) refl (ap (leaves g f) same ∙ near.0) in
        let edge : seen_edge e ≡ x.0 = same_Some (seen_edge e) x.0 (sym read.at ∙ x.1) in
        let from : e.from ≡ f = ap (λ (y : Edge). y.from) edge ∙ x.2 in
        let is : distance ds e.from ≡ distance ds e.to + 1 =
        ap (distance ds) from ∙ near.1 ∙ ap (λ (j : ℕ). distance ds (target g j) + 1) (sym same) ∙ ap (λ (y : ℕ). distance ds y + 1) leads_to in
        absurd (false≢true (sym farther ∙ eq-eqb (distance ds e.from) (distance ds e.to + 1) is))
    | inr apart ↦ so_far f i (omega arith) near
  ]
