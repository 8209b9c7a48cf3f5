-- The edges of a graph by their numbers, as a loop over them reads them.
use Rattle.std.proofs.Common.{◌≡◌, ◌+◌, ◌<◌, ◌≤◌, ℕ, Bool, true, false, List, [], ◌∷◌, ◌++◌, cond, length, get_or, take, refl, sym, ap, ◌∙◌, arith}
use Rattle.std.specs.Prelude.{◌&&◌, not, filter, slice_get, if◌then◌else◌}
use Rattle.std.proofs.lemmas.Option.{slice_get_read, slice_get_within}
use Rattle.std.proofs.lemmas.List.{take_all}
use Rattle.std.proofs.lemmas.List.Elements.{filter_more}
use Rattle.std.proofs.lemmas.List.FromFn.{get_or-range_with_len, length-range_with_len}
use Rattle.std.proofs.lemmas.List.{append-nil}
use Rattle.inc_graph.specs.declared.graphs.Edge as declared
use Rattle.inc_graph.specs.IncludeGraph.{Graph, IsSound}
use Rattle.inc_graph.specs.Views.{numbered, seen_edge}
use Rattle.inc_graph.specs.Chains.{target}
use Rattle.inc_graph.proofs.NumberedEdges.{length-numbered_from}
use Rattle.inc_graph.proofs.Walks.{inner_edge}
use Rattle.inc_cut.specs.declared.flows.Step.{Step}
use Rattle.inc_cut.specs.Flows.{source_of, step_from, edge_numbers}
use Rattle.inc_cut.proofs.StepLists.{numbered_at, from_at, to_at}

-- the edge with this number
pub record IsEdgeAt (g : Graph) (i : ℕ) (e : declared.Edge) : Type 0 where
  pub low : i < length g.edges
  pub id : e.id ≡ i
  pub from : source_of g i ≡ e.from
  pub to : target g i ≡ e.to
  pub from_within : e.from < g.files
  pub to_within : e.to < g.files

pub edge_at : (g : Graph) (items : List declared.Edge) (i : ℕ) (e : declared.Edge) → IsSound g → items ≡ numbered g.edges → i < length items → e ≡ get_or items i e → IsEdgeAt g i e
edge_at g items i e sound are low is =
    let at = slice_get_read items (length items) i e refl low is in
    let n = numbered_at 0 g.edges i e (ap (λ (l : List declared.Edge). slice_get l i) (sym are) ∙ at) in
    let inner = inner_edge g i (seen_edge e) sound n.1 in
    record {
      low = slice_get_within g.edges i (seen_edge e) n.1;
      id = let x = n.0 in omega arith;
      from = from_at g i (seen_edge e) n.1;
      to = to_at g i (seen_edge e) n.1;
      from_within = inner.from_within;
      to_within = inner.to_within;
    }

pub passes_at : (reach : List Bool) (a b x y : ℕ) → x ≡ a → y ≡ b → (get_or reach a false && not (get_or reach b false)) ≡ (get_or reach x false && not (get_or reach y false))
passes_at reach a b x y from to = rw (from, to) refl

-- one more edge of those that pass
pub out_more : (g : Graph) (p : ℕ → Bool) (done more : List ℕ) (i id : ℕ) (passes : Bool) → i < length g.edges → id ≡ i → passes ≡ p i
    → done ≡ filter p (take i (edge_numbers g)) → more ≡ (if passes then done ++ id ∷ [] else done) → more ≡ filter p (take (i + 1) (edge_numbers g))
out_more g p done more i id passes low is tested so_far pushed =
    let long = length-range_with_len 0 (length g.edges) in
    let at : get_or (edge_numbers g) i 0 ≡ i = get_or-range_with_len 0 (length g.edges) i 0 low ∙ omega arith in
    let step = filter_more p (edge_numbers g) i 0 (omega arith) in
    pushed ∙ by_test passes refl ∙ sym (step ∙ ap (λ (j : ℕ). filter p (take i (edge_numbers g)) ++ cond (p j) (j ∷ []) []) at)
  where
    by_test : (b : Bool) → passes ≡ b → (if passes then done ++ id ∷ [] else done) ≡ filter p (take i (edge_numbers g)) ++ cond (p i) (i ∷ []) []
    by_test true b = rw (b, sym tested ∙ b, so_far, is) refl
    by_test false b = rw (b, sym tested ∙ b) (so_far ∙ sym (append-nil (filter p (take i (edge_numbers g)))))

pub out_all : (g : Graph) (p : ℕ → Bool) (items : List declared.Edge) (i : ℕ) (done : List ℕ) → items ≡ numbered g.edges → length items ≤ i
    → done ≡ filter p (take i (edge_numbers g)) → done ≡ filter p (edge_numbers g)
out_all g p items i done are over so_far =
    let n = length-range_with_len 0 (length g.edges) in
    let m = length-numbered_from 0 g.edges in
    let same : length items ≡ length (numbered g.edges) = ap (λ (l : List declared.Edge). length l) are in
    so_far ∙ ap (filter p) (take_all i (edge_numbers g) (omega arith))

pub index_within : (g : Graph) (i k : ℕ) (items : List declared.Edge) → i < length g.edges → k ≡ i → items ≡ numbered g.edges → k < length items
index_within g i k items less at are = rw (are, at) (omega (arith, length-numbered_from 0 g.edges))

-- where a step begins
pub begins_ahead : (g : Graph) (s : Step) → s.forward ≡ true → step_from g s ≡ source_of g s.edge
begins_ahead g s way = rw way refl

pub begins_back : (g : Graph) (s : Step) → s.forward ≡ false → step_from g s ≡ target g s.edge
begins_back g s way = rw way refl
