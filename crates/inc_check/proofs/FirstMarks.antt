-- The first mark of a chain: its edge, and the source from which the chain leads.
use Rattle.std.proofs.Common.{◌≡◌, ℕ, ◌<◌, Bool, true, List, Option, Some, None, length, get_or, refl, sym, ap, subst, ◌∙◌, arith}
use Rattle.std.specs.Prelude.{IfSome, MatchBool, slice_get}
use Rattle.inc_lookup.specs.Projects.{Layout}
use Rattle.inc_graph.specs.declared.graphs.Edge as declared
use Rattle.inc_graph.specs.IncludeGraph.{Graph, IsSound}
use Rattle.inc_graph.specs.Marks.{Mark}
use Rattle.inc_graph.specs.MarkedEdges.{edge_number}
use Rattle.inc_graph.specs.Near.{IsNamedFrom}
use Rattle.inc_graph.specs.Views.{seen_edge, numbered}
use Rattle.inc_graph.proofs.NumberedEdges.{numbered_from-at, numbered_at, length-numbered_from}
use Rattle.inc_graph.proofs.Walks.{inner_edge}
use Rattle.inc_check.specs.declared.checking.chain_sums.ChainSums.{ChainSums}
use Rattle.inc_check.specs.Checking.{IsBegunAt, IsReadyFor}

---- the edge of a mark, wherever it leaves from

pub edge_low : (g : Graph) (edges : List declared.Edge) (i k : ℕ) → edges ≡ numbered g.edges → k ≡ i → i < length g.edges → k < length edges
edge_low g edges i k are is low =
    let long : length edges ≡ length g.edges = ap (λ (es : List declared.Edge). length es) are ∙ length-numbered_from 0 g.edges in
    omega arith

pub named_anywhere : (layout : Layout) (g : Graph) (m : Mark) (edges : List declared.Edge) (i k : ℕ) (e : declared.Edge) → IsSound g → edges ≡ numbered g.edges → edge_number layout g m ≡ Some i → k ≡ i
    → i < length g.edges → e ≡ get_or edges k e → IsNamedFrom layout g e.from m e
named_anywhere layout g m edges i k e sound are number is low read =
    let here : e ≡ get_or (numbered g.edges) i e = read ∙ ap (λ (es : List declared.Edge). get_or es k e) are ∙ ap (λ (j : ℕ). get_or (numbered g.edges) j e) is in
    let at : slice_get g.edges i ≡ Some (seen_edge e) = numbered_from-at 0 g.edges i e low here in
    let id : e.id ≡ i = ap (λ (x : declared.Edge). x.id) (here ∙ numbered_at 0 g.edges i (seen_edge e) e at) ∙ (omega arith) in
    record {
      number = number ∙ ap (λ (n : ℕ). Some n) (sym id);
      at = ap (slice_get g.edges) id ∙ at;
      from = refl;
      to = (inner_edge g i (seen_edge e) sound at).to_within;
    }

---- a chain that goes on

-- one that goes on is as it was
pub goes_on_as : (layout : Layout) (g : Graph) (t : ChainSums) (m : Mark) (o : Option declared.Edge) → t.begun ≡ true → IfSome o (λ e. IsNamedFrom layout g t.at m e)
    → IfSome o (λ e. IsNamedFrom layout g t.at m e × IsReadyFor g t t)
goes_on_as layout g t m None begun named = tt
goes_on_as layout g t m (Some e) begun named = (named, subst (λ (b : Bool). MatchBool b (t ≡ t) (IsBegunAt g t t)) (sym begun) refl)
