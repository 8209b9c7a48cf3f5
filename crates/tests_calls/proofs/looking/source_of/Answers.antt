use Rattle.std.proofs.Common.{◌≡◌, ℕ, ◌<◌, List, length, get_or, sym, ap, ◌∙◌, arith}
use Rattle.inc_graph.specs.declared.graphs.Edge as declared
use Rattle.inc_graph.specs.IncludeGraph.{Graph}
use Rattle.inc_graph.specs.Views.{numbered}
use Rattle.inc_graph.proofs.NumberedEdges.{length-numbered_from, numbered_at}
use Rattle.inc_cut.specs.Flows.{source_of}
use Rattle.inc_cut.proofs.StepLists.{at_of, from_at}
use Rattle.tests_calls.proofs.looking.source_of.Goals as goal

read_from : (g : Graph) (i k : ℕ) (es : List declared.Edge) (d : declared.Edge) → i < length g.edges → k ≡ i → es ≡ numbered g.edges → (get_or es k d).from ≡ source_of g i
read_from g i k es d less at are =
    let x = at_of g.edges i less in
    rw (are, at) (ap (λ (e : declared.Edge). e.from) (numbered_at 0 g.edges i x.0 d x.1) ∙ sym (from_at g i x.0 x.1))

inside : (g : Graph) (i k : ℕ) (es : List declared.Edge) → i < length g.edges → k ≡ i → es ≡ numbered g.edges → k < length es
inside g i k es less at are = rw (are, at) (omega (arith, length-numbered_from 0 g.edges))

pub bounds-edges-index : goal.bounds-edges-index
bounds-edges-index c = inside c.args.graph.now c.args.edge c.index.result c.edges.result.now c.requires c.index.ensures c.edges.ensures.edges

pub returns : goal.returns
returns c = read_from c.args.graph.now c.args.edge c.index.result c.edges.result.now _ c.requires c.index.ensures c.edges.ensures.edges

pub bounds-edges-index-2 : goal.bounds-edges-index-2
bounds-edges-index-2 c = inside c.args.graph.now c.args.edge c.index.result c.edges.result.now c.requires c.index.ensures c.edges.ensures.edges
