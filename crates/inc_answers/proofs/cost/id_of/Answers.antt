use Rattle.std.proofs.Common.{◌∙◌, ap, arith, length}
use Rattle.inc_graph.specs.declared.graphs.Edge as declared
use Rattle.inc_graph.proofs.NumberedEdges.{length-numbered_from}
use Rattle.inc_answers.proofs.CostLines.{id_at}
use Rattle.inc_answers.proofs.cost.id_of.Goals as goal

pub bounds-edges-place : goal.bounds-edges-place
bounds-edges-place c = omega (arith, ap length c.edges.ensures.edges, length-numbered_from 0 c.args.graph.now.edges, c.requires)

pub returns : goal.returns
returns c =
    let read = rw c.edges.ensures.edges at c.index-edges-place.is in
    let id = id_at 0 c.args.graph.now.edges c.args.place c.index-edges-place.result c.requires in
    ap (λ (e : declared.Edge). e.id) read ∙ omega (arith, id)
