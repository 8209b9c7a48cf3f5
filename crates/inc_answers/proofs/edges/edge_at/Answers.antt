use Rattle.std.proofs.Common.{length, sym, ap, arith}
use Rattle.std.proofs.lemmas.Option.{slice_get_read}
use Rattle.inc_graph.specs.Views.{numbered}
use Rattle.inc_graph.proofs.NumberedEdges.{length-numbered_from}
use Rattle.inc_answers.proofs.edges.edge_at.Goals as goal

pub bounds-edges-index : goal.bounds-edges-index
bounds-edges-index c = omega (arith, ap length c.edges.ensures.edges, length-numbered_from 0 c.args.graph.now.edges, c.index.ensures, c.requires)

pub returns-clause-found : goal.returns-clause-found
returns-clause-found c =
    let long = length-numbered_from 0 c.args.graph.now.edges in
    let read = rw (c.edges.ensures.edges, c.index.ensures) at c.index-edges-index.is in
    slice_get_read (numbered c.args.graph.now.edges) (length c.args.graph.now.edges) c.args.edge c.index-edges-index.result (sym long) c.requires read
