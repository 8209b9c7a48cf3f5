use Rattle.std.proofs.Common.{arith}
use Rattle.inc_graph.proofs.IndexLemmas.{numbered_targets}
use Rattle.inc_graph.proofs.NumberedEdges.{length-numbered_from}
use Rattle.inc_graph.proofs.two_way.TwoWayGraph.new.Goals as goal

pub starts_by_target-requires-clause-within : goal.starts_by_target-requires-clause-within
starts_by_target-requires-clause-within c =
    let g = c.args.graph.now in
    rw (c.files.ensures.files, c.edges.ensures.edges) (numbered_targets g.files g.headers g.edges c.edges.ensures.sound.inner)

pub starts_by_target-requires-clause-few : goal.starts_by_target-requires-clause-few
starts_by_target-requires-clause-few c =
    rw c.edges.ensures.edges (omega (arith, c.edges.ensures.sound.sized, length-numbered_from 0 c.args.graph.now.edges))

pub ids_by_target-requires-clause-within : goal.ids_by_target-requires-clause-within
ids_by_target-requires-clause-within c =
    let g = c.args.graph.now in
    rw (c.files-2.ensures.files, c.edges-2.ensures.edges) (numbered_targets g.files g.headers g.edges c.edges-2.ensures.sound.inner)

pub ids_by_target-requires-clause-few : goal.ids_by_target-requires-clause-few
ids_by_target-requires-clause-few c =
    rw c.edges-2.ensures.edges (omega (arith, c.edges-2.ensures.sound.sized, length-numbered_from 0 c.args.graph.now.edges))
