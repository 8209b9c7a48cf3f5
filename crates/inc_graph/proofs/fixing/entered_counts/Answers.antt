use Rattle.std.proofs.Common.{arith}
use Rattle.inc_graph.proofs.IndexLemmas.{numbered_targets}
use Rattle.inc_graph.proofs.NumberedEdges.{length-numbered_from}
use Rattle.inc_graph.proofs.fixing.entered_counts.Goals as goal

pub counts_by_target-requires-clause-within : goal.counts_by_target-requires-clause-within
counts_by_target-requires-clause-within c =
    let g = c.args.graph.now in
    rw (c.files.ensures.files, c.edges.ensures.edges) (numbered_targets g.files g.headers g.edges c.edges.ensures.sound.inner)

pub counts_by_target-requires-clause-few : goal.counts_by_target-requires-clause-few
counts_by_target-requires-clause-few c =
    rw c.edges.ensures.edges (omega (arith, c.edges.ensures.sound.sized, length-numbered_from 0 c.args.graph.now.edges))
