use Rattle.std.proofs.Common.{rules}
use Rattle.inc_check.proofs.FirstMarks.{edge_low, named_anywhere}
use Rattle.inc_check.proofs.checking.chain_sums.ChainSums.edge_anywhere.Goals as goal

pub bounds-edges-index : goal.bounds-edges-index
bounds-edges-index c = edge_low c.args.graph.now c.edges.result.now c.in_ok-edge.edge c.index.result c.edges.ensures.edges c.index.ensures (search rules)

pub returns-clause-edge : goal.returns-clause-edge
returns-clause-edge c =
    named_anywhere c.args.project.now c.args.graph.now c.args.mark.now c.edges.result.now c.in_ok-edge.edge c.index.result c.index-edges-index.result c.files-sound.ensures.sound c.edges.ensures.edges
    (search rules) c.index.ensures (search rules) c.index-edges-index.is
