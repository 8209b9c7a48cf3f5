use Rattle.std.proofs.Common.{length}
use Rattle.inc_check.proofs.SumLemmas.{below_edges, over_nowhere, all_edges}
use Rattle.inc_check.proofs.checking.sums.is_any_over.Goals as goal

pub amount-requires : goal.amount-requires
amount-requires c = below_edges c.args.graph.now c.edges-index-end.result.now c.loop-index.index (length c.args.fixed.now) c.edges-index-end.ensures.edges c.requires.fixed c.loop-index-test.true

pub at-requires : goal.at-requires
at-requires c = below_edges c.args.graph.now c.edges-index-end.result.now c.loop-index.index (length c.args.through.now) c.edges-index-end.ensures.edges c.requires.through c.loop-index-test.true

pub returns : goal.returns
returns c =
    over_nowhere c.args.graph.now c.args.fixed.now c.args.through.now c.loop-index.index
    (all_edges c.args.graph.now c.edges-index-end.result.now c.loop-index.index c.edges-index-end.ensures.edges c.loop-index-test.false) c.loop-index.invariant
