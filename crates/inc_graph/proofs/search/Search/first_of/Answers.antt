use Rattle.std.proofs.Common.{sym}
use Rattle.inc_graph.proofs.QueueLemmas.{first_of-none, first_of-more}
use Rattle.inc_graph.proofs.search.Search.first_of.Goals as goal

pub loop-end-init : goal.loop-end-init
loop-end-init g c = sym (first_of-none c.args.self.now.visits)

pub loop-end-preserved : goal.loop-end-preserved
loop-end-preserved g c =
    first_of-more c.args.self.now.visits c.args.ends.now c.loop-end.end-index c.end-item.result c.loop-end.first c.place_of.result c.earlier-first.result
    c.loop-end-test.true c.end-item.is c.loop-end.invariant c.place_of.ensures c.earlier-first.ensures
