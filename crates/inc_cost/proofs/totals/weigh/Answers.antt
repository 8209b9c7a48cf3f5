use Rattle.std.proofs.Common.{arith}
use Rattle.inc_cost.proofs.TotalSums.{visit_more}
use Rattle.inc_cost.proofs.totals.weigh.Goals as goal

pub loop-visit-preserved : goal.loop-visit-preserved
loop-visit-preserved c =
    let more = visit_more c.args.weights.now c.args.search.now.visits c.visits-visit-items.result.now c.loop-visit.visit-index c.visit-item.result c.visits-visit-items.ensures c.loop-visit-test.true c.visit-item.is in
    let sum = c.loop-visit.invariant.0 in
    let most = c.loop-visit.invariant.1 in
    (omega (arith, more, sum, c.weight.ensures, c.from-sum.ensures), omega (arith, most, c.from-sum.ensures, c.weight.type_inv))
