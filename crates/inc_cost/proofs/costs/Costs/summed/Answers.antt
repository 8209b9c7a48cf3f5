use Rattle.std.proofs.Common.{◌+◌, ◌*◌, length, take, ap, arith}
use Rattle.inc_cost.proofs.CostLemmas.{below_step, costs_fit, costs_more}
use Rattle.inc_cost.proofs.TotalSums.{few_sources}
use Rattle.inc_cost.proofs.costs.Costs.summed.Goals as goal

pub add-requires-clause-fitting : goal.add-requires-clause-fitting
add-requires-clause-fitting c =
    costs_fit c.args.graph.now c.args.weights.now (take c.loop-source.source-index c.args.graph.now.sources) c.source-item.result c.loop-source.costs c.in_ok-shares.shares c.loop-source.invariant.0 c.in_ok-shares.ensures

pub add-requires-clause-room : goal.add-requires-clause-room
add-requires-clause-room c =
    let few = few_sources c.args.graph.now c.files-sound.ensures.sound in
    let long = ap (λ l. length l) c.sources-source-items.ensures.sources in
    let low = c.loop-source-test.true in
    below_step (c.loop-source.source-index * 281_470_681_677_825) (65_534 * 281_470_681_677_825) c.loop-source.costs (omega arith) c.loop-source.invariant.1

pub loop-source-preserved : goal.loop-source-preserved
loop-source-preserved c = (
  costs_more c.args.graph.now c.args.weights.now c.args.graph.now.sources c.sources-source-items.result.now c.loop-source.source-index c.source-item.result c.loop-source.costs c.add.new.self c.in_ok-shares.shares
      c.sources-source-items.ensures.sources c.loop-source-test.true c.source-item.is c.loop-source.invariant.0 c.in_ok-shares.ensures c.add.ensures.added,
  below_step (c.loop-source.source-index * 281_470_681_677_825 + 281_470_681_677_825) ((c.loop-source.source-index + 1) * 281_470_681_677_825) c.add.new.self (omega arith)
      (c.add.ensures.below (c.loop-source.source-index * 281_470_681_677_825) c.loop-source.invariant.1),
)
