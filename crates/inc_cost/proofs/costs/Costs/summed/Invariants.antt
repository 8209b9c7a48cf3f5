use Rattle.std.proofs.Common.{◌*◌, take}
use Rattle.inc_cost.specs.Sums.{AreCosts, AreAllBelow}
use Rattle.inc_cost.proofs.costs.Costs.summed.Given as goal

-- the costs of the sources so far
abbrev pub invariant-loop-source : goal.invariant-loop-source
invariant-loop-source l = AreCosts l.graph l.weights (take l.source-index l.graph.sources) l.costs × AreAllBelow (l.source-index * 281_470_681_677_825) l.costs
