use Rattle.std.proofs.Common.{◌≤◌, ◌*◌, take}
use Rattle.inc_cost.specs.Costs.{IsTotal}
use Rattle.inc_cost.proofs.totals.total.Given as goal

-- the sources so far are counted
abbrev pub invariant-loop-source : goal.invariant-loop-source
invariant-loop-source l = IsTotal l.graph l.weights l.removed (take l.source-index l.graph.sources) l.total × (l.total ≤ l.source-index * 281_470_681_677_825)
