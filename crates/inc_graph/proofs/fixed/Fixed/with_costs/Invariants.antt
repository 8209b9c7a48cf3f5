use Rattle.std.proofs.Common.{take}
use Rattle.inc_graph.specs.EdgeCosts.{AreCostsFor, AreCostsOf}
use Rattle.inc_graph.proofs.fixed.Fixed.with_costs.Given as goal

-- the costs so far are taken
abbrev pub invariant-loop-index : goal.invariant-loop-index
invariant-loop-index l = AreCostsFor l.graph l.taken × AreCostsOf l.project l.graph (take l.index l.costs) l.taken
