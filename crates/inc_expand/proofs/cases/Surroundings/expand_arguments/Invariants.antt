use Rattle.std.proofs.Common.{◌-◌, ◌≤◌, length}
use Rattle.inc_expand.specs.Cases.{surroundings_value}
use Rattle.inc_expand.specs.OpenWalks.{AreExpanded}
use Rattle.inc_expand.proofs.cases.Surroundings.expand_arguments.Given as goal

abbrev pub invariant-loop-at : goal.invariant-loop-at
invariant-loop-at l = AreExpanded (surroundings_value l.self) l.fn.work l.fn.call 0 l.work l.call l.at × (l.at ≤ length l.call.args)

abbrev pub decreases-loop-at : goal.decreases-loop-at
decreases-loop-at l = length l.call.args - l.at
