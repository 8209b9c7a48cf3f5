use Rattle.std.proofs.Common.{◌-◌, length}
use Rattle.inc_expand.specs.Cases.{surroundings_value}
use Rattle.inc_expand.specs.Frames.{ArePassedOn, IsNoted}
use Rattle.inc_expand.proofs.cases.Surroundings.pass_arguments.Given as goal

abbrev pub invariant-loop-at : goal.invariant-loop-at
invariant-loop-at l = IsNoted l.call × ArePassedOn (surroundings_value l.self) l.deeper l.fn.call l.from l.call l.at

abbrev pub decreases-loop-at : goal.decreases-loop-at
decreases-loop-at l = length l.call.args - l.at
