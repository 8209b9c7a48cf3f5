use Rattle.std.proofs.Common.{suc}
use Rattle.inc_expand.specs.Cases.{surroundings_value}
use Rattle.inc_expand.specs.Frames.{steps_left}
use Rattle.inc_expand.proofs.FrameSteps.{IsWalking}
use Rattle.inc_expand.proofs.cases.Surroundings.expanded_at.Given as goal

abbrev pub invariant-loop-level : goal.invariant-loop-level
invariant-loop-level l = IsWalking (surroundings_value l.self) (suc l.fn.deeper) l.fn.work l.work l.fn.list l.frames l.level

abbrev pub decreases-loop-level : goal.decreases-loop-level
decreases-loop-level l = steps_left l.work.meter l.frames l.level
