use Rattle.inc_expand.specs.Cases.{surroundings_value}
use Rattle.inc_expand.specs.Frames.{steps_left}
use Rattle.inc_expand.proofs.StreamSteps.{IsStreamed}
use Rattle.inc_expand.proofs.cases.Surroundings.stream.Given as goal

abbrev pub invariant-loop-level : goal.invariant-loop-level
invariant-loop-level g l = IsStreamed g.S.Sink.takes (surroundings_value l.self) l.fn.work l.work l.fn.list l.frames l.level l.fn.sink l.sink l.first

abbrev pub decreases-loop-level : goal.decreases-loop-level
decreases-loop-level g l = steps_left l.work.meter l.frames l.level
