use Rattle.std.proofs.Common.{◌+◌, length}
use Rattle.inc_expand.specs.Cases.{surroundings_value}
use Rattle.inc_expand.proofs.OpenSteps.{IsOpening}
use Rattle.inc_expand.proofs.cases.Surroundings.opened.Given as goal

abbrev pub invariant-loop-token : goal.invariant-loop-token
invariant-loop-token l = IsOpening (surroundings_value l.self) l.fn.work l.work l.fn.list l.list l.out.items

abbrev pub decreases-loop-token : goal.decreases-loop-token
decreases-loop-token l = l.work.meter.units + length l.list
