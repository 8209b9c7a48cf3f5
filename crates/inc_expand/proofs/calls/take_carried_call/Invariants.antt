use Rattle.std.proofs.Common.{length}
use Rattle.inc_expand.proofs.CallSteps.{IsPassed}
use Rattle.inc_expand.proofs.calls.take_carried_call.Given as goal

abbrev pub invariant-loop-token : goal.invariant-loop-token
invariant-loop-token l = IsPassed l.fn.list l.inside.items l.list l.deep

abbrev pub decreases-loop-token : goal.decreases-loop-token
decreases-loop-token l = length l.list
