use Rattle.std.proofs.Common.{take}
use Rattle.inc_token.specs.BlankingSteps.{BeginUpTo}
use Rattle.inc_token.proofs.blanking.last_begin.Given as goal

abbrev pub invariant-loop-i : goal.invariant-loop-i
invariant-loop-i l = BeginUpTo l.last (take l.i l.lines)
