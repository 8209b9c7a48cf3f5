use Rattle.std.proofs.Common.{◌≤◌, drop, take}
use Rattle.inc_expand.proofs.CallSteps.{IsPassed}
use Rattle.inc_expand.proofs.openings.has_close.Given as goal

abbrev pub invariant-loop-i : goal.invariant-loop-i
invariant-loop-i l = IsPassed (drop 1 l.list) (take l.i (drop 1 l.list)) (drop l.i (drop 1 l.list)) l.deep × (l.deep ≤ l.i)
