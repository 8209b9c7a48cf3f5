use Rattle.std.proofs.Common.{◌≤◌, take, drop}
use Rattle.inc_expand.specs.Lent.{lent_tokens}
use Rattle.inc_expand.proofs.CallSteps.{IsPassed}
use Rattle.inc_expand.proofs.calls.lent_close.Given as goal

abbrev pub invariant-loop-i : goal.invariant-loop-i
invariant-loop-i l = IsPassed (lent_tokens l.tokens) (take l.i (lent_tokens l.tokens))
    (drop l.i (lent_tokens l.tokens)) l.deep × (l.deep ≤ l.i)
