use Rattle.std.proofs.Common.{◌≡◌, []}
use Rattle.inc_cond.specs.Operands.{outcome, unread}
use Rattle.inc_cond.proofs.operands.Operands.finish.Given as goal

abbrev pub invariant-loop-self : goal.invariant-loop-self
invariant-loop-self l = outcome l.self [] ≡ outcome l.fn.self []

abbrev pub decreases-loop-self : goal.decreases-loop-self
decreases-loop-self l = unread l.self
