use Rattle.std.proofs.Common.{◌≡◌, drop}
use Rattle.inc_cond.proofs.operands.drop_first.Given as goal

abbrev pub invariant-loop : goal.invariant-loop
invariant-loop l = l.waiting.items ≡ drop l.counter l.fn.waiting.items
