use Rattle.std.proofs.Common.{◌≡◌, drop}
use Rattle.inc_expand.proofs.stacks.Stack.skip.Given as goal

abbrev pub invariant-loop : goal.invariant-loop
invariant-loop l = l.self ≡ drop l.counter l.fn.self
