use Rattle.std.proofs.Common.{◌≡◌, ◌++◌, take, drop}
use Rattle.inc_expand.proofs.cases.pass.Given as goal

abbrev pub invariant-loop : goal.invariant-loop
invariant-loop l = (l.out.items ≡ l.fn.out.items ++ take l.counter l.fn.list) × (l.list ≡ drop l.counter l.fn.list)
