use Rattle.std.proofs.Common.{◌≡◌, ◌++◌, take}
use Rattle.inc_expand.specs.Lent.{lent_tokens}
use Rattle.inc_expand.proofs.optionals.push_lent.Given as goal

abbrev pub invariant-loop-i : goal.invariant-loop-i
invariant-loop-i l = l.all.items ≡ l.fn.all.items ++ take l.i (lent_tokens l.tokens)
