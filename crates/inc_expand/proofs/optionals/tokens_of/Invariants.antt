use Rattle.std.proofs.Common.{◌≡◌, take}
use Rattle.inc_expand.specs.Joins.{tokens_in}
use Rattle.inc_expand.proofs.optionals.tokens_of.Given as goal

abbrev pub invariant-loop-i : goal.invariant-loop-i
invariant-loop-i l = l.all.items ≡ tokens_in (take l.i l.segments)
