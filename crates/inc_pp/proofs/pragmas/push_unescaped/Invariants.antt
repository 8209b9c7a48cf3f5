use Rattle.std.proofs.Common.{◌≡◌, ◌++◌, length}
use Rattle.inc_pp.specs.Pragmas.{unescaped}
use Rattle.inc_pp.proofs.pragmas.push_unescaped.Given as goal

abbrev pub invariant-loop-left : goal.invariant-loop-left
invariant-loop-left l = l.text.items ++ unescaped l.left ≡ l.fn.text.items ++ unescaped l.fn.bytes

abbrev pub decreases-loop-left : goal.decreases-loop-left
decreases-loop-left l = length l.left
