use Rattle.std.proofs.Common.{◌≡◌, length, map}
use Rattle.inc_expand.specs.Items.{seen_item}
use Rattle.inc_pp.specs.Operators.{Grows, outcome}
use Rattle.inc_pp.proofs.expansions.take_all.Given as goal

abbrev pub invariant-loop-left : goal.invariant-loop-left
invariant-loop-left l = (outcome l.operators (map seen_item l.left) ≡ outcome l.fn.operators (map seen_item l.items)) × Grows l.fn.operators.output l.operators.output

abbrev pub decreases-loop-left : goal.decreases-loop-left
decreases-loop-left l = length l.left
