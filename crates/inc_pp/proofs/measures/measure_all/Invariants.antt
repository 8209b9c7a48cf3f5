use Rattle.std.proofs.Common.{◌≡◌, [], length, map}
use Rattle.inc_expand.specs.Items.{seen_item}
use Rattle.inc_pp.specs.Measures.{measured}
use Rattle.inc_pp.proofs.measures.measure_all.Given as goal

abbrev pub invariant-loop-left : goal.invariant-loop-left
invariant-loop-left l = measured l.measure (map seen_item l.left) ≡ measured l.fn.measure (map seen_item l.items)

abbrev pub decreases-loop-left : goal.decreases-loop-left
decreases-loop-left l = length l.left
