use Rattle.std.proofs.Common.{◌≡◌, ◌++◌, drop, map, option_map}
use Rattle.inc_expand.specs.Items.{seen_item}
use Rattle.inc_pp.specs.Includes.{name_before_close}
use Rattle.inc_pp.proofs.headers.name_before_close.Given as goal

abbrev pub invariant-loop-item : goal.invariant-loop-item
invariant-loop-item l =
    option_map (λ n. l.name.items ++ n) (name_before_close (map seen_item (drop l.item-index l.items))) ≡ name_before_close (map seen_item l.items)
