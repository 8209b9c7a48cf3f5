use Rattle.std.proofs.Common.{◌≡◌, ◌++◌, map, drop}
use Rattle.inc_expand.specs.Sets.{Sets}
use Rattle.inc_expand.specs.Expansion.{item_of}
use Rattle.inc_expand.specs.Carriers.{carriers}
use Rattle.inc_expand.specs.Items.{seen_item}
use Rattle.inc_expand.proofs.items.items_of.Given as goal

abbrev pub invariant-loop-token : goal.invariant-loop-token
invariant-loop-token l = (s : Sets) → map seen_item l.items.items ++ map item_of (carriers s (drop l.token-index l.tokens)) ≡ map item_of (carriers s l.tokens)
