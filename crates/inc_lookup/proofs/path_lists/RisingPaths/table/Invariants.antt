use Rattle.std.proofs.Common.{◌≡◌, take}
use Rattle.inc_lookup.proofs.path_lists.RisingPaths.table.Given as goal

abbrev pub invariant-loop-index : goal.invariant-loop-index
invariant-loop-index l = l.table.keys ≡ take l.index l.self
