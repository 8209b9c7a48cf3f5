use Rattle.std.proofs.Common.{◌-◌}
use Rattle.inc_lookup.proofs.RisingLists.{IsSearch}
use Rattle.inc_lookup.proofs.path_lists.RisingPaths.place.Given as goal

-- what is left to look at
abbrev pub decreases-loop-low : goal.decreases-loop-low
decreases-loop-low l = l.high - l.low

abbrev pub invariant-loop-low : goal.invariant-loop-low
invariant-loop-low l = IsSearch l.self l.path l.low l.high
