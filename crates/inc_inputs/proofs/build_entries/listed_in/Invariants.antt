use Rattle.std.proofs.Common.{◌≡◌, ◌≤◌, ◌-◌, map, drop, length}
use Rattle.inc_build.specs.Views.{seen_item}
use Rattle.inc_inputs.specs.BuildProjects.{listed_in}
use Rattle.inc_inputs.proofs.build_entries.listed_in.Given as goal

-- none so far is a file with words
abbrev pub invariant-loop-at : goal.invariant-loop-at
invariant-loop-at l = (l.at ≤ length l.items) × (listed_in (map seen_item (drop l.at l.items)) ≡ listed_in (map seen_item l.items))

abbrev pub decreases-loop-at : goal.decreases-loop-at
decreases-loop-at l = length l.items - l.at
