use Rattle.std.proofs.Common.{◌≡◌, ◌≤◌, ◌-◌, [], map, drop, length}
use Rattle.inc_build.specs.Views.{seen_item}
use Rattle.inc_inputs.specs.BuildProjects.{skipped_in}
use Rattle.inc_inputs.proofs.build_entries.skipped_in.Given as goal

-- the options so far become those of all items with those of the rest
abbrev pub invariant-loop-at : goal.invariant-loop-at
invariant-loop-at l =
    (l.at ≤ length l.items) × (skipped_in l.words.keys (map seen_item (drop l.at l.items)) ≡ skipped_in [] (map seen_item l.items))

abbrev pub decreases-loop-at : goal.decreases-loop-at
decreases-loop-at l = length l.items - l.at
