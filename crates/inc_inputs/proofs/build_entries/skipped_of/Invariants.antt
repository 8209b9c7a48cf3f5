use Rattle.std.proofs.Common.{◌≡◌, ◌≤◌, ◌-◌, [], drop, length}
use Rattle.inc_inputs.specs.BuildProjects.{skipped_of}
use Rattle.inc_inputs.specs.Views.{ground_in}
use Rattle.inc_inputs.proofs.build_entries.skipped_of.Given as goal

-- the options so far become those of all entries with those of the rest
abbrev pub invariant-loop-at : goal.invariant-loop-at
invariant-loop-at l =
    (l.at ≤ length l.uses)
    × (skipped_of (ground_in l.ground).entries l.counts.entries (drop l.at l.uses) ≡ skipped_of (ground_in l.ground).entries [] l.uses)

abbrev pub decreases-loop-at : goal.decreases-loop-at
decreases-loop-at l = length l.uses - l.at
