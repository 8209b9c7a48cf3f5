use Rattle.std.proofs.Common.{◌≡◌, ◌≤◌, ◌-◌, map, drop, length}
use Rattle.inc_build.specs.Builds.{build, with_entries}
use Rattle.inc_build.specs.Views.{seen_build, seen_entry}
use Rattle.inc_build.proofs.builds.Build.new.Given as goal

-- the build so far becomes that of all entries with those of the rest
abbrev pub invariant-loop-at : goal.invariant-loop-at
invariant-loop-at l = (l.at ≤ length l.entries) × (with_entries l.base l.at (map seen_entry (drop l.at l.entries)) (seen_build l.build) ≡ build l.base (map seen_entry l.entries))

abbrev pub decreases-loop-at : goal.decreases-loop-at
decreases-loop-at l = length l.entries - l.at
