use Rattle.std.proofs.Common.{◌≡◌, ◌≤◌, ◌-◌, [], drop, length}
use Rattle.inc_inputs.specs.BuildProjects.{paths_with}
use Rattle.inc_inputs.proofs.build_sources.used_paths.Given as goal

-- the numbers so far become all with those of the rest
abbrev pub invariant-loop-at : goal.invariant-loop-at
invariant-loop-at l = (l.at ≤ length l.uses) × (paths_with l.used.keys (drop l.at l.uses) ≡ paths_with [] l.uses)

abbrev pub decreases-loop-at : goal.decreases-loop-at
decreases-loop-at l = length l.uses - l.at
