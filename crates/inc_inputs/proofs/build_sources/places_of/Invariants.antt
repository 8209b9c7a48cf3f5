use Rattle.std.proofs.Common.{◌≡◌, ◌≤◌, ◌-◌, ◌++◌, drop, length}
use Rattle.inc_inputs.specs.BuildProjects.{path_places}
use Rattle.inc_inputs.proofs.build_sources.places_of.Given as goal

-- those so far, and those of the rest, are all
abbrev pub invariant-loop-at : goal.invariant-loop-at
invariant-loop-at l =
    (l.at ≤ length l.uses) × (l.places.items ++ path_places l.used.keys (drop l.at l.uses) ≡ path_places l.used.keys l.uses)

abbrev pub decreases-loop-at : goal.decreases-loop-at
decreases-loop-at l = length l.uses - l.at
