use Rattle.std.proofs.Common.{◌≡◌, ◌≤◌, ◌-◌, map, drop, length}
use Rattle.inc_inputs.specs.BuildPlaces.{include_paths_of}
use Rattle.inc_inputs.specs.Views.{dirs_in}
use Rattle.inc_inputs.proofs.PathLemmas.{paths_behind}
use Rattle.inc_inputs.proofs.build_places.other_paths.Given as goal

-- those so far, and those of the rest, are all
abbrev pub invariant-loop-at : goal.invariant-loop-at
invariant-loop-at l =
    (l.at ≤ length l.others) × (paths_behind l.paths.items (include_paths_of (map dirs_in (drop l.at l.others))) ≡ include_paths_of (map dirs_in l.others))

abbrev pub decreases-loop-at : goal.decreases-loop-at
decreases-loop-at l = length l.others - l.at
