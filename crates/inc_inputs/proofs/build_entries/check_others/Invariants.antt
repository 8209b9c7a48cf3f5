use Rattle.std.proofs.Common.{◌≡◌, ◌≤◌, ◌-◌, drop, length}
use Rattle.inc_inputs.specs.BuildProjects.{others_fault}
use Rattle.inc_inputs.specs.Views.{ground_in}
use Rattle.inc_inputs.proofs.build_entries.check_others.Given as goal

-- none so far is refused
abbrev pub invariant-loop-at : goal.invariant-loop-at
invariant-loop-at l =
    (l.at ≤ length l.others)
    × (others_fault (ground_in l.ground) l.first (drop l.at l.others) ≡ others_fault (ground_in l.ground) l.first l.others)

abbrev pub decreases-loop-at : goal.decreases-loop-at
decreases-loop-at l = length l.others - l.at
