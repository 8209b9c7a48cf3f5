use Rattle.std.proofs.Common.{◌≡◌, ◌≤◌, ◌-◌, drop, length}
use Rattle.inc_inputs.specs.BuildProjects.{each_fault}
use Rattle.inc_inputs.specs.Views.{ground_in}
use Rattle.inc_inputs.proofs.build_entries.check_each.Given as goal

-- none so far is refused
abbrev pub invariant-loop-at : goal.invariant-loop-at
invariant-loop-at l = (l.at ≤ length l.uses) × (each_fault (ground_in l.ground) (drop l.at l.uses) ≡ each_fault (ground_in l.ground) l.uses)

abbrev pub decreases-loop-at : goal.decreases-loop-at
decreases-loop-at l = length l.uses - l.at
