use Rattle.std.proofs.Common.{◌≡◌, ◌≤◌, ◌-◌, drop, length}
use Rattle.inc_inputs.specs.BuildProjects.{other_path}
use Rattle.inc_inputs.proofs.build_entries.other_path.Given as goal

-- those so far have this include path
abbrev pub invariant-loop-at : goal.invariant-loop-at
invariant-loop-at l = (l.at ≤ length l.uses) × (other_path l.configuration (drop l.at l.uses) ≡ other_path l.configuration l.uses)

abbrev pub decreases-loop-at : goal.decreases-loop-at
decreases-loop-at l = length l.uses - l.at
