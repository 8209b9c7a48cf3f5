use Rattle.std.proofs.Common.{◌≡◌, ◌≤◌, ◌-◌, map, drop, length}
use Rattle.inc_inputs.specs.BuildProjects.{are_same}
use Rattle.inc_inputs.specs.Views.{macro_of}
use Rattle.inc_inputs.proofs.build_macros.are_same.Given as goal

-- those so far are the same
abbrev pub invariant-loop-at : goal.invariant-loop-at
invariant-loop-at l = (l.at ≤ length l.first) × (are_same (map macro_of (drop l.at l.first)) (map macro_of (drop l.at l.second)) ≡ are_same (map macro_of l.first) (map macro_of l.second))

abbrev pub decreases-loop-at : goal.decreases-loop-at
decreases-loop-at l = length l.first - l.at
