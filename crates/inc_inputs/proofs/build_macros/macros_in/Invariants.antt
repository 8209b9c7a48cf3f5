use Rattle.std.proofs.Common.{◌≡◌, ◌≤◌, ◌-◌, ◌++◌, map, drop, length}
use Rattle.inc_build.specs.Views.{seen_item}
use Rattle.inc_inputs.specs.BuildProjects.{macros_in}
use Rattle.inc_inputs.specs.Views.{macro_of}
use Rattle.inc_inputs.proofs.build_macros.macros_in.Given as goal

-- the words so far, and those of the rest, are all
abbrev pub invariant-loop-at : goal.invariant-loop-at
invariant-loop-at l = (l.at ≤ length l.items) × (map macro_of l.macros.items ++ macros_in (map seen_item (drop l.at l.items)) ≡ macros_in (map seen_item l.items))

abbrev pub decreases-loop-at : goal.decreases-loop-at
decreases-loop-at l = length l.items - l.at
