use Rattle.std.proofs.Common.{◌≡◌, ◌≤◌, ◌-◌, ◌++◌, drop, length, map}
use Rattle.inc_build.specs.Views.{seen_row}
use Rattle.inc_inputs.specs.BuildProjects.{dirs_of}
use Rattle.inc_inputs.specs.Views.{ground_in}
use Rattle.inc_inputs.proofs.build_dirs.dirs_of.Given as goal

-- those so far, and those of the rest, are all
abbrev pub invariant-loop-at : goal.invariant-loop-at
invariant-loop-at l =
    (l.at ≤ length l.rows)
    × (map (λ d. d.items) l.dirs.items ++ dirs_of (ground_in l.ground) l.kind (map seen_row (drop l.at l.rows)) ≡ dirs_of (ground_in l.ground) l.kind (map seen_row l.rows))

abbrev pub decreases-loop-at : goal.decreases-loop-at
decreases-loop-at l = length l.rows - l.at
