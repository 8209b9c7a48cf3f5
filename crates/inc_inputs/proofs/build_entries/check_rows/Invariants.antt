use Rattle.std.proofs.Common.{◌≡◌, ◌≤◌, ◌-◌, map, drop, length}
use Rattle.inc_build.specs.Views.{seen_row}
use Rattle.inc_inputs.specs.BuildProjects.{rows_fault}
use Rattle.inc_inputs.specs.Views.{ground_in}
use Rattle.inc_inputs.proofs.build_entries.check_rows.Given as goal

-- none so far is refused
abbrev pub invariant-loop-at : goal.invariant-loop-at
invariant-loop-at l =
    (l.at ≤ length l.rows) × (rows_fault (ground_in l.ground) l.entry (map seen_row (drop l.at l.rows)) ≡ rows_fault (ground_in l.ground) l.entry (map seen_row l.rows))

abbrev pub decreases-loop-at : goal.decreases-loop-at
decreases-loop-at l = length l.rows - l.at
