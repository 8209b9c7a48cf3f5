use Rattle.std.proofs.Common.{◌≡◌, ◌≤◌, ◌-◌, ◌++◌, map, drop, length}
use Rattle.inc_build.specs.Configurations.{rows_of}
use Rattle.inc_build.specs.Views.{seen_item, seen_row}
use Rattle.inc_build.proofs.configurations.push_rows.Given as goal

-- the rows so far, and those of the rest, are all
abbrev pub invariant-loop-at : goal.invariant-loop-at
invariant-loop-at l = (l.at ≤ length l.items) × (map seen_row l.rows.items ++ rows_of l.directory l.kind (map seen_item (drop l.at l.items)) ≡ map seen_row l.initial.rows.items ++ rows_of l.directory l.kind (map seen_item l.items))

abbrev pub decreases-loop-at : goal.decreases-loop-at
decreases-loop-at l = length l.items - l.at
