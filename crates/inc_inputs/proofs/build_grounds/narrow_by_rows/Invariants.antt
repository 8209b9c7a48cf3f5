use Rattle.std.proofs.Common.{◌≡◌, drop, map}
use Rattle.inc_build.specs.Views.{seen_row}
use Rattle.inc_inputs.specs.BuildPaths.{common_of}
use Rattle.inc_inputs.specs.BuildProjects.{own_rows}
use Rattle.inc_inputs.proofs.build_grounds.narrow_by_rows.Given as goal

-- the folder so far, narrowed by the rest, is that of all
abbrev pub invariant-loop-row : goal.invariant-loop-row
invariant-loop-row l = common_of l.root.items (own_rows (map seen_row (drop l.row-index l.rows))) ≡ common_of l.initial.root.items (own_rows (map seen_row l.rows))
