use Rattle.std.proofs.Common.{◌≡◌, drop, map}
use Rattle.inc_build.specs.Views.{seen_rows}
use Rattle.inc_inputs.specs.BuildPaths.{common_of}
use Rattle.inc_inputs.specs.BuildProjects.{own_paths}
use Rattle.inc_inputs.proofs.build_grounds.narrow_by_configurations.Given as goal

-- the folder so far, narrowed by the rest, is that of all
abbrev pub invariant-loop-rows : goal.invariant-loop-rows
invariant-loop-rows l =
    common_of l.root.items (own_paths (map seen_rows (drop l.rows-index l.configurations))) ≡ common_of l.initial.root.items (own_paths (map seen_rows l.configurations))
