use Rattle.std.proofs.Common.{◌≡◌, drop, map}
use Rattle.inc_build.specs.Paths.{path_from}
use Rattle.inc_build.specs.Views.{seen_entry}
use Rattle.inc_inputs.specs.BuildPaths.{common_of}
use Rattle.inc_inputs.proofs.build_grounds.narrow_by_entries.Given as goal

-- the folder so far, narrowed by the rest, is that of all
abbrev pub invariant-loop-entry : goal.invariant-loop-entry
invariant-loop-entry l =
    common_of l.root.items (map (λ e. path_from l.base e.directory) (map seen_entry (drop l.entry-index l.entries)))
    ≡ common_of l.initial.root.items (map (λ e. path_from l.base e.directory) (map seen_entry l.entries))
