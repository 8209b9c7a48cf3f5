use Rattle.std.proofs.Common.{◌≡◌, drop, map}
use Rattle.inc_build.specs.Views.{seen_build}
use Rattle.inc_inputs.specs.BuildPaths.{common_of, folder_of}
use Rattle.inc_inputs.proofs.build_grounds.narrow_by_sources.Given as goal

-- the folder so far, narrowed by the rest, is that of all
abbrev pub invariant-loop-number : goal.invariant-loop-number
invariant-loop-number l =
    common_of l.root.items (map folder_of (drop l.number (seen_build l.build).sources)) ≡ common_of l.initial.root.items (map folder_of (seen_build l.build).sources)
