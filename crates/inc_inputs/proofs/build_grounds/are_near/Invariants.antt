use Rattle.std.proofs.Common.{◌≡◌, drop, map}
use Rattle.std.specs.List.{list_all}
use Rattle.inc_build.specs.Paths.{path_from}
use Rattle.inc_inputs.specs.BuildProjects.{is_near}
use Rattle.inc_inputs.proofs.build_grounds.are_near.Given as goal

-- the rest is near where all of them are
abbrev pub invariant-loop-folder : goal.invariant-loop-folder
invariant-loop-folder l =
    list_all (λ word. is_near l.here (path_from l.here word)) (map (λ f. f.now) (drop l.folder-index l.folders))
    ≡ list_all (λ word. is_near l.here (path_from l.here word)) (map (λ f. f.now) l.folders)
