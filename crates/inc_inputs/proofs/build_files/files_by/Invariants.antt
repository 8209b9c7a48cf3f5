use Rattle.std.proofs.Common.{◌≡◌, [], drop, map}
use Rattle.inc_inputs.specs.BuildPaths.{form}
use Rattle.inc_inputs.specs.BuildProjects.{once}
use Rattle.inc_inputs.proofs.build_files.files_by.Given as goal

-- the files so far, and those of the rest, are all
abbrev pub invariant-loop-path : goal.invariant-loop-path
invariant-loop-path l =
    once l.files (map (form l.forms.here.now l.forms.is_relative) (map (λ p. p.now) (drop l.path-index l.path-items)))
    ≡ once [] (map (form l.forms.here.now l.forms.is_relative) (map (λ p. p.now) l.path-items))
