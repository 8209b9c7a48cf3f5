use Rattle.std.proofs.Common.{◌≡◌, map, take}
use Rattle.inc_inputs.specs.BuildProjects.{header_form}
use Rattle.inc_inputs.specs.Views.{ground_in}
use Rattle.inc_inputs.proofs.build_projects.headers_of.Given as goal

-- the words so far
abbrev pub invariant-loop-word : goal.invariant-loop-word
invariant-loop-word l = map (λ h. h.items) l.headers.items ≡ map (header_form (ground_in l.ground) l.found) (map (λ w. w.now) (take l.word-index l.words))
