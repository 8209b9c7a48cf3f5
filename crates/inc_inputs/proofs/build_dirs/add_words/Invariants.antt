use Rattle.std.proofs.Common.{◌≡◌, ◌++◌, map, take}
use Rattle.inc_inputs.specs.BuildPaths.{form}
use Rattle.inc_inputs.specs.Views.{ground_in}
use Rattle.inc_inputs.proofs.build_dirs.add_words.Given as goal

-- those of the words so far are added
abbrev pub invariant-loop-word : goal.invariant-loop-word
invariant-loop-word l =
    map (λ d. d.items) l.dirs.items ≡ map (λ d. d.items) l.initial.dirs.items
    ++ map (form (ground_in l.ground).here (ground_in l.ground).is_relative) (map (λ w. w.now) (take l.word-index l.words))
