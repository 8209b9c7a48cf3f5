use Rattle.std.proofs.Common.{◌≡◌, drop}
use Rattle.inc_answers.specs.UsefulDirs.{with_rest}
use Rattle.inc_answers.proofs.useful_dirs.count_rest.Given as goal

-- the directories so far become those of all places with the rest
abbrev pub invariant-loop-at : goal.invariant-loop-at
invariant-loop-at l =
    with_rest l.names.keys l.path l.at l.counts.entries (drop l.at l.path) ≡ with_rest l.names.keys l.path 0 l.initial.counts.entries l.path
