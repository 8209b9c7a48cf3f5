use Rattle.std.proofs.Common.{◌≡◌, drop}
use Rattle.inc_answers.specs.UsefulDirs.{best_of, none}
use Rattle.inc_answers.specs.UsefulViews.{seen_useful}
use Rattle.inc_answers.proofs.useful_dirs.best_of.Given as goal

-- the best so far become those of all with the rest
abbrev pub invariant-loop-at : goal.invariant-loop-at
invariant-loop-at l =
    best_of (record { first = seen_useful l.best.0; second = seen_useful l.best.1.0; third = seen_useful l.best.1.1.0 }) (drop l.at l.counts.entries) ≡ best_of none l.counts.entries
