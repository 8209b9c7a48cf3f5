use Rattle.std.proofs.Common.{length, ◌-◌}
use Rattle.inc_answers.proofs.ChangeLemmas.{IsFound}
use Rattle.inc_answers.proofs.changes.changes_of.Given as goal

abbrev pub invariant-loop-at : goal.invariant-loop-at
invariant-loop-at l = IsFound l.project l.files l.language l.directives l.at l.changes.items

abbrev pub decreases-loop-at : goal.decreases-loop-at
decreases-loop-at l = length l.directives - l.at
