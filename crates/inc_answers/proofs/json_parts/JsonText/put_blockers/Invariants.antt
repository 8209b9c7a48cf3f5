use Rattle.std.proofs.Common.{drop}
use Rattle.inc_answers.specs.JsonAnswers.{blocker_text}
use Rattle.inc_answers.proofs.JsonSteps.{Makes, with_items}
use Rattle.inc_answers.proofs.json_parts.JsonText.put_blockers.Given as goal

-- the directives that are left make the list
abbrev pub invariant-loop-place : goal.invariant-loop-place
invariant-loop-place l = Makes blocker_text l.self l.place (drop l.place l.blockers) (with_items blocker_text l.initial.self l.blockers)
