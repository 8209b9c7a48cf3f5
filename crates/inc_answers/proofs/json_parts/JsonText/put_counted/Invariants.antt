use Rattle.std.proofs.Common.{drop}
use Rattle.inc_answers.specs.JsonAnswers.{counted_item}
use Rattle.inc_answers.proofs.JsonSteps.{Makes, with_items}
use Rattle.inc_answers.proofs.json_parts.JsonText.put_counted.Given as goal

-- the chains that are left make the list
abbrev pub invariant-loop-place : goal.invariant-loop-place
invariant-loop-place l = Makes counted_item l.self l.place (drop l.place l.chains) (with_items counted_item l.initial.self l.chains)
