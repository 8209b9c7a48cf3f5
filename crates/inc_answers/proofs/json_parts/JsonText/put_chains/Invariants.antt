use Rattle.std.proofs.Common.{length}
use Rattle.inc_answers.specs.JsonAnswers.{edges_text}
use Rattle.inc_answers.proofs.JsonSteps.{Makes, with_items}
use Rattle.inc_answers.proofs.json_parts.JsonText.put_chains.Given as goal

-- the chains that are left make the list
abbrev pub invariant-loop-self : goal.invariant-loop-self
invariant-loop-self l = Makes edges_text l.self l.place l.chains.left (with_items edges_text l.initial.self l.initial.chains.left)

abbrev pub decreases-loop-self : goal.decreases-loop-self
decreases-loop-self l = length l.chains.left
