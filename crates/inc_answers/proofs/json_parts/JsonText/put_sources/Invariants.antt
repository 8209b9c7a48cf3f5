use Rattle.std.proofs.Common.{length}
use Rattle.inc_answers.specs.JsonAnswers.{source_item}
use Rattle.inc_answers.proofs.JsonSteps.{Makes, with_items}
use Rattle.inc_answers.proofs.json_parts.JsonText.put_sources.Given as goal

-- the sources that are left make the list
abbrev pub invariant-loop-self : goal.invariant-loop-self
invariant-loop-self l = Makes (source_item l.all) l.self l.place l.reaching.left (with_items (source_item l.all) l.initial.self l.initial.reaching.left)

abbrev pub decreases-loop-self : goal.decreases-loop-self
decreases-loop-self l = length l.reaching.left
