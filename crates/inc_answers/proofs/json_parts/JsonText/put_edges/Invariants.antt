use Rattle.std.proofs.Common.{drop}
use Rattle.inc_answers.specs.JsonAnswers.{numbered_text}
use Rattle.inc_answers.proofs.JsonSteps.{Makes, with_items}
use Rattle.inc_answers.proofs.json_parts.JsonText.put_edges.Given as goal

-- the directives that are left make the list
abbrev pub invariant-loop-place : goal.invariant-loop-place
invariant-loop-place l = Makes numbered_text l.self l.place (drop l.place l.edges) (with_items numbered_text l.initial.self l.edges)
