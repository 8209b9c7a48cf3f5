use Rattle.std.proofs.Common.{drop}
use Rattle.inc_answers.proofs.JsonNames.{name_item}
use Rattle.inc_answers.proofs.JsonSteps.{Makes, with_items}
use Rattle.inc_answers.proofs.json_parts.JsonText.put_names.Given as goal

-- the names that are left make the list
abbrev pub invariant-loop-place : goal.invariant-loop-place
invariant-loop-place l = Makes name_item l.self l.place (drop l.place l.names.names.items) (with_items name_item l.initial.self l.names.names.items)
