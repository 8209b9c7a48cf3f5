use Rattle.std.proofs.Common.{drop}
use Rattle.inc_answers.specs.JsonAnswers.{file_item}
use Rattle.inc_answers.proofs.JsonSteps.{Makes, with_items}
use Rattle.inc_answers.proofs.json_parts.JsonText.put_files.Given as goal

-- the paths that are left make the list
abbrev pub invariant-loop-place : goal.invariant-loop-place
invariant-loop-place l = Makes file_item l.self l.place (drop l.place l.files) (with_items file_item l.initial.self l.files)
