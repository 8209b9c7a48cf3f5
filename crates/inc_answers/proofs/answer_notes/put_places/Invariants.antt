use Rattle.std.proofs.Common.{◌≡◌, ◌++◌, take}
use Rattle.std.specs.Prelude.{flat_map}
use Rattle.inc_answers.specs.AnswerNotes.{definition_line}
use Rattle.inc_answers.proofs.answer_notes.put_places.Given as goal

-- those so far are added
abbrev pub invariant-loop-definition : goal.invariant-loop-definition
invariant-loop-definition l = l.text.items ≡ l.initial.text.items ++ flat_map (definition_line l.start l.project) (take l.definition-index l.definitions)
