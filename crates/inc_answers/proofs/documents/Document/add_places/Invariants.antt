use Rattle.std.proofs.Common.{◌≡◌, ◌++◌, take}
use Rattle.inc_answers.specs.Documents.{places}
use Rattle.inc_answers.proofs.documents.Document.add_places.Given as goal

-- those so far are added
abbrev pub invariant-loop-directive : goal.invariant-loop-directive
invariant-loop-directive l = l.self ≡ l.initial.self ++ places (take l.directive-index l.directives)
