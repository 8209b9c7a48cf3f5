use Rattle.std.proofs.Common.{◌≡◌, take}
use Rattle.inc_answers.specs.Terms.{named_directives}
use Rattle.inc_answers.proofs.questions.directives_named.Given as goal

-- those of the first marks
abbrev pub invariant-loop-mark : goal.invariant-loop-mark
invariant-loop-mark l = l.ids.items ≡ named_directives l.project (take l.mark-index l.marks)
