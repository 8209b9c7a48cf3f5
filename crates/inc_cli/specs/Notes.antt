-- Notes: lines on standard error beside an answer. They change neither the answer nor the status.
use Rattle.std.specs.Prelude.{ℕ, Bool, List, [], ◌++◌, if◌then◌else◌}
use Rattle.inc_answers.specs.declared.outcome.End.{End}
use Rattle.inc_answers.specs.declared.outcome.EndKind.{EndKind}
use Rattle.inc_answers.specs.declared.outcome.EndKind.TheVariants.{Answered, Negative, Refused}
use Rattle.inc_cli.specs.Outputs.{Answer}

-- the notes beside an answer: those of the words, those of the headers that were not found, and why sources stopped
abbrev pub notes_of : Answer → List ℕ
notes_of a = a.notes ++ (a.end.notes ++ a.end.stops)

-- beside a refusal those that its end has are the reason of a failure
abbrev pub reason_by : EndKind → (notes : List ℕ) → List ℕ
reason_by Answered notes = []
reason_by Negative notes = []
reason_by Refused notes = notes

abbrev pub reason_of : End → List ℕ
reason_of end = reason_by end.kind end.notes

-- what stands beside an answer, which is reasons alone where notes are turned off
abbrev pub notes_if : (quiet : Bool) → Answer → List ℕ
notes_if quiet a = if quiet then reason_of a.end ++ a.end.stops else notes_of a
