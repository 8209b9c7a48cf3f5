use Rattle.std.proofs.Common.{List, ℕ, ap₂}
use Rattle.inc_answers.specs.Printed.{end_of}
use Rattle.inc_answers.specs.Told.{Edges}
use Rattle.inc_answers.specs.declared.outcome.EndKind.TheVariants.{Answered}
use Rattle.inc_report.proofs.NamedLemmas.{printed_as}
use Rattle.inc_report.proofs.named.list.Goals as goal

pub returns : goal.returns
returns c = λ whole. (Edges, tt, ap₂ (λ (text notes : List ℕ). printed_as text (end_of notes Answered)) c.in_ok-graph_text.ensures c.in_ok-definition_notes.ensures)
