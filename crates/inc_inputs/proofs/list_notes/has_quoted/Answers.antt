use Rattle.std.proofs.Common.{◌∙◌, ℕ, List}
use Rattle.std.specs.Borrow.{Bor}
use Rattle.inc_inputs.specs.ListNotes.{is_quoted}
use Rattle.inc_inputs.proofs.QuestionLemmas.{any_map}
use Rattle.inc_inputs.proofs.list_notes.has_quoted.Goals as goal

pub returns : goal.returns
returns c = c.any_quoted.ensures ∙ any_map is_quoted (λ (p : Bor (List ℕ)). p.now) c.args.written.now
