use Rattle.std.proofs.Common.{◌∙◌, ℕ, List}
use Rattle.std.specs.Borrow.{Bor}
use Rattle.inc_inputs.specs.Questions.{defines}
use Rattle.inc_inputs.proofs.QuestionLemmas.{any_map}
use Rattle.inc_inputs.proofs.questions.is_defined.Goals as goal

pub returns : goal.returns
returns c = c.any_defines.ensures ∙ any_map (defines c.args.name.now) (λ (w : Bor (List ℕ)). w.now) c.args.words.now
