-- What is written beside an answer.
use Rattle.std.proofs.Common.{◌≡◌, ◌≢◌, ◌∙◌, Result, Ok, Err, subst}
use Rattle.inc_args.specs.Meaning.{Preprocessing}
use Rattle.inc_cli.specs.Outputs.{Answer}
use Rattle.inc_cli.specs.Preprocessings.{writes_beside}
use Rattle.inc_inputs.specs.Inputs.{Puts}
use Rattle.inc_inputs.specs.Reports.{Report, out_of_memory}

-- after an answer that is known unless memory ran out
pub written_after : {S : Type 0} (puts : Puts S) (p : Preprocessing) (told is : Result Answer Report) (mid new : S) (answer : Result Answer Report)
    → (told ≢ Err out_of_memory → told ≡ is) → answer ≢ Err out_of_memory → writes_beside puts p told mid answer new → writes_beside puts p is mid answer new
written_after puts p (Ok a) is mid new answer same not step = subst (λ t. writes_beside puts p t mid answer new) (same (λ e. cc)) step
written_after puts p (Err r) is mid new answer same not step = subst (λ t. writes_beside puts p t mid answer new) (same (λ e. not (step.0 ∙ e))) step
