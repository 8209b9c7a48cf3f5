use Rattle.std.proofs.Common.{refl}
use Rattle.inc_report.specs.PpText.{define_number}
use Rattle.inc_answers.specs.Refusals.{BadDefinition, refusal}
use Rattle.inc_answers.proofs.WritingLemmas.{prints_all}
use Rattle.inc_report.proofs.pp.refuse_preprocessing.Goals as goal

pub returns-in-BadDefinition-clause-sent : goal.returns-in-BadDefinition-clause-sent
returns-in-BadDefinition-clause-sent g c =
    prints_all _ _ _ _ c.refuse_definition.result
    (λ p is. (refusal (BadDefinition c.in-BadDefinition.index (define_number c.in-BadDefinition.fault)), rw c.in-BadDefinition.is refl, rw (← c.define_number.ensures) is))
    c.refuse_definition.ensures.sent
