use Rattle.std.proofs.Common.{refl}
use Rattle.inc_answers.specs.Refusals.{NoSuchSource, refusal}
use Rattle.inc_answers.proofs.WritingLemmas.{prints_all}
use Rattle.inc_report.proofs.pp.refuse_outcome.Goals as goal

pub returns-in-NoSource-clause-sent : goal.returns-in-NoSource-clause-sent
returns-in-NoSource-clause-sent g c =
    prints_all _ _ _ _ c.refuse_source.result (λ p is. (refusal NoSuchSource, rw c.in-NoSource.is refl, is)) c.refuse_source.ensures.sent
