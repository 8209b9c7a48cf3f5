use Rattle.std.proofs.Common.{refl}
use Rattle.inc_answers.proofs.WritingLemmas.{finished, finished_fault}
use Rattle.inc_answers.proofs.cost.run_cost.Goals as goal

pub returns-clause-written : goal.returns-clause-written
returns-clause-written g c =
    rw (c.into_sources.ensures, ← c.in-Ok-new.ensures.sources)
    (finished _ _ _ _ _ _ _ _ _ c.requires c.in-Ok.ensures.output c.weigh-ended.ensures.sent c.finish-result.ensures)

pub returns-clause-certificate : goal.returns-clause-certificate
returns-clause-certificate g c = finished_fault _ _ _ _ _ _ c.finish-result.ensures refl c.weigh-ended.ensures.certificate
