use Rattle.std.proofs.Common.{refl}
use Rattle.inc_answers.proofs.WritingLemmas.{finished, finished_fault}
use Rattle.inc_report.proofs.edits.write_changes.Goals as goal

pub returns-clause-written : goal.returns-clause-written
returns-clause-written g c =
    rw (c.into_sources.ensures, ← c.in-Ok-new.ensures.sources)
    (finished _ _ _ _ _ _ _ _ _ c.requires c.in-Ok.ensures.output c.separate-ended.ensures.sent c.finish-result.ensures)

pub returns-clause-headline : goal.returns-clause-headline
returns-clause-headline g c =
    rw (c.into_sources.ensures, ← c.in-Ok-new.ensures.sources)
    (finished _ _ _ _ _ _ _ _ _ c.requires c.in-Ok.ensures.output c.separate-ended.ensures.headline c.finish-result.ensures)

pub returns-clause-certificate : goal.returns-clause-certificate
returns-clause-certificate g c = finished_fault _ _ _ _ _ _ c.finish-result.ensures refl c.separate-ended.ensures.certificate
