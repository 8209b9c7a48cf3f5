use Rattle.std.proofs.Common.{refl}
use Rattle.inc_answers.proofs.WritingLemmas.{finished, finished_fault}
use Rattle.inc_report.proofs.cut.run_cut.Goals as goal

pub returns-clause-written : goal.returns-clause-written
returns-clause-written g c = finished _ _ _ _ _ _ _ _ _ c.requires c.in-Ok.ensures.output c.separate-ended.ensures.sent c.finish.ensures

pub returns-clause-headline : goal.returns-clause-headline
returns-clause-headline g c = finished _ _ _ _ _ _ _ _ _ c.requires c.in-Ok.ensures.output c.separate-ended.ensures.headline c.finish.ensures

pub returns-clause-unread : goal.returns-clause-unread
returns-clause-unread g c = finished_fault _ _ _ _ _ _ c.finish.ensures tt c.separate-ended.ensures.unread

pub returns-clause-certificate : goal.returns-clause-certificate
returns-clause-certificate g c = finished_fault _ _ _ _ _ _ c.finish.ensures refl c.separate-ended.ensures.certificate
