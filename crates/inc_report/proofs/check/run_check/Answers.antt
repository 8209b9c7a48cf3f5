use Rattle.inc_answers.proofs.WritingLemmas.{finished, finished_fault, finished_of}
use Rattle.inc_report.proofs.check.run_check.Goals as goal

pub returns-clause-written : goal.returns-clause-written
returns-clause-written g c = finished _ _ _ _ _ _ _ _ _ c.requires c.in-Ok.ensures.output c.judge-ended.ensures.sent c.finish.ensures

pub returns-clause-headline : goal.returns-clause-headline
returns-clause-headline g c = finished _ _ _ _ _ _ _ _ _ c.requires c.in-Ok.ensures.output c.judge-ended.ensures.headline c.finish.ensures

pub returns-clause-certificate : goal.returns-clause-certificate
returns-clause-certificate g c = finished_of _ _ _ _ _ _ _ c.finish.ensures (λ is. cc) c.judge-ended.ensures.certificate

pub returns-clause-unread : goal.returns-clause-unread
returns-clause-unread g c = finished_fault _ _ _ _ _ _ c.finish.ensures tt c.judge-ended.ensures.unread
