use Rattle.std.proofs.Common.{refl}
use Rattle.inc_answers.proofs.WritingLemmas.{finished, finished_fault}
use Rattle.inc_answers.proofs.graph.run_graph.Goals as goal

pub returns-clause-written : goal.returns-clause-written
returns-clause-written g c = finished _ _ _ _ _ _ _ _ _ c.requires c.in-Ok.ensures.output c.list-ended.ensures.sent c.finish.ensures

pub returns-clause-unread : goal.returns-clause-unread
returns-clause-unread g c = finished_fault _ _ _ _ _ _ c.finish.ensures tt c.list-ended.ensures.unread

pub returns-clause-certificate : goal.returns-clause-certificate
returns-clause-certificate g c = finished_fault _ _ _ _ _ _ c.finish.ensures refl c.list-ended.ensures.certificate
