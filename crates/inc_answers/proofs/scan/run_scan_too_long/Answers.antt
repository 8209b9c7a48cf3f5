use Rattle.std.proofs.Common.{refl}
use Rattle.inc_answers.proofs.WritingLemmas.{finished, finished_fault}
use Rattle.inc_answers.proofs.scan.run_scan_too_long.Goals as goal

pub returns-clause-written : goal.returns-clause-written
returns-clause-written g c = finished _ _ _ _ _ _ _ _ _ c.requires c.in-Ok.ensures.output (rw c.none.ensures at c.refuse_in-ended.ensures.sent) c.finish.ensures

pub returns-clause-own : goal.returns-clause-own
returns-clause-own g c = finished_fault _ _ _ _ _ _ c.finish.ensures refl c.refuse_in-ended.ensures.own
