use Rattle.inc_answers.specs.WhyDocument.{blocker_if}
use Rattle.inc_answers.proofs.EdgeEnds.{one_kept}
use Rattle.inc_answers.proofs.why_document.blocker_ids.Goals as goal

pub loop-blocker-preserved : goal.loop-blocker-preserved
loop-blocker-preserved c =
    one_kept (blocker_if c.args.kind) c.loop-blocker.ids.items c.push_blocker.new.ids.items c.args.blockers.now c.loop-blocker.blocker-index c.blocker-item.result c.loop-blocker-test.true
    c.blocker-item.is c.loop-blocker.invariant c.in_ok-push_blocker.ensures
