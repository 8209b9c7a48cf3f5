use Rattle.inc_answers.specs.MarkTexts.{blocker_text}
use Rattle.inc_answers.proofs.SendingLemmas.{sends_then}
use Rattle.inc_answers.proofs.WhyLemmas.{flat_map-more}
use Rattle.inc_answers.proofs.edges.send_blockers.Goals as goal

pub loop-blocker-preserved : goal.loop-blocker-preserved
loop-blocker-preserved g c =
    let more = flat_map-more (blocker_text c.args.project.now) c.args.blockers.now c.loop-blocker.blocker-index _ c.loop-blocker-test.true c.blocker-item.is in
    rw more (sends_then _ _ _ _ _ c.loop-blocker.invariant c.send_blocker.ensures)
