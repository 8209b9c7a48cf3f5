use Rattle.inc_answers.specs.BlockedReasons.{blocker_reason}
use Rattle.inc_answers.proofs.NoteLemmas.{joined}
use Rattle.inc_answers.proofs.WhyLemmas.{flat_map-more}
use Rattle.inc_answers.proofs.blocked_reasons.put_blockers.Goals as goal

pub loop-blocker-preserved : goal.loop-blocker-preserved
loop-blocker-preserved c =
    let more = flat_map-more (blocker_reason c.args.project.now) c.args.blockers.now c.loop-blocker.blocker-index _ c.loop-blocker-test.true c.blocker-item.is in
    rw more (joined c.args.text.now.items _ _ c.loop-blocker.text.items c.put_blocker.new.text.items c.loop-blocker.invariant c.in_ok-put_blocker.ensures)
