use Rattle.inc_expand.proofs.OptionalRuns.{segment-pushed, segments-all}
use Rattle.inc_expand.proofs.optionals.tokens_of.Goals as goal

pub loop-i-preserved : goal.loop-i-preserved
loop-i-preserved c =
    segment-pushed c.args.segments.now c.loop-i.all.items c.push_segment.new.all.items c.loop-i.i _ c.loop-i-test.true c.loop-i.invariant c.in_ok-push_segment.ensures

pub returns : goal.returns
returns c = segments-all c.args.segments.now c.loop-i.all.items c.loop-i.i c.loop-i-test.false c.loop-i.invariant
