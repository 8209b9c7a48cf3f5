use Rattle.inc_expand.proofs.StreamSteps.{popped}
use Rattle.inc_expand.proofs.stacks.Stack.skip.Goals as goal

pub loop-preserved : goal.loop-preserved
loop-preserved c = popped c.pop.result c.args.self.now c.loop.self c.pop.new.self c.loop.counter c.loop.invariant c.pop.ensures.some c.pop.ensures.none c.pop.ensures.same
