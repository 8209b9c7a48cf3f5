use Rattle.std.proofs.Common.{refl}
use Rattle.inc_expand.proofs.StreamSteps.{popped}
use Rattle.inc_expand.proofs.stacks.Stack.drop_front.Goals as goal

pub returns : goal.returns
returns c = popped c.pop.result c.args.self.now c.args.self.now c.pop.new.self 0 refl c.pop.ensures.some c.pop.ensures.none c.pop.ensures.same
