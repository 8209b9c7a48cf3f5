use Rattle.std.proofs.Common.{arith}
use Rattle.inc_expand.specs.Cases.{surroundings_value}
use Rattle.inc_expand.proofs.StreamSteps.{alone-more}
use Rattle.inc_expand.proofs.cases.Surroundings.ordinary_count.Goals as goal

pub loop-count-preserved : goal.loop-count-preserved
loop-count-preserved c = (
  alone-more (surroundings_value c.args.self.now) c.args.tokens.now c.loop-count.count _ c.loop-count-test.true c.loop-count.invariant.0 (c.is_ordinary.ensures c.if-is_ordinary.true),
  omega (arith, c.loop-count-test.true),
)
