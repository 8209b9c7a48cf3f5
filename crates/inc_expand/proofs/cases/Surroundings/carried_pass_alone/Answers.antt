use Rattle.inc_expand.specs.Cases.{surroundings_value}
use Rattle.inc_expand.proofs.OrdinarySteps.{alone-next}
use Rattle.inc_expand.proofs.cases.Surroundings.carried_pass_alone.Goals as goal

pub loop-token-preserved : goal.loop-token-preserved
loop-token-preserved c s =
    alone-next (surroundings_value c.args.self.now) s c.args.tokens.now c.loop-token.token-index _ c.loop-token-test.true (c.loop-token.invariant s)
    (c.passes_alone.ensures s c.if-not-passes_alone.false)
