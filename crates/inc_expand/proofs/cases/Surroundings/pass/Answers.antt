use Rattle.inc_expand.specs.Carriers.{carriers}
use Rattle.inc_expand.specs.Cases.{surroundings_value}
use Rattle.inc_expand.specs.Lent.{lent_tokens}
use Rattle.inc_expand.proofs.OrdinarySteps.{alone-levels-at}
use Rattle.inc_expand.proofs.cases.Surroundings.pass.Goals as goal

pub returns : goal.returns
returns c s meter e = alone-levels-at (surroundings_value c.args.self.now) c.args.deeper meter
    (carriers s (lent_tokens c.args.tokens)) c.if-deeper-eq0.false (c.pass_alone.ensures s e)
