use Rattle.inc_expand.specs.Cases.{surroundings_value}
use Rattle.inc_expand.proofs.OrdinarySteps.{source-alone}
use Rattle.inc_expand.proofs.cases.Surroundings.pass_alone.Goals as goal

pub returns-in-Source : goal.returns-in-Source
returns-in-Source c =
    rw c.in-Source.is (λ s e. source-alone (surroundings_value c.args.self.now) c.in-Source.tokens.now c.ordinary_count.result e c.ordinary_count.ensures.alone s)
