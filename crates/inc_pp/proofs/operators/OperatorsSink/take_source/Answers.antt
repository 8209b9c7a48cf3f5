use Rattle.inc_pp.specs.Operators.{takes_operand}
use Rattle.inc_pp.proofs.OperatorSteps.{source-more}
use Rattle.inc_pp.proofs.operators.OperatorsSink.take_source.Goals as goal

pub loop-token-preserved : goal.loop-token-preserved
loop-token-preserved c =
    source-more takes_operand c.args.first c.args.self.now c.loop-token.self c.take.new.self c.args.tokens.now c.loop-token.token-index _ _
    c.loop-token-test.true c.loop-token.invariant c.source_ref.ensures (λ b. c.in_ok-take.ensures)
