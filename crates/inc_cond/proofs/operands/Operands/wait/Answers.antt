use Rattle.inc_expand.specs.Sinks.{seen_ref}
use Rattle.inc_cond.proofs.QuestionSteps.{pushed}
use Rattle.inc_cond.proofs.operands.Operands.wait.Goals as goal

pub loop-self-init : goal.loop-self-init
loop-self-init c = λ is.
    pushed c.args.self.now c.push.new.self.items c.in_ok-kept.field-0 (seen_ref c.args.token) is c.in_ok-push.ensures.items c.in_ok-kept.ensures
