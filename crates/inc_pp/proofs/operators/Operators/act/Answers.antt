use Rattle.std.proofs.Common.{rules}
use Rattle.inc_pp.proofs.OperatorSteps.{no-text, text-acted}
use Rattle.inc_pp.proofs.operators.Operators.act.Goals as goal

pub returns-in_ok-act_on_text-in-Some-clause-same : goal.returns-in_ok-act_on_text-in-Some-clause-same
returns-in_ok-act_on_text-in-Some-clause-same c =
    text-acted c.args.self.now c.deref.result.now c.args.line c.in_ok-text.field-0 (search rules) c.in_ok-text.ensures c.act_on_text.new.self c.in-Some.text c.in-Some.is
    c.in_ok-act_on_text-in-Some.ensures.same

pub returns-in-None-clause-same : goal.returns-in-None-clause-same
returns-in-None-clause-same c = no-text c.args.self.now c.deref.result.now c.args.line c.in_ok-text.field-0 (search rules) c.in_ok-text.ensures c.in-None.is
