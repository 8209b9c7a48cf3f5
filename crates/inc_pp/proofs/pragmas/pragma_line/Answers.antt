use Rattle.inc_pp.proofs.OperatorSteps.{short-text, text-tokens}
use Rattle.inc_pp.proofs.pragmas.pragma_line.Goals as goal

pub returns-in-Ok : goal.returns-in-Ok
returns-in-Ok c =
    text-tokens c.args.language c.args.literal.now c.in_ok-text.text.items c.in-Ok.text c.in_ok-text.ensures c.in-Ok.ensures.text (short-text _ c.in-Ok.text c.in-Ok.ensures.too_long)
