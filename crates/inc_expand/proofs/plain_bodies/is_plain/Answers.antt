use Rattle.std.proofs.Common.{◌∙◌, sym}
use Rattle.inc_expand.proofs.PlainSteps.{plain-roles}
use Rattle.inc_expand.proofs.plain_bodies.is_plain.Goals as goal

pub returns : goal.returns
returns c all = plain-roles c.args.definition.now (sym c.is_plain.ensures ∙ all)
