use Rattle.std.proofs.Common.{sym, ◌∙◌}
use Rattle.inc_pp.proofs.PoisonSteps.{among-is}
use Rattle.inc_pp.proofs.poison.has_name.Goals as goal

pub returns : goal.returns
returns c = c.contains.ensures ∙ sym (among-is c.args.names.now c.args.name.now)
