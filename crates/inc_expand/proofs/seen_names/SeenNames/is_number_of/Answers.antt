use Rattle.std.proofs.Common.{sym, ◌∙◌}
use Rattle.inc_expand.proofs.SeenSteps.{number-at}
use Rattle.inc_expand.proofs.seen_names.SeenNames.is_number_of.Goals as goal

pub returns-in-Some : goal.returns-in-Some
returns-in-Some c h = number-at c.args.self.now c.args.number c.in-Some.found.now c.args.name.now c.requires (sym c.in-Some.ensures) (sym c.eq.ensures ∙ h)
