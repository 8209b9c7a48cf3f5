use Rattle.inc_expand.proofs.LawSteps.{never-grows}
use Rattle.inc_expand.proofs.laws.units_are_never_won.Goals as goal

pub returns : goal.returns
returns c = never-grows
