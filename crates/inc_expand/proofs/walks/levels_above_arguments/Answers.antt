use Rattle.std.proofs.Common.{refl}
use Rattle.inc_expand.specs.Expansion.{all_levels}
use Rattle.inc_expand.proofs.walks.levels_above_arguments.Goals as goal

pub returns : goal.returns
unfolding all_levels
returns c = refl
