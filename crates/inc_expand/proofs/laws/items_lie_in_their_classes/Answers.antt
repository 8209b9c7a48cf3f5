use Rattle.inc_expand.proofs.SpelledExpansions.{expansion-spelled}
use Rattle.inc_expand.proofs.laws.items_lie_in_their_classes.Goals as goal

pub returns : goal.returns
returns c = expansion-spelled
