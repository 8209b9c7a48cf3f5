use Rattle.inc_expand.proofs.LawSteps.{itself}
use Rattle.inc_expand.proofs.laws.other_tokens_are_left_alone.Goals as goal

pub returns : goal.returns
returns c = itself
