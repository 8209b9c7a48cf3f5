use Rattle.inc_token.proofs.OneClass.{one_class}
use Rattle.inc_token.proofs.laws.classes_exclude_one_another.Goals as goal

pub returns : goal.returns
returns c = one_class
