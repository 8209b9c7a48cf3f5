use Rattle.inc_cut.proofs.SmallestExists.{smallest_exists}
use Rattle.inc_cut.proofs.laws.smallest_exists.Goals as goal

pub returns : goal.returns
returns c = smallest_exists
