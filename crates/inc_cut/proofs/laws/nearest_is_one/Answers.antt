use Rattle.inc_cut.proofs.NearestLemmas.{nearest_is_one}
use Rattle.inc_cut.proofs.laws.nearest_is_one.Goals as goal

pub returns : goal.returns
returns c = nearest_is_one
