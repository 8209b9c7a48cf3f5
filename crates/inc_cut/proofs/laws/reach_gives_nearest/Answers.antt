use Rattle.inc_cut.proofs.NearestLemmas.{reach_is_nearest}
use Rattle.inc_cut.proofs.laws.reach_gives_nearest.Goals as goal

pub returns : goal.returns
returns c = reach_is_nearest
