use Rattle.inc_cond.proofs.KnownTrees.{known_of-made}
use Rattle.inc_cond.proofs.laws.known_of_the_tree.Goals as goal

pub returns : goal.returns
returns c = known_of-made
