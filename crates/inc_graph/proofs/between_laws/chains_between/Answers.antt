use Rattle.inc_graph.proofs.BetweenWalks.{walk_of_chain}
use Rattle.inc_graph.proofs.between_laws.chains_between.Goals as goal

pub returns : goal.returns
returns c = walk_of_chain
