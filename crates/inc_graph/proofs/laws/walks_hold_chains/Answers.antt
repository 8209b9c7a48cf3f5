use Rattle.inc_graph.proofs.LooplessWalks.{chain_of_walk}
use Rattle.inc_graph.proofs.laws.walks_hold_chains.Goals as goal

pub returns : goal.returns
returns c = chain_of_walk
