use Rattle.inc_graph.proofs.BetweenWalks.{chain_between}
use Rattle.inc_graph.proofs.between_laws.walks_between.Goals as goal

pub returns : goal.returns
returns c = chain_between
