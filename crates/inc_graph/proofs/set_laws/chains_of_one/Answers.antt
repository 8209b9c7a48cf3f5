use Rattle.inc_graph.proofs.OneEach.{one_chain}
use Rattle.inc_graph.proofs.set_laws.chains_of_one.Goals as goal

pub returns : goal.returns
returns c = one_chain
