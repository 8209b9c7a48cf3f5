use Rattle.inc_graph.proofs.OneAnswer.{one_shortest}
use Rattle.inc_graph.proofs.laws.shortest_chains_are_one.Goals as goal

pub returns : goal.returns
returns c = one_shortest
