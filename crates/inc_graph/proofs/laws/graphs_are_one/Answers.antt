use Rattle.inc_graph.proofs.OneAnswer.{one_graph}
use Rattle.inc_graph.proofs.laws.graphs_are_one.Goals as goal

pub returns : goal.returns
returns c = one_graph
