use Rattle.inc_graph.proofs.OneAnswer.{one_reaching}
use Rattle.inc_graph.proofs.laws.reaching_sources_are_one.Goals as goal

pub returns : goal.returns
returns c = one_reaching
