use Rattle.inc_graph.proofs.OneAnswer.{one_by_last}
use Rattle.inc_graph.proofs.laws.chains_by_last_are_one.Goals as goal

pub returns : goal.returns
returns c = one_by_last
