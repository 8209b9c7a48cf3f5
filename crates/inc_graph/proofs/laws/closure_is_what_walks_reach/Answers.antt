use Rattle.inc_graph.proofs.ClosureWalks.{closure_by_walks}
use Rattle.inc_graph.proofs.laws.closure_is_what_walks_reach.Goals as goal

pub returns : goal.returns
returns c = closure_by_walks
