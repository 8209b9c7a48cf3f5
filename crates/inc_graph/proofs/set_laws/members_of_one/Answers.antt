use Rattle.inc_graph.proofs.OneEach.{one_member}
use Rattle.inc_graph.proofs.set_laws.members_of_one.Goals as goal

pub returns : goal.returns
returns c = one_member
