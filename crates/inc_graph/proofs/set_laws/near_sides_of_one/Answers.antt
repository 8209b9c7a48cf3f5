use Rattle.inc_graph.proofs.OneEach.{one_near, one_reached}
use Rattle.inc_graph.proofs.set_laws.near_sides_of_one.Goals as goal

pub returns-clause-near : goal.returns-clause-near
returns-clause-near c = one_near

pub returns-clause-reached : goal.returns-clause-reached
returns-clause-reached c = one_reached
