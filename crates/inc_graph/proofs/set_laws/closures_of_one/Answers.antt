use Rattle.inc_graph.proofs.OneEach.{one_closure_of, one_step, one_inner}
use Rattle.inc_graph.proofs.set_laws.closures_of_one.Goals as goal

pub returns-clause-closure : goal.returns-clause-closure
returns-clause-closure c = one_closure_of

pub returns-clause-step : goal.returns-clause-step
returns-clause-step c = one_step

pub returns-clause-inner : goal.returns-clause-inner
returns-clause-inner c = one_inner
