use Rattle.inc_graph.proofs.OneAnswer.{one_closure, one_found}
use Rattle.inc_graph.proofs.laws.closures_are_one.Goals as goal

pub returns-clause-ways : goal.returns-clause-ways
returns-clause-ways c = one_closure

pub returns-clause-files : goal.returns-clause-files
returns-clause-files c = one_found
