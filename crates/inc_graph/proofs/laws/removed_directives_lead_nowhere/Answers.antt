use Rattle.inc_graph.proofs.Removals.{edges_stay}
use Rattle.inc_graph.proofs.laws.removed_directives_lead_nowhere.Goals as goal

pub returns : goal.returns
returns c = λ setting listing starts file e among. edges_stay setting listing starts file e among
