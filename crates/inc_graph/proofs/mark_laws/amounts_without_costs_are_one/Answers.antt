use Rattle.inc_graph.proofs.UnitCosts.{ones_given}
use Rattle.inc_graph.proofs.mark_laws.amounts_without_costs_are_one.Goals as goal

pub returns : goal.returns
returns c = ones_given
