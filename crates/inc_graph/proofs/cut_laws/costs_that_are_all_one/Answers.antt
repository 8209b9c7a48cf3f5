use Rattle.inc_graph.proofs.UnitCosts.{cheapest_of_ones, certificate_of_ones}
use Rattle.inc_graph.proofs.cut_laws.costs_that_are_all_one.Goals as goal

pub returns-clause-cheapest : goal.returns-clause-cheapest
returns-clause-cheapest c = cheapest_of_ones

pub returns-clause-certificate : goal.returns-clause-certificate
returns-clause-certificate c = certificate_of_ones
