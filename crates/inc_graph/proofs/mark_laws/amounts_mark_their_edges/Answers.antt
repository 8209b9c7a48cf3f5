use Rattle.inc_graph.proofs.MarkLaws.{fixed_where_marked, cost_elsewhere}
use Rattle.inc_graph.proofs.mark_laws.amounts_mark_their_edges.Goals as goal

pub returns-clause-fixed : goal.returns-clause-fixed
returns-clause-fixed c = fixed_where_marked

pub returns-clause-costs : goal.returns-clause-costs
returns-clause-costs c = cost_elsewhere
