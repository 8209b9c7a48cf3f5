use Rattle.inc_graph.proofs.BetweenNumbers.{edge_at, numbers_long, numbers_within}
use Rattle.inc_graph.proofs.between_laws.numbers_keep_edges.Goals as goal

pub returns-clause-edges : goal.returns-clause-edges
returns-clause-edges c = λ g from to. edge_at g to

pub returns-clause-within : goal.returns-clause-within
returns-clause-within c = numbers_within

pub returns-clause-long : goal.returns-clause-long
returns-clause-long c = λ g from to. numbers_long g to
