use Rattle.inc_graph.proofs.ListedChains.{all_listed}
use Rattle.inc_graph.proofs.chains.by_last.ShortestChains.new.Goals as goal

pub returns-clause-all : goal.returns-clause-all
returns-clause-all c = all_listed c.args.graph.now c.in_ok-search.search c.in_ok-search.ensures
