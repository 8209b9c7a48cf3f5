use Rattle.std.proofs.Common.{sym}
use Rattle.inc_graph.proofs.ListedChains.{placed_below}
use Rattle.inc_graph.proofs.chains.by_last.place_before.Goals as goal

pub returns-clause-within : goal.returns-clause-within
returns-clause-within c = placed_below c.args.search.now c.args.last.now.from c.place_of.result (sym c.place_of.ensures)
