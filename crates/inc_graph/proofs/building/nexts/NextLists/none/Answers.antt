use Rattle.std.proofs.Common.{rules}
use Rattle.inc_graph.proofs.StateLemmas.{no_lists}
use Rattle.inc_graph.proofs.building.nexts.NextLists.none.Goals as goal

pub returns : goal.returns
returns c = no_lists c.args.count _ _ (c.in_ok-vec.ensures.items_if_clones_equal (search rules))
