use Rattle.std.proofs.Common.{rules}
use Rattle.inc_graph.proofs.StateLemmas.{directs_none}
use Rattle.inc_graph.proofs.building.directs.DirectLists.none.Goals as goal

pub returns : goal.returns
returns c = directs_none c.args.count _ _ (c.in_ok-vec.ensures.items_if_clones_equal (search rules))
