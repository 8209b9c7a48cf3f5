use Rattle.std.proofs.Common.{arith}
use Rattle.inc_graph.proofs.StateLemmas.{directs_set}
use Rattle.inc_graph.proofs.building.directs.DirectLists.set.Goals as goal

pub returns : goal.returns
returns c =
    rw (← c.self.view_is)
    (directs_set c.self.inside.lists.items c.push.new.self.items c.args.directs c.self.inside.places.items c.args.file c.index-2.result c.in-Ok.place c.in_ok-push.ensures.items c.self.invariant.1 (omega arith) c.index-2.ensures)
