use Rattle.std.proofs.Common.{arith}
use Rattle.inc_graph.proofs.StateLemmas.{lists_set}
use Rattle.inc_graph.proofs.building.nexts.NextLists.set.Goals as goal

pub returns : goal.returns
returns c =
    rw (← c.self.view_is)
    (lists_set c.self.inside.lists.items c.push.new.self.items c.args.nexts c.self.inside.places.items c.args.file c.index.result c.in-Ok.place c.in_ok-push.ensures.items c.self.invariant (omega arith) c.index.ensures)
