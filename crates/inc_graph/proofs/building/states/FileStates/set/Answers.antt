use Rattle.std.proofs.Common.{arith}
use Rattle.inc_graph.proofs.StateLemmas.{states_set}
use Rattle.inc_graph.proofs.building.states.FileStates.set.Goals as goal

pub returns : goal.returns
returns c =
    rw (← c.self.view_is)
    (states_set c.self.inside.records.items c.push.new.self.items c.args.state c.self.inside.places.items c.args.file c.index.result c.in-Ok.place c.in_ok-push.ensures.items c.self.invariant (omega arith) c.index.ensures)
