use Rattle.std.proofs.Common.{length}
use Rattle.inc_expand.specs.Cases.{surroundings_value}
use Rattle.inc_expand.specs.Streams.{ArePassed}
use Rattle.inc_expand.proofs.cases.Surroundings.hand_on_put.Given as goal

abbrev pub invariant-loop-token : goal.invariant-loop-token
invariant-loop-token g l = ArePassed g.S.Sink.takes (surroundings_value l.self) l.fn.first l.first l.fn.sink l.sink l.fn.list l.list

abbrev pub decreases-loop-token : goal.decreases-loop-token
decreases-loop-token g l = length l.list
