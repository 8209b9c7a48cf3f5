use Rattle.std.proofs.Common.{map, take}
use Rattle.inc_expand.specs.Sinks.{carried_item}
use Rattle.inc_expand.specs.Streams.{AreHanded}
use Rattle.inc_expand.proofs.streams.hand_on.Given as goal

abbrev pub invariant-loop-token : goal.invariant-loop-token
invariant-loop-token g l = AreHanded g.S.Sink.takes l.fn.first l.first l.fn.sink l.sink (map carried_item (take l.token-index l.tokens))
