use Rattle.std.proofs.Common.{map, subst}
use Rattle.std.proofs.lemmas.List.{take_all}
use Rattle.inc_expand.specs.Sinks.{carried_item}
use Rattle.inc_expand.specs.Streams.{AreHanded}
use Rattle.inc_expand.proofs.StreamSteps.{handed-none, handed-more}
use Rattle.inc_expand.proofs.streams.hand_on.Goals as goal

pub loop-token-init : goal.loop-token-init
loop-token-init g c = handed-none g.S.Sink.takes c.args.first.now c.args.sink.now

pub loop-token-preserved : goal.loop-token-preserved
loop-token-preserved g c =
    handed-more g.S.Sink.takes carried_item c.args.first.now c.loop-token.first c.args.sink.now c.loop-token.sink c.take.new.self c.args.tokens.now c.loop-token.token-index _ _
    c.loop-token-test.true c.loop-token.invariant c.item_ref.ensures c.in_ok-take.ensures

pub returns : goal.returns
returns g c =
    subst (λ ts. AreHanded g.S.Sink.takes c.args.first.now c.loop-token.first c.args.sink.now c.loop-token.sink (map carried_item ts))
    (take_all c.loop-token.token-index c.args.tokens.now c.loop-token-test.false) c.loop-token.invariant
