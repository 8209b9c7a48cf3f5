use Rattle.inc_expand.specs.Cases.{surroundings_value}
use Rattle.inc_expand.proofs.StreamSteps.{passed-none, passed-both, passed-one}
use Rattle.inc_expand.proofs.cases.Surroundings.hand_on_put.Goals as goal

pub loop-token-init : goal.loop-token-init
loop-token-init g c = passed-none g.S.Sink.takes (surroundings_value c.args.self.now) c.args.first.now c.args.sink.now c.args.list.now

pub loop-token-preserved : goal.loop-token-preserved
loop-token-preserved g c =
    passed-both g.S.Sink.takes (surroundings_value c.args.self.now) _ _ _ _ _ _ _ _ _ c.loop-token.invariant
    (passed-one g.S.Sink.takes (surroundings_value c.args.self.now) c.loop-token.first c.loop-token.sink c.take.new.self c.loop-token.list c.drop_front.new.self c.in-Some.token.now _
    c.in-Some.ensures c.drop_front.ensures (λ sets. c.passes_alone.ensures sets c.if-not-passes_alone.false) c.item_ref.ensures c.in_ok-take.ensures)
