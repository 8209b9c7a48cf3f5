use Rattle.std.proofs.Common.{refl}
use Rattle.inc_expand.specs.Cases.{surroundings_value}
use Rattle.inc_expand.proofs.StreamSteps.{handed-nothing, handed-level}
use Rattle.inc_expand.proofs.cases.Surroundings.hand_on_level.Goals as goal

pub returns-then-not-is_empty : goal.returns-then-not-is_empty
returns-then-not-is_empty g c =
    handed-nothing g.S.Sink.takes (surroundings_value c.args.self.now) c.args.first.now c.args.sink.now c.args.frames.now c.args.level.now (c.is_empty.ensures.some c.if-not-is_empty.true)

pub returns : goal.returns
returns g c =
    handed-level g.S.Sink.takes (surroundings_value c.args.self.now) c.args.first.now c.hand_on.new.first c.hand_on_ordinary.new.first c.args.sink.now c.hand_on.new.sink c.hand_on_ordinary.new.sink
    c.args.frames.now c.args.level.now _ (c.is_empty.ensures.none c.if-not-is_empty.false) refl c.clear.ensures.items
    (rw c.deref.ensures.value at c.in_ok-hand_on.ensures) c.in_ok-hand_on_ordinary.ensures
