use Rattle.std.proofs.Common.{true, refl, sym, subst}
use Rattle.std.proofs.lemmas.Result.{err_from_is_err_and}
use Rattle.inc_expand.specs.declared.frames.Level.{Level}
use Rattle.inc_expand.specs.Cases.{surroundings_value}
use Rattle.inc_expand.specs.Streams.{IsOver}
use Rattle.inc_expand.proofs.StreamSteps.{IsStreamed, streamed-begun, streamed-step, streamed-fault, streamed-over, streamed-smaller}
use Rattle.inc_expand.proofs.cases.Surroundings.stream.Goals as goal

pub loop-level-init : goal.loop-level-init
loop-level-init g c =
    let level : Level = record { deeper = c.levels_above.result; list = c.args.list; out = c.new.result } in
    subst (λ fs. IsStreamed g.S.Sink.takes (surroundings_value c.args.self.now) c.args.work.now c.args.work.now c.args.list fs level c.args.sink.now c.args.sink.now true) (sym c.new-frames.ensures)
    (streamed-begun g.S.Sink.takes (surroundings_value c.args.self.now) c.args.work.now c.args.list c.args.sink.now level c.levels_above.ensures refl c.new.ensures.items c.requires)

pub step-requires-clause-frames : goal.step-requires-clause-frames
step-requires-clause-frames g c = c.loop-level.invariant.frames

pub step-requires-clause-level : goal.step-requires-clause-level
step-requires-clause-level g c = c.loop-level.invariant.level

pub returns-in_err-step-clause-fault : goal.returns-in_err-step-clause-fault
returns-in_err-step-clause-fault g c =
    let p = err_from_is_err_and c.from_residual.result c.from_residual.ensures.1 in
    rw (p.1, p.2) (λ other. streamed-fault g.S.Sink.takes (surroundings_value c.args.self.now) c.args.work.now c.args.list c.args.sink.now
    c.loop-level.work c.loop-level.frames c.loop-level.level c.loop-level.sink c.loop-level.first c.loop-level.invariant _ (c.in_err-step.ensures.fault other))

pub loop-level-smaller : goal.loop-level-smaller
loop-level-smaller g c =
    streamed-smaller g.S.Sink.takes (surroundings_value c.args.self.now) c.loop-level.work c.step.new.work c.loop-level.frames c.step.new.frames c.loop-level.level c.step.new.level c.hand_on_level.new.level
    c.loop-level.sink c.hand_on_level.new.sink c.loop-level.first c.hand_on_level.new.first (c.in_ok-step.ensures.turn c.if-branch.true) c.in_ok-hand_on_level.ensures

pub loop-level-preserved : goal.loop-level-preserved
loop-level-preserved g c =
    streamed-step g.S.Sink.takes (surroundings_value c.args.self.now) c.args.work.now c.args.list c.args.sink.now
    c.loop-level.work c.loop-level.frames c.loop-level.level c.loop-level.sink c.loop-level.first c.loop-level.invariant
    c.step.new.work c.step.new.frames c.step.new.level c.hand_on_level.new.level c.hand_on_level.new.sink c.hand_on_level.new.first (c.in_ok-step.ensures.turn c.if-branch.true) c.in_ok-hand_on_level.ensures

pub returns-clause-over : goal.returns-clause-over
returns-clause-over g c =
    let o = c.in_ok-step.ensures.over c.if-branch.false in
    subst (λ w. IsOver g.S.Sink.takes (surroundings_value c.args.self.now) c.args.work.now w c.args.list c.args.sink.now c.loop-level.sink) (sym o.3)
    (streamed-over g.S.Sink.takes (surroundings_value c.args.self.now) c.args.work.now c.args.list c.args.sink.now
    c.loop-level.work c.loop-level.frames c.loop-level.level c.loop-level.sink c.loop-level.first c.loop-level.invariant o.0 o.1)
