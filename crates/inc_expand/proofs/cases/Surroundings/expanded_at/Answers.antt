use Rattle.std.proofs.Common.{suc, refl, sym, subst, ◌∙◌}
use Rattle.std.proofs.lemmas.Result.{err_from_is_err_and}
use Rattle.inc_expand.specs.declared.frames.Level.{Level}
use Rattle.inc_expand.specs.Cases.{surroundings_value}
use Rattle.inc_expand.proofs.FrameSteps.{IsWalking, walking-begun, walking-turn, walking-over}
use Rattle.inc_expand.proofs.cases.Surroundings.expanded_at.Goals as goal

pub loop-level-init : goal.loop-level-init
loop-level-init c =
    let level : Level = record { deeper = c.args.deeper; list = c.args.list; out = c.in_ok-out.out } in
    subst (λ fs. IsWalking (surroundings_value c.args.self.now) (suc c.args.deeper) c.args.work.now c.args.work.now c.args.list fs level)
    (sym c.new-frames.ensures)
    (walking-begun (surroundings_value c.args.self.now) (suc c.args.deeper) c.args.work.now c.args.list level refl refl c.in_ok-out.ensures.items c.requires)

pub step-requires-clause-frames : goal.step-requires-clause-frames
step-requires-clause-frames c = c.loop-level.invariant.frames

pub step-requires-clause-level : goal.step-requires-clause-level
step-requires-clause-level c = c.loop-level.invariant.level

pub returns-in_err-step-clause-fault : goal.returns-in_err-step-clause-fault
returns-in_err-step-clause-fault c =
    let p = err_from_is_err_and c.from_residual-in_err-step.result c.from_residual-in_err-step.ensures.1 in
    rw (p.1, p.2) (λ other. c.loop-level.invariant.same ∙ c.in_err-step.ensures.fault other)

pub loop-level-smaller : goal.loop-level-smaller
loop-level-smaller c = (c.in_ok-step.ensures.turn c.if-branch.true).fewer

pub loop-level-preserved : goal.loop-level-preserved
loop-level-preserved c =
    walking-turn (surroundings_value c.args.self.now) (suc c.args.deeper) c.args.work.now c.args.list c.loop-level.work c.step.new.work c.loop-level.frames c.step.new.frames c.loop-level.level c.step.new.level
    c.loop-level.invariant (c.in_ok-step.ensures.turn c.if-branch.true)

pub returns-clause-expanded : goal.returns-clause-expanded
returns-clause-expanded c =
    let o = c.in_ok-step.ensures.over c.if-branch.false in
    rw (o.2, o.3) (walking-over (surroundings_value c.args.self.now) (suc c.args.deeper) c.args.work.now c.args.list c.loop-level.work c.loop-level.frames c.loop-level.level c.loop-level.invariant o.0 o.1)

pub returns-clause-keeps : goal.returns-clause-keeps
returns-clause-keeps c = let o = c.in_ok-step.ensures.over c.if-branch.false in rw (o.3) c.loop-level.invariant.keeps

pub returns-clause-known : goal.returns-clause-known
returns-clause-known c = let o = c.in_ok-step.ensures.over c.if-branch.false in rw (o.2, o.3) c.loop-level.invariant.level.out
