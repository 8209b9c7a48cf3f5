use Rattle.std.proofs.Common.{◌+◌, sym, subst, arith}
use Rattle.inc_expand.specs.Cases.{surroundings_value}
use Rattle.inc_expand.specs.Frames.{ArePassedOn}
use Rattle.inc_expand.proofs.FrameSteps.{passed-none, passed-both, passed-noted}
use Rattle.inc_expand.proofs.cases.Surroundings.pass_arguments.Goals as goal

pub loop-at-init : goal.loop-at-init
loop-at-init c = (
  c.requires,
  passed-none
      (surroundings_value c.args.self.now) c.args.deeper c.args.call.now c.args.from,
)

pub returns-then-not-pass_argument-clause-passed : goal.returns-then-not-pass_argument-clause-passed
returns-then-not-pass_argument-clause-passed c =
    subst (λ x. ArePassedOn (surroundings_value c.args.self.now) c.args.deeper c.args.call.now c.args.from x c.loop-at.at) (sym (c.pass_argument.ensures.same c.if-not-pass_argument.true)) c.loop-at.invariant.1

pub loop-at-smaller : goal.loop-at-smaller
loop-at-smaller c =
    let p = c.pass_argument.ensures.passed c.if-not-pass_argument.false in
    let n = p.long in omega (arith, n, c.loop-at-test.true, c.len.ensures)

pub loop-at-preserved : goal.loop-at-preserved
loop-at-preserved c =
    let p = c.pass_argument.ensures.passed c.if-not-pass_argument.false in (
      passed-noted (surroundings_value c.args.self.now) c.args.deeper c.loop-at.call c.loop-at.at c.pass_argument.new.call (c.loop-at.at + 1) p c.loop-at.invariant.0,
      passed-both (surroundings_value c.args.self.now) c.args.deeper c.args.call.now c.args.from c.loop-at.call c.loop-at.at c.pass_argument.new.call (c.loop-at.at + 1) c.loop-at.invariant.1 p,
    )

pub returns-clause-passed : goal.returns-clause-passed
returns-clause-passed c = c.loop-at.invariant.1
