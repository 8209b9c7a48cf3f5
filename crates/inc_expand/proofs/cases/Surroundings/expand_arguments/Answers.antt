use Rattle.std.proofs.Common.{◌+◌, ◌≡◌, length, subst, arith}
use Rattle.std.proofs.lemmas.Result.{err_from_is_err_and}
use Rattle.inc_expand.specs.Cases.{surroundings_value}
use Rattle.inc_expand.specs.OpenWalks.{AreExpanded}
use Rattle.inc_expand.proofs.OpenSteps.{expanded-both, expanded-fault, expanded-none, expanded-noted}
use Rattle.inc_expand.proofs.cases.Surroundings.expand_arguments.Goals as goal

pub loop-at-init : goal.loop-at-init
loop-at-init c = (expanded-none (surroundings_value c.args.self.now) c.args.work.now c.args.call.now 0 c.requires.call, omega arith)

pub expand_argument-requires-clause-call : goal.expand_argument-requires-clause-call
expand_argument-requires-clause-call c = c.loop-at.invariant.0.known

pub expand_argument-requires-clause-noted : goal.expand_argument-requires-clause-noted
expand_argument-requires-clause-noted c =
    expanded-noted (surroundings_value c.args.self.now) c.args.work.now c.loop-at.work c.args.call.now 0 c.loop-at.call c.loop-at.at c.loop-at.invariant.0 c.requires.noted

pub returns-in_err-expand_argument-clause-fault : goal.returns-in_err-expand_argument-clause-fault
returns-in_err-expand_argument-clause-fault c =
    let p = err_from_is_err_and c.from_residual.result c.from_residual.ensures.1 in
    rw (p.1, p.2) (λ other.
    expanded-fault (surroundings_value c.args.self.now) c.args.work.now c.loop-at.work c.args.call.now 0 c.loop-at.call c.loop-at.at _ c.loop-at.invariant.0 (c.in_err-expand_argument.ensures.fault other))

pub loop-at-smaller : goal.loop-at-smaller
loop-at-smaller c =
    let n = c.in_ok-expand_argument.ensures.done.long in omega (arith, n, c.loop-at-test.true, c.len.ensures)

pub loop-at-preserved : goal.loop-at-preserved
loop-at-preserved c =
    let d = c.in_ok-expand_argument.ensures.done in
    let n = d.long in (
      expanded-both (surroundings_value c.args.self.now) c.args.work.now c.loop-at.work c.expand_argument.new.work c.args.call.now 0 c.loop-at.call c.loop-at.at c.expand_argument.new.call (c.loop-at.at + 1)
          c.loop-at.invariant.0 d,
      omega (arith, n, c.loop-at-test.true, c.len.ensures),
    )

pub returns-clause-done : goal.returns-clause-done
returns-clause-done c =
    let within = c.loop-at.invariant.1 in
    let all : c.loop-at.at ≡ length c.loop-at.call.args = omega (arith, within, c.loop-at-test.false, c.len.ensures) in
    subst (λ n. AreExpanded (surroundings_value c.args.self.now) c.args.work.now c.args.call.now 0 c.loop-at.work c.loop-at.call n) all c.loop-at.invariant.0
