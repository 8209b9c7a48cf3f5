use Rattle.std.proofs.Common.{◌∙◌, length, arith}
use Rattle.inc_expand.specs.Carriers.{carriers}
use Rattle.inc_expand.proofs.HeldSteps.{held-all, held-before, held-none}
use Rattle.inc_expand.proofs.held.push_all_held.Goals as goal

pub loop-at-init : goal.loop-at-init
loop-at-init c = rw c.expect.ensures (c.requires.list, omega arith, held-none c.args.tokens.now _ (length c.args.tokens.now) (omega arith))

pub push_held-requires : goal.push_held-requires
push_held-requires c = record { list = c.loop-at.invariant.0 }

pub loop-at-preserved : goal.loop-at-preserved
loop-at-preserved c =
    let within = c.loop-at.invariant.1 in (
      c.in_ok-push_held.ensures.known,
      omega (arith, within),
      held-before c.args.tokens.now (carriers c.args.sets.now c.args.list.now) c.loop-at.at _ c.loop-at-test.true within
          (carriers c.loop-at.sets c.loop-at.list) (carriers c.push_held.new.sets c.push_held.new.list) c.loop-at.invariant.2 c.in_ok-push_held.ensures.list,
    )

pub returns-clause-known : goal.returns-clause-known
returns-clause-known c = c.loop-at.invariant.0

pub returns-clause-list : goal.returns-clause-list
returns-clause-list c =
    c.loop-at.invariant.2 ∙ held-all c.args.tokens.now (carriers c.args.sets.now c.args.list.now) c.loop-at.at c.loop-at-test.false
