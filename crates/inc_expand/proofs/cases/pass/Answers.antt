use Rattle.inc_expand.proofs.CaseSteps.{passed-token, passed-end}
use Rattle.inc_expand.proofs.cases.pass.Goals as goal
use Rattle.inc_expand.proofs.cases.pass.Goals.{in-Some+in_ok-push, in_default}

pub loop-preserved : goal.loop-preserved
loop-preserved c =
    elim c.match-pop.branch [
      | in-Some+in_ok-push w ↦ rw w.out-is (passed-token c.args.out.now.items c.loop.out.items _ c.args.list.now c.loop.list c.pop.new.self c.loop.counter _
          c.loop.invariant.0 c.loop.invariant.1 w.in-Some.ensures.some w.in_ok-push.ensures.items)
      | in_default w ↦ rw w.out-is (passed-end c.args.out.now.items c.loop.out.items c.args.list.now c.loop.list c.pop.new.self c.loop.counter
          c.loop.invariant.0 c.loop.invariant.1 w.in_default.ensures.none w.in_default.ensures.same)
    ]
