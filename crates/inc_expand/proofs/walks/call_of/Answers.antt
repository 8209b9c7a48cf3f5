use Rattle.std.proofs.Common.{subst, sym}
use Rattle.inc_expand.specs.Carriers.{AreKnown}
use Rattle.inc_expand.proofs.WalkSteps.{known-pop}
use Rattle.inc_expand.proofs.walks.call_of.Goals as goal

pub returns-clause-known : goal.returns-clause-known
returns-clause-known c n h =
    let k = c.in_ok-call.ensures.known n (known-pop n c.pop.result c.args.list.now c.pop.new.self c.pop.ensures.some c.pop.ensures.same h) in
    (k.0, k.1, subst (AreKnown n) (sym c.release.ensures) k.2)
