use Rattle.std.proofs.Common.{sym, subst}
use Rattle.inc_expand.specs.Carriers.{AreKnown}
use Rattle.inc_expand.proofs.calls.take_call.Goals as goal

pub returns-in-Some-clause-call : goal.returns-in-Some-clause-call
returns-in-Some-clause-call c s = rw c.in-Some.is at (c.in_ok-call.ensures.call s)

pub returns-in-Some-clause-known : goal.returns-in-Some-clause-known
returns-in-Some-clause-known c n h = rw c.in-Some.is at (c.in_ok-call.ensures.known n h)

pub returns-clause-known : goal.returns-clause-known
returns-clause-known c n h =
    let same = rw c.in_default.is at c.in_ok-call.ensures.same in
    let k = c.in_ok-inside.ensures.known n (subst (AreKnown n) (sym same) h) in
    (subst (AreKnown n) (sym c.in_ok-shared.ensures.tokens) k.0, k.1, k.2)
