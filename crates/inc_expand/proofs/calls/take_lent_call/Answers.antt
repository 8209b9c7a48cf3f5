use Rattle.std.proofs.Common.{◌+◌, sym, subst}
use Rattle.inc_expand.specs.Carriers.{AreKnown}
use Rattle.inc_expand.proofs.JoinSteps.{known-take, known-drop}
use Rattle.inc_expand.proofs.calls.take_lent_call.Goals as goal

pub returns-clause-known : goal.returns-clause-known
returns-clause-known c n h = (
  subst (AreKnown n) (sym c.in-Some-inside.ensures) (known-take n c.in-Some-lent_close.count c.args.list.now h),
  c.in-Some-lent_close.ensures.known n (subst (AreKnown n) c.in-Some.ensures h),
  subst (AreKnown n) (sym c.skip.ensures) (known-drop n (c.in-Some-lent_close.count + 1) c.args.list.now h),
)
