use Rattle.std.proofs.Common.{sym, subst}
use Rattle.inc_expand.specs.Sets.{size}
use Rattle.inc_expand.specs.Carriers.{AreKnown}
use Rattle.inc_expand.proofs.CallSteps.{known-push}
use Rattle.inc_expand.proofs.replacements.push_string.Goals as goal

pub returns-in-StringOf-clause-known : goal.returns-in-StringOf-clause-known
returns-in-StringOf-clause-known c s h =
    subst (AreKnown (size s)) (sym c.in_ok-push.ensures.items) (known-push (size s) _ _ h (c.in_ok-string.ensures.known s))
