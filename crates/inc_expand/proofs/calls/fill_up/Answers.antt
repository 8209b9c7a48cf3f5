use Rattle.std.proofs.Common.{sym, subst}
use Rattle.inc_expand.specs.Arguments.{AreKnownIn}
use Rattle.inc_expand.specs.Slots.{slot_values}
use Rattle.inc_expand.proofs.CallSteps.{known_in-push}
use Rattle.inc_expand.proofs.calls.fill_up.Goals as goal

pub returns-in_ok-push_slot-clause-known : goal.returns-in_ok-push_slot-clause-known
returns-in_ok-push_slot-clause-known c n inside h =
    subst (AreKnownIn n) (sym (c.in_ok-push_slot.ensures.values inside)) (known_in-push n (slot_values inside c.args.args.now.items) _ h tt tt)
