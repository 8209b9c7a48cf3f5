use Rattle.inc_expand.proofs.JoinSteps.{settled, settled-known}
use Rattle.inc_expand.proofs.pastes.Joiner.settle.Goals as goal

pub returns-clause-done : goal.returns-clause-done
returns-clause-done c s = settled s _ _ _ _ c.in_ok-push_one.ensures.tokens (c.in_ok-last.ensures.token s)

pub returns-clause-known : goal.returns-clause-known
returns-clause-known c n h = (settled-known n _ _ _ c.in_ok-push_one.ensures.tokens h.0 (c.in_ok-last.ensures.known n h.1), tt)
