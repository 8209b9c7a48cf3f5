use Rattle.inc_expand.proofs.pastes.Joiner.finish.Goals as goal

pub returns-clause-known : goal.returns-clause-known
returns-clause-known c n h = (c.in_ok-settle.ensures.known n h).0
