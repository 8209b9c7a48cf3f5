use Rattle.inc_answers.proofs.SendingLemmas.{sends_then}
use Rattle.inc_answers.proofs.edges.send_blocker.Goals as goal

pub returns : goal.returns
returns g c = rw (← c.blocker_word-word.ensures, ← c.path.ensures.path) (sends_then _ _ _ _ _ c.send.ensures c.send_directive.ensures.sent)
