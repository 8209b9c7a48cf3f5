use Rattle.inc_answers.proofs.SendingLemmas.{sends_then}
use Rattle.inc_answers.proofs.limits.send_blocked.Goals as goal

pub returns : goal.returns
returns g c = record { ends = c.noted.ensures; sent = sends_then _ _ _ _ _ c.send_line.ensures c.send_blockers.ensures }
