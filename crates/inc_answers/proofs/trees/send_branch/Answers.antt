use Rattle.inc_answers.proofs.SendingLemmas.{sends_then}
use Rattle.inc_answers.proofs.trees.send_branch.Goals as goal

pub returns : goal.returns
returns g c =
    let own = rw c.from.ensures at c.send_number-2.ensures in
    let depth = rw c.from-2.ensures at c.send_number-3.ensures in
    let path = rw c.path.ensures.path at c.send_line.ensures in
    sends_then _ _ _ _ _
    (sends_then _ _ _ _ _ (sends_then _ _ _ _ _ (sends_then _ _ _ _ _ (sends_then _ _ _ _ _ (sends_then _ _ _ _ _ c.send_number.ensures c.send.ensures) own) c.send-2.ensures) depth) c.send-3.ensures)
    path
