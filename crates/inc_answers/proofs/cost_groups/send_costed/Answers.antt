use Rattle.inc_answers.proofs.SendingLemmas.{sends_then}
use Rattle.inc_answers.proofs.cost_groups.send_costed.Goals as goal

pub returns : goal.returns
returns g c =
    let bytes = sends_then _ _ _ _ _ c.send_number.ensures c.send.ensures in
    let count = sends_then _ _ _ _ _ (sends_then _ _ _ _ _ bytes c.send_number-2.ensures) c.send-2.ensures in
    let cut = sends_then _ _ _ _ _ (sends_then _ _ _ _ _ count c.send_cut.ensures) c.send-3.ensures in
    rw (← c.costed.view_is) (sends_then _ _ _ _ _ cut c.send_line.ensures)
