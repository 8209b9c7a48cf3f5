use Rattle.inc_answers.proofs.BoundLemmas.{chains_bounded}
use Rattle.inc_answers.proofs.SendingLemmas.{sends_then}
use Rattle.inc_answers.proofs.why.send_chains.Goals as goal

pub returns : goal.returns
returns g c =
    rw (← chains_bounded c.args.project.now c.args.graph.now c.args.most c.args.chains.now.left c.count-total.result c.shown_count-shown.result c.count-total.ensures c.shown_count-shown.ensures.count)
    (sends_then _ _ _ _ _ (sends_then _ _ _ _ _ c.send_count_line.ensures c.send_first_chains.ensures) c.send_more.ensures)
