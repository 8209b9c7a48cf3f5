use Rattle.inc_answers.proofs.BoundLemmas.{sources_bounded}
use Rattle.inc_answers.proofs.SendingLemmas.{sends_then}
use Rattle.inc_answers.proofs.who.send_reaching.Goals as goal

pub returns : goal.returns
returns g c =
    rw (← sources_bounded c.args.with_chains c.args.most c.args.project.now c.args.graph.now c.args.reaching.now.left c.count-total.result c.shown_count-shown.result c.count-total.ensures c.shown_count-shown.ensures.count)
    (sends_then _ _ _ _ _ (sends_then _ _ _ _ _ c.send_count_line.ensures c.send_first_sources.ensures) c.send_more.ensures)
