use Rattle.inc_answers.proofs.SendingLemmas.{sends_then}
use Rattle.inc_answers.proofs.cost.send_ranked.Goals as goal

pub returns : goal.returns
returns g c =
    let total = rw c.sources.ensures.sources at c.send_total.ensures in
    let headers = rw c.deref.ensures.value at c.send_headers.ensures in
    let directives = rw c.deref-2.ensures.value at c.send_directives.ensures in
    sends_then _ _ _ _ _ (sends_then _ _ _ _ _ (sends_then _ _ _ _ _ (sends_then _ _ _ _ _ total headers) c.send_groups.ensures) directives) c.send_unknown.ensures
