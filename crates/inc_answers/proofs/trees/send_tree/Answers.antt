use Rattle.inc_answers.proofs.SendingLemmas.{sends_then}
use Rattle.inc_answers.proofs.trees.send_tree.Goals as goal

pub returns : goal.returns
returns g c =
    let total = rw c.sources.ensures.sources at c.send_total.ensures in
    sends_then _ _ _ _ _ (sends_then _ _ _ _ _ total c.send_branches.ensures) c.send_unknown.ensures
