use Rattle.std.proofs.Common.{◌≡◌, List, OnOk, length, subst}
use Rattle.inc_answers.specs.CutDocument.{chains_from}
use Rattle.inc_answers.specs.Documents.{Block, more_blocks}
use Rattle.inc_answers.proofs.BoundLemmas.{first_added}
use Rattle.inc_answers.proofs.cut_document.add_chains.Goals as goal

pub returns : goal.returns
returns c =
    subst (λ (answer : List Block). OnOk c.add_more.result (c.add_more.new.self ≡ answer))
    (first_added (chains_from c.args.graph.now 1 (length c.args.chains.now)) more_blocks c.args.most c.args.chains.now c.len-total.result c.shown_count-shown.result c.args.document.now
    c.add_first_chains.new.document c.len-total.ensures c.shown_count-shown.ensures.count c.in_ok-add_first_chains.ensures) c.add_more.ensures
