use Rattle.std.proofs.Common.{◌≡◌, List, OnOk, subst}
use Rattle.std.specs.Prelude.{flat_map}
use Rattle.inc_graph.specs.Reaching.{Reaching}
use Rattle.inc_answers.specs.Documents.{Block, more_blocks}
use Rattle.inc_answers.specs.WhoDocument.{reaching_blocks}
use Rattle.inc_answers.proofs.BoundLemmas.{first_added}
use Rattle.inc_answers.proofs.who_document.add_sources.Goals as goal

pub returns : goal.returns
returns c =
    let blocks : Reaching → List Block = reaching_blocks c.args.all c.args.project.now c.args.graph.now in
    subst (λ (answer : List Block). OnOk c.add_more.result (c.add_more.new.self ≡ answer))
    (first_added (flat_map blocks) more_blocks c.args.most c.args.reaching.now.left c.count-total.result c.shown_count-shown.result c.args.document.now c.add_first_sources.new.document
    c.count-total.ensures c.shown_count-shown.ensures.count c.in_ok-add_first_sources.ensures) c.add_more.ensures
