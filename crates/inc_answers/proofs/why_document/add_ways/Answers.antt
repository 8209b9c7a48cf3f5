use Rattle.std.proofs.Common.{◌≡◌, List, ℕ, OnOk, subst}
use Rattle.std.specs.Prelude.{flat_map}
use Rattle.inc_answers.specs.Documents.{Block, more_blocks}
use Rattle.inc_answers.specs.WhyDocument.{way_blocks}
use Rattle.inc_answers.proofs.BoundLemmas.{first_added}
use Rattle.inc_answers.proofs.why_document.add_ways.Goals as goal

pub returns : goal.returns
returns c =
    let way : List ℕ → List Block = way_blocks c.args.last.now c.args.graph.now in
    subst (λ (answer : List Block). OnOk c.add_more.result (c.add_more.new.self ≡ answer))
    (first_added (flat_map way) more_blocks c.args.most c.args.chains.now.left c.count-total.result c.shown_count-shown.result c.args.document.now c.add_first_ways.new.document
    c.count-total.ensures c.shown_count-shown.ensures.count c.in_ok-add_first_ways.ensures) c.add_more.ensures
