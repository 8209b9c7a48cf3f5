use Rattle.std.proofs.Common.{◌≡◌, List, OnOk, refl, subst}
use Rattle.inc_answers.specs.Documents.{Block, more_blocks, places}
use Rattle.inc_answers.proofs.BoundLemmas.{first_added}
use Rattle.inc_answers.proofs.documents.Document.add_first.Goals as goal

pub returns : goal.returns
returns c =
    subst (λ (answer : List Block). OnOk c.add_more.result (c.add_more.new.self ≡ answer))
    (first_added places more_blocks c.args.most c.args.directives.now _ c.shown_count-shown.result c.args.self.now c.add_places.new.self
    refl c.shown_count-shown.ensures.count c.in_ok-add_places.ensures) c.add_more.ensures
