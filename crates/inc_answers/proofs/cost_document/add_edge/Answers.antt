use Rattle.std.proofs.Common.{◌≡◌, ◌∙◌, ◌++◌, List, ℕ, [], OnOk, ap, codes, subst, sym}
use Rattle.std.specs.Prelude.{slice_get}
use Rattle.std.specs.Option.{option_map_or}
use Rattle.inc_answers.specs.CostDocument.{amount_words, led_edge}
use Rattle.inc_answers.specs.CostViews.{seen_amounts}
use Rattle.inc_answers.specs.Documents.{Block}
use Rattle.inc_answers.proofs.CostBlocks.{led_by}
use Rattle.inc_answers.proofs.cost_document.add_edge.Goals as goal

pub returns : goal.returns
returns c =
    let g = c.args.graph.now in
    let i = c.args.edge in
    let words : List ℕ = c.put_lead.new.text.items in
    let led = led_by g words i c.directive_of.result (rw c.id_of-id.ensures at c.directive_of.ensures) in
    let are = c.in_ok-put_lead.ensures ∙ ap (λ (t : List ℕ). t ++ (amount_words (seen_amounts c.args.saved.now) i ++ codes ": ")) c.new-text.ensures.items in
    subst (λ (bs : List Block). OnOk c.add_led.result (c.add_led.new.self ≡ c.args.document.now ++ bs))
    (sym led ∙ ap (λ (w : List ℕ). option_map_or (led_edge w) (slice_get g.edges i) []) are) c.add_led.ensures
