use Rattle.std.proofs.Common.{◌≡◌, ◌∙◌, ◌++◌, ◌∷◌, [], List, ℕ, OnOk, ap, length, subst}
use Rattle.std.proofs.lemmas.List.{append_assoc}
use Rattle.inc_answers.specs.Documents.{Block, Words, edge_places}
use Rattle.inc_answers.specs.WhyDocument.{way_words}
use Rattle.inc_answers.proofs.why_document.add_whole_way.Goals as goal

pub returns : goal.returns
returns c =
    let old = c.args.document.now in
    let edges = edge_places c.args.graph.now c.args.edges.now in
    let words = way_words (length c.args.edges.now) in
    subst (λ (answer : List Block). OnOk c.add_edges.result (c.add_edges.new.self ≡ answer))
    (ap (λ (d : List Block). d ++ edges) (c.in_ok-add_words.ensures ∙ ap (λ (t : List ℕ). old ++ Words t ∷ []) (c.in_ok-put_way.ensures ∙ ap (λ (l : List ℕ). l ++ words) c.new-text.ensures.items)) ∙ append_assoc old (Words words ∷ []) edges) c.add_edges.ensures
