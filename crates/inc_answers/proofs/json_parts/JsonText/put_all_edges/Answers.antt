use Rattle.std.proofs.Common.{◌≡◌, ◌∙◌, List, ℕ, OnOk, ap, map, subst}
use Rattle.inc_graph.specs.IncludeGraph.{Graph}
use Rattle.inc_graph.specs.Views.{seen_edge}
use Rattle.inc_graph.specs.declared.graphs.Edge.{Edge}
use Rattle.inc_answers.specs.JsonAnswers.{JsonOut, about_of, edge_text, puts}
use Rattle.inc_answers.specs.JsonTexts.{list_of}
use Rattle.inc_answers.proofs.GraphLemmas.{map-numbered}
use Rattle.inc_answers.proofs.json_parts.JsonText.put_all_edges.Goals as goal

pub returns : goal.returns
returns c =
    let old = c.args.self.now in
    let text : Edge → List ℕ = λ e. edge_text (about_of old) (seen_edge e) in
    subst (λ (answer : JsonOut). OnOk c.put_links.result (c.put_links.new.self ≡ answer))
    (ap (λ (es : List Edge). puts old (list_of (map text es))) c.edges.ensures.edges ∙ ap (λ (items : List (List ℕ)). puts old (list_of items)) (map-numbered (edge_text (about_of old)) 0 c.graph-graph.result.now.edges)
    ∙ ap (λ (g : Graph). puts old (list_of (map (edge_text (about_of old)) g.edges))) c.graph-graph.ensures) c.put_links.ensures
