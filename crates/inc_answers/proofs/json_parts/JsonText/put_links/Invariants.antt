use Rattle.std.proofs.Common.{drop}
use Rattle.inc_answers.specs.JsonAnswers.{edge_text}
use Rattle.inc_graph.specs.Views.{seen_edge}
use Rattle.inc_answers.proofs.JsonSteps.{Makes, with_items}
use Rattle.inc_answers.proofs.json_parts.JsonText.put_links.Given as goal

-- the directives that are left make the list
abbrev pub invariant-loop-place : goal.invariant-loop-place
invariant-loop-place l = Makes (λ a e. edge_text a (seen_edge e)) l.self l.place (drop l.place l.edges) (with_items (λ a e. edge_text a (seen_edge e)) l.initial.self l.edges)
