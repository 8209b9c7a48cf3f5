use Rattle.std.proofs.Common.{◌≡◌, ◌++◌, map, take}
use Rattle.inc_graph.specs.Views.{seen_edge}
use Rattle.inc_graph.specs.declared.graphs.Edge.{Edge}
use Rattle.inc_answers.specs.GraphDocument.{link_block}
use Rattle.inc_answers.proofs.graph_document.add_links.Given as goal

-- those so far are added
abbrev pub invariant-loop-edge : goal.invariant-loop-edge
invariant-loop-edge l = l.document ≡ l.initial.document ++ map (λ (e : Edge). link_block l.project (seen_edge e)) (take l.edge-index l.edges)
