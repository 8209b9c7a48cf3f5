use Rattle.std.proofs.Common.{◌≡◌, ◌++◌, ◌∷◌, [], take}
use Rattle.std.specs.Prelude.{codes, flat_map}
use Rattle.inc_answers.specs.CostDocument.{edge_block}
use Rattle.inc_answers.specs.CostViews.{seen_amounts}
use Rattle.inc_answers.specs.Documents.{Words}
use Rattle.inc_answers.proofs.cost_document.add_edges.Given as goal

-- those so far are added below their line
abbrev pub invariant-loop-edge : goal.invariant-loop-edge
invariant-loop-edge l = l.document ≡ (l.fn.document ++ Words (codes "directives, by what goes if each alone is removed:") ∷ []) ++ flat_map (edge_block l.graph (seen_amounts l.saved)) (take l.edge-index l.edges)
