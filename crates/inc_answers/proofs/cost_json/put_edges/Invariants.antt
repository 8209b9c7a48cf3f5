use Rattle.std.proofs.Common.{drop}
use Rattle.inc_answers.specs.CostJson.{edge_item}
use Rattle.inc_answers.specs.CostViews.{seen_amounts}
use Rattle.inc_answers.proofs.JsonSteps.{Makes, with_items}
use Rattle.inc_answers.proofs.cost_json.put_edges.Given as goal

-- those that are left make the list
abbrev pub invariant-loop-place : goal.invariant-loop-place
invariant-loop-place l =
    Makes (λ a i. edge_item a (seen_amounts l.saved) i) l.json l.place (drop l.place l.edges) (with_items (λ a i. edge_item a (seen_amounts l.saved) i) l.initial.json l.edges)
