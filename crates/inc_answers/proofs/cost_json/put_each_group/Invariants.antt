use Rattle.std.proofs.Common.{drop}
use Rattle.inc_answers.specs.CostJson.{group_item}
use Rattle.inc_answers.proofs.JsonSteps.{Makes, with_items}
use Rattle.inc_answers.proofs.cost_json.put_each_group.Given as goal

-- those that are left make the list
abbrev pub invariant-loop-place : goal.invariant-loop-place
invariant-loop-place l = Makes (λ a i. group_item l.costed i) l.json l.place (drop l.place l.places) (with_items (λ a i. group_item l.costed i) l.initial.json l.places)
