use Rattle.std.proofs.Common.{drop}
use Rattle.inc_answers.specs.TreeJson.{branch_item}
use Rattle.inc_answers.proofs.JsonSteps.{Makes, with_items}
use Rattle.inc_answers.proofs.tree_json.put_branches.Given as goal

-- those that are left make the list
abbrev pub invariant-loop-place : goal.invariant-loop-place
invariant-loop-place l = Makes branch_item l.json l.place (drop l.place l.branches) (with_items branch_item l.initial.json l.branches)
