use Rattle.std.proofs.Common.{◌≡◌, ◌++◌, take}
use Rattle.std.specs.Prelude.{flat_map}
use Rattle.inc_answers.specs.CostDocument.{group_block}
use Rattle.inc_answers.proofs.cost_document.add_each_group.Given as goal

-- those so far are added
abbrev pub invariant-loop-place : goal.invariant-loop-place
invariant-loop-place l = l.document ≡ l.initial.document ++ flat_map (group_block l.costed) (take l.place-index l.places)
