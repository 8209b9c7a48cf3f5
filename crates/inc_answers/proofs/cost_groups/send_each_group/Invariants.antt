use Rattle.std.proofs.Common.{take}
use Rattle.std.specs.Prelude.{flat_map}
use Rattle.inc_answers.specs.CostGroups.{group_line}
use Rattle.inc_answers.specs.Sending.{Sends}
use Rattle.inc_answers.proofs.cost_groups.send_each_group.Given as goal

-- the groups so far are sent
abbrev pub invariant-loop-place : goal.invariant-loop-place
invariant-loop-place g l = Sends l.initial.out l.out (flat_map (group_line l.costed) (take l.place-index l.places))
