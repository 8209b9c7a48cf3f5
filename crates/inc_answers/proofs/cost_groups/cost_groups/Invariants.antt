use Rattle.std.proofs.Common.{take}
use Rattle.inc_answers.specs.CostGroups.{AreCosted}
use Rattle.inc_answers.proofs.cost_groups.cost_groups.Given as goal

-- the groups so far
abbrev pub invariant-loop-group : goal.invariant-loop-group
invariant-loop-group l = AreCosted l.project l.graph l.sizes (take l.group-index l.groups) l.costed.items
