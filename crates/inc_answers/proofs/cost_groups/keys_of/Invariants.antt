use Rattle.std.proofs.Common.{◌≡◌, map, suc, take}
use Rattle.inc_answers.specs.CostGroups.{Costed}
use Rattle.inc_answers.proofs.cost_groups.keys_of.Given as goal

-- the keys so far
abbrev pub invariant-loop-group : goal.invariant-loop-group
invariant-loop-group l = l.keys.items ≡ map (λ (c : Costed). suc c.bytes) (take l.group-index l.costed)
