use Rattle.std.proofs.Common.{◌≡◌, ◌≤◌, ◌-◌, [], map, replicate}
use Rattle.inc_inputs.proofs.build_places.empty_lists.Given as goal

-- so many are there
abbrev pub invariant-loop-at : goal.invariant-loop-at
invariant-loop-at l = (l.at ≤ l.count) × (map (λ v. v.items) l.lists.items ≡ replicate l.at [])

abbrev pub decreases-loop-at : goal.decreases-loop-at
decreases-loop-at l = l.count - l.at
