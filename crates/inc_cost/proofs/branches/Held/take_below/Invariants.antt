use Rattle.std.proofs.Common.{◌≡◌, ◌+◌, length}
use Rattle.inc_cost.specs.Branches.{behind, held_below}
use Rattle.inc_cost.proofs.branches.Held.take_below.Given as goal

-- what is taken and what is left weigh together what there was
abbrev pub invariant-loop-whole : goal.invariant-loop-whole
invariant-loop-whole l = (l.total + held_below l.depth l.self ≡ held_below l.depth l.initial.self) × (behind l.depth l.self ≡ behind l.depth l.initial.self)

abbrev pub decreases-loop-whole : goal.decreases-loop-whole
decreases-loop-whole l = length l.self
