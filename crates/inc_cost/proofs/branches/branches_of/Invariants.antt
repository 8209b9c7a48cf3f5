use Rattle.std.proofs.Common.{◌≡◌, ◌≤◌, drop, length, reverse}
use Rattle.inc_cost.specs.Branches.{AreHeld}
use Rattle.inc_cost.specs.Trees.{branches}
use Rattle.inc_cost.proofs.branches.branches_of.Given as goal

-- the nodes from this place on are weighed
abbrev pub invariant-loop-place : goal.invariant-loop-place
invariant-loop-place l =
    (l.place ≤ length l.nodes) × AreHeld l.weights (drop l.place l.nodes) l.held × (reverse l.found.items ≡ branches l.weights (drop l.place l.nodes))

abbrev pub decreases-loop-place : goal.decreases-loop-place
decreases-loop-place l = l.place
