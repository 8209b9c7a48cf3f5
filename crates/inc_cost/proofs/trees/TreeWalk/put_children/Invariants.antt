use Rattle.std.proofs.Common.{◌≡◌, ◌≤◌, drop, length, map}
use Rattle.inc_cost.specs.Trees.{child, with_waiting}
use Rattle.inc_cost.proofs.trees.TreeWalk.put_children.Given as goal

-- the edges from this place on are done
abbrev pub invariant-loop-place : goal.invariant-loop-place
invariant-loop-place l = (l.place ≤ length l.edges) × (l.self ≡ with_waiting l.initial.self (map (child l.depth) (drop l.place l.edges)))

abbrev pub decreases-loop-place : goal.decreases-loop-place
decreases-loop-place l = l.place
