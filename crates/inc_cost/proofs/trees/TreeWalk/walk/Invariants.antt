use Rattle.inc_cost.specs.Trees.{IsWalking, steps_left}
use Rattle.inc_cost.proofs.trees.TreeWalk.walk.Given as goal

-- the walk goes on to the tree of the source
abbrev pub invariant-loop-source : goal.invariant-loop-source
invariant-loop-source l = IsWalking l.graph l.source l.self

abbrev pub decreases-loop-source : goal.decreases-loop-source
decreases-loop-source l = steps_left l.graph l.self.tree l.self.waiting
