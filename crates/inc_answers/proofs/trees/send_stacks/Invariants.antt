use Rattle.std.proofs.Common.{◌≡◌}
use Rattle.inc_answers.proofs.StackLemmas.{AreSentTo}
use Rattle.inc_answers.proofs.trees.send_stacks.Given as goal

-- the stacks of the nodes so far are sent
abbrev pub invariant-loop-node : goal.invariant-loop-node
invariant-loop-node g l = (l.way.room ≡ l.walk.room) × AreSentTo l.project l.sizes l.walk.tree l.node-index l.way.files l.initial.out l.out
