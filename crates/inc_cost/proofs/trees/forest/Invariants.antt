use Rattle.std.proofs.Common.{◌≡◌, ◌<◌, All, take}
use Rattle.inc_cost.specs.Trees.{IsFor, forest}
use Rattle.inc_cost.specs.declared.trees.Node.{Node}
use Rattle.inc_cost.proofs.trees.forest.Given as goal

-- the trees of the sources so far are there
abbrev pub invariant-loop-source : goal.invariant-loop-source
invariant-loop-source l = IsFor l.graph l.walk × (l.nodes.items ≡ forest l.graph (take l.source-index l.graph.sources)) × All (λ (n : Node). n.file < l.graph.files) l.nodes.items
