use Rattle.std.proofs.Common.{◌++◌, length, map}
use Rattle.inc_graph.specs.declared.chains.Chain.{Chain}
use Rattle.inc_graph.specs.Chains.{AreChainsByLast}
use Rattle.inc_graph.proofs.graphs.Graph.chains_by_last.Given as goal

-- those made and those left are all
abbrev pub invariant-loop-alloc : goal.invariant-loop-alloc
invariant-loop-alloc l = AreChainsByLast l.self 0 (map (λ (c : Chain). c.edges) l.chains.items ++ l.left.left)

abbrev pub decreases-loop-alloc : goal.decreases-loop-alloc
decreases-loop-alloc l = length l.left.left
