use Rattle.std.proofs.Common.{◌<◌, length}
use Rattle.std.specs.List.{All}
use Rattle.inc_graph.specs.declared.fixed.Counted.{Counted}
use Rattle.tests_calls.proofs.cuts.counted_in.Given as goal

-- the graph has all edges of the chains
abbrev pub invariant-loop-index : goal.invariant-loop-index
invariant-loop-index l = All (λ (c : Counted). All (λ i. i < length l.fn.graph.edges) c.chain.edges) l.list.items
