use Rattle.std.proofs.Common.{◌≡◌, ℕ, true, length}
use Rattle.std.specs.Prelude.{map}
use Rattle.inc_graph.specs.Cuts.{are_amounts}
use Rattle.inc_graph.specs.IncludeGraph.{Edge}
use Rattle.inc_graph.specs.KeptEdges.{kept_up_to}
use Rattle.inc_graph.proofs.kept_edges.keep_edges.Given as goal

-- the edges so far are gone over
abbrev pub invariant-loop-index : goal.invariant-loop-index
invariant-loop-index l = record {
  long : length l.amounts.items ≡ length l.graph.edges;
  are : (f : Edge → ℕ) → l.initial.amounts.items ≡ map f l.graph.edges → l.amounts.items ≡ kept_up_to l.kept f l.graph.edges l.index;
  within : are_amounts l.initial.amounts.items ≡ true → are_amounts l.amounts.items ≡ true;
}
