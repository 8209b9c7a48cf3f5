use Rattle.std.proofs.Common.{◌≡◌, ◌≤◌, length, take}
use Rattle.std.specs.Prelude.{map}
use Rattle.inc_graph.specs.Between.{kept_of}
use Rattle.inc_graph.specs.Views.{numbered, seen_edge}
use Rattle.inc_graph.specs.declared.graphs.Edge as declared
use Rattle.inc_graph.proofs.between.edges_before.Given as goal

-- those of the edges so far, which are no more than these
abbrev pub invariant-loop-edge : goal.invariant-loop-edge
invariant-loop-edge l = record {
  are : l.kept.items ≡ numbered (map seen_edge (kept_of l.headers (take l.edge-index l.edges)));
  few : length l.kept.items ≤ l.edge-index;
  numbers : l.numbers.items ≡ map (λ (e : declared.Edge). e.id) (kept_of l.headers (take l.edge-index l.edges));
}
