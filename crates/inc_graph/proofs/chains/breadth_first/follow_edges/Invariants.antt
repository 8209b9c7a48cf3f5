use Rattle.std.proofs.Common.{◌≡◌, take}
use Rattle.inc_graph.specs.BreadthFirst.{edge_next}
use Rattle.inc_graph.specs.Search.{with_candidates}
use Rattle.inc_graph.proofs.chains.breadth_first.follow_edges.Given as goal

-- the edges so far are followed
abbrev pub invariant-loop-edge : goal.invariant-loop-edge
invariant-loop-edge l = l.search ≡ with_candidates edge_next l.place l.initial.search (take l.edge-index l.edge-items)
