use Rattle.std.proofs.Common.{◌≡◌, take}
use Rattle.inc_graph.specs.Distances.{back_next}
use Rattle.inc_graph.specs.Search.{with_candidates}
use Rattle.inc_graph.proofs.chains.distances.follow_back.Given as goal

-- the edges so far are followed back
abbrev pub invariant-loop-edge : goal.invariant-loop-edge
invariant-loop-edge l = l.search ≡ with_candidates (back_next l.graph) l.place l.initial.search (take l.edge-index l.edge-items)
