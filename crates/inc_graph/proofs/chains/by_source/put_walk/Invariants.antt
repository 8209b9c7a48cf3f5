use Rattle.std.proofs.Common.{◌≡◌, length}
use Rattle.inc_graph.proofs.NearestWalks.{IsWalking}
use Rattle.inc_graph.proofs.chains.by_source.put_walk.Given as goal

-- the edges so far are put
abbrev pub invariant-loop-place : goal.invariant-loop-place
invariant-loop-place l = record {
  walking : IsWalking l.graph l.distances l.steps l.fn.start l.edges.items l.place l.file;
  long : length l.edges.items ≡ length l.initial.edges.items;
}
