use Rattle.std.proofs.Common.{◌≡◌, ℕ, length}
use Rattle.inc_graph.specs.Distances.{distance, distance_before}
use Rattle.inc_graph.specs.Search.{place_of}
use Rattle.inc_graph.proofs.chains.distances.distances_of.Given as goal

-- the distances of the files so far
abbrev pub invariant-loop-visit : goal.invariant-loop-visit
invariant-loop-visit l = record {
  long : length l.distances.items ≡ l.graph.files;
  so_far : (f : ℕ) → distance l.distances.items f ≡ distance_before l.search l.visit-index (place_of l.search f);
}
