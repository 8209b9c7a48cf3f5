use Rattle.std.proofs.Common.{◌≡◌, [], map, take}
use Rattle.inc_graph.specs.IncludeGraph.{as_source}
use Rattle.inc_graph.specs.Places.{Reaches}
use Rattle.inc_graph.proofs.building.places.Places.start.Given as goal

-- the sources so far are reached
abbrev pub invariant-loop-source : goal.invariant-loop-source
invariant-loop-source l = record {
  files : l.places.files ≡ l.fn.files;
  found : Reaches [] (map as_source (take l.source-index l.sources)) l.places.found;
}
