use Rattle.std.proofs.Common.{◌≡◌, None, take}
use Rattle.std.specs.Prelude.{slice_index_or}
use Rattle.std.specs.List.{slice_set}
use Rattle.inc_graph.specs.Nexts.{directs_found, with_directs}
use Rattle.inc_graph.specs.Places.{Reaches}
use Rattle.inc_graph.proofs.building.closures.follow_directs.Given as goal

-- those so far are followed
abbrev pub invariant-loop-place : goal.invariant-loop-place
invariant-loop-place l = record {
  files : l.places.files ≡ l.initial.places.files;
  places : Reaches l.initial.places.found (directs_found l.lookup l.at (take l.place l.directs)) l.places.found;
  states : l.states ≡ slice_set l.initial.states l.at.file (with_directs l.lookup l.at (slice_index_or l.initial.states l.at.file None) (take l.place l.directs));
}
