use Rattle.std.proofs.Common.{◌≡◌, None, take}
use Rattle.std.specs.Prelude.{slice_index_or}
use Rattle.std.specs.List.{slice_set}
use Rattle.inc_graph.specs.Nexts.{nexts_found, with_nexts}
use Rattle.inc_graph.specs.Places.{Reaches}
use Rattle.inc_graph.proofs.building.closures.follow_nexts.Given as goal

-- those so far are followed
abbrev pub invariant-loop-next : goal.invariant-loop-next
invariant-loop-next l = record {
  files : l.places.files ≡ l.initial.places.files;
  places : Reaches l.initial.places.found (nexts_found l.at.next (take l.next-index l.nexts)) l.places.found;
  states : l.states ≡ slice_set l.initial.states l.at.file (with_nexts l.at.next (slice_index_or l.initial.states l.at.file None) (take l.next-index l.nexts));
}
