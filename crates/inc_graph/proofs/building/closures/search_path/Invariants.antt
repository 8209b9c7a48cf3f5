use Rattle.std.proofs.Common.{length, ◌-◌, ◌^◌, ◌≡◌}
use Rattle.inc_graph.proofs.GivenSearch.{IsSearch}
use Rattle.inc_graph.proofs.building.closures.search_path.Given as goal

abbrev pub invariant-loop-taken : goal.invariant-loop-taken
invariant-loop-taken g l = record {
  search : IsSearch g.S.Sources.gives l.initial.sources l.sources l.setting l.headers l.lookup l.from l.initial.known.states l.initial.known.directs
      l.places.found l.known.states l.known.directs l.nexts l.taken;
  files : l.places.files ≡ length l.lookup.paths;
}

abbrev pub decreases-loop-taken : goal.decreases-loop-taken
decreases-loop-taken g l = 2 ^ 32 - l.taken
