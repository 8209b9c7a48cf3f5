use Rattle.std.proofs.Common.{◌≡◌, ◌<◌, length, map, take}
use Rattle.std.specs.List.{All}
use Rattle.inc_graph.specs.MissingLists.{missing_at}
use Rattle.inc_answers.specs.Strictness.{strays}
use Rattle.inc_answers.proofs.strictness.strays.Given as goal

-- the places are those that no glob so far excepts
abbrev pub invariant-loop-glob : goal.invariant-loop-glob
invariant-loop-glob l = record {
  strays : map (missing_at l.missing) l.places.items ≡ strays (map (λ g. g.now) (take l.glob-index l.globs)) l.missing;
  within : All (λ i. i < length l.missing) l.places.items;
}
