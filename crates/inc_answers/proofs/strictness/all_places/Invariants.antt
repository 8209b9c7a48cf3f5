use Rattle.std.proofs.Common.{◌≡◌, ◌<◌, length, map, take}
use Rattle.std.specs.List.{All}
use Rattle.inc_graph.specs.MissingLists.{missing_at}
use Rattle.inc_answers.proofs.strictness.all_places.Given as goal

-- those so far
abbrev pub invariant-loop-place : goal.invariant-loop-place
invariant-loop-place l = record {
  all : map (missing_at l.missing) l.places.items ≡ take l.place l.missing;
  within : All (λ i. i < length l.missing) l.places.items;
}
