use Rattle.std.proofs.Common.{◌≡◌, take, map, not}
use Rattle.std.specs.Prelude.{◌==◌}
use Rattle.inc_graph.proofs.search.Search.reached.Given as goal

abbrev pub invariant-loop-place : goal.invariant-loop-place
invariant-loop-place g l = l.reached.items ≡ take l.place-index (map (λ m. not (m == 0)) l.place-items)
