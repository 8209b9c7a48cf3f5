use Rattle.std.proofs.Common.{◌≡◌, [], map, replicate}
use Rattle.inc_graph.proofs.building.closures.empty_lists.Given as goal

-- so many so far
abbrev pub invariant-loop-path : goal.invariant-loop-path
invariant-loop-path l = map (λ v. v.items) l.lists.items ≡ replicate l._path []
