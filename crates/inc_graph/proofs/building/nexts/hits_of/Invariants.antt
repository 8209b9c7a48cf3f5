use Rattle.std.proofs.Common.{◌≡◌, ◌≤◌, ◌++◌, length}
use Rattle.std.specs.Prelude.{IfSome}
use Rattle.inc_graph.specs.Nexts.{hits_from}
use Rattle.inc_graph.proofs.HitLemmas.{hits_left, hits_measure}
use Rattle.inc_graph.proofs.building.nexts.hits_of.Given as goal

-- those so far, and those that are left
abbrev pub invariant-loop-left : goal.invariant-loop-left
invariant-loop-left l = record {
  all : l.hits.items ++ hits_left l.lookup l.name l.left ≡ hits_from l.lookup l.name 0;
  within : IfSome l.left (λ k. k ≤ length l.lookup.search.dirs);
}

abbrev pub decreases-loop-left : goal.decreases-loop-left
decreases-loop-left l = hits_measure (length l.lookup.search.dirs) l.left
