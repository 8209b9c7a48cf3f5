use Rattle.std.proofs.Common.{◌≡◌, Some, length, map, take}
use Rattle.std.specs.Prelude.{slice_get}
use Rattle.inc_graph.specs.Views.{numbered}
use Rattle.inc_answers.proofs.edges.edges_found.Given as goal

-- those so far are looked up
abbrev pub invariant-loop-i : goal.invariant-loop-i
invariant-loop-i l = record {
  many : length l.found ≡ 32;
  found : map (λ i. slice_get (numbered l.graph.edges) i) (take l.i l.edges) ≡ map (λ e. Some e) (take l.i l.found);
}
