use Rattle.std.proofs.Common.{◌≡◌, ℕ, true, length, take}
use Rattle.std.specs.Prelude.{if◌then◌else◌, map}
use Rattle.std.specs.List.{list_any}
use Rattle.inc_graph.specs.Cuts.{are_amounts}
use Rattle.inc_graph.specs.IncludeGraph.{Edge}
use Rattle.inc_graph.specs.Marks.{Mark}
use Rattle.inc_graph.specs.MarkedEdges.{names_edge}
use Rattle.inc_graph.specs.Near.{IsNear}
use Rattle.inc_graph.proofs.fixing.fix_marks.Given as goal

-- the marks so far are fixed
abbrev pub invariant-loop-index : goal.invariant-loop-index
invariant-loop-index l = record {
  near : IsNear l.graph.files l.near;
  long : length l.amounts.items ≡ length l.graph.edges;
  are : (f : Edge → ℕ) → l.initial.amounts.items ≡ map f l.graph.edges →
      l.amounts.items ≡ map (λ (e : Edge). if list_any (λ (m : Mark). names_edge l.project m e) (take l.index l.marks) then 0 else f e) l.graph.edges;
  within : are_amounts l.initial.amounts.items ≡ true → are_amounts l.amounts.items ≡ true;
}
