use Rattle.std.proofs.Common.{◌≡◌, None, take}
use Rattle.std.specs.Prelude.{position}
use Rattle.inc_graph.specs.MarkedEdges.{is_unknown}
use Rattle.inc_graph.specs.Near.{IsNear}
use Rattle.inc_graph.proofs.fixing.first_unknown.Given as goal

-- none of the marks so far is unknown
abbrev pub invariant-loop-index : goal.invariant-loop-index
invariant-loop-index l = (position (is_unknown l.project l.graph) (take l.index l.marks) ≡ None) × (IsNear l.graph.files l.near)
