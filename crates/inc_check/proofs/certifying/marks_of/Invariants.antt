use Rattle.std.proofs.Common.{◌≡◌, true, take}
use Rattle.inc_check.specs.Certificates as spec
use Rattle.inc_check.specs.Texts.{are_short_marks}
use Rattle.inc_check.proofs.certifying.marks_of.Given as goal

-- the marks so far
abbrev pub invariant-loop-edge : goal.invariant-loop-edge
invariant-loop-edge l = record {
  marks : l.marks.items ≡ spec.marks_of l.project l.graph (take l.edge-index l.edges);
  short : are_short_marks l.marks.items ≡ true;
}
