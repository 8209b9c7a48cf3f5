use Rattle.std.proofs.Common.{◌≡◌, ◌≤◌, ◌-◌, codes, drop, length}
use Rattle.inc_graph.specs.MarkedEdges.{marks_of_costs}
use Rattle.inc_inputs.specs.BuildNotes.{none, with_lines}
use Rattle.inc_inputs.specs.MarkNotes.{stray_lines}
use Rattle.inc_inputs.specs.Views.{notes_in}
use Rattle.inc_inputs.proofs.mark_notes.stray_costs.Given as goal

-- the notes so far become all with those of the rest
abbrev pub invariant-loop-at : goal.invariant-loop-at
invariant-loop-at l = record {
  within : l.at ≤ length l.costs;
  notes : with_lines (notes_in l.strays.notes) (stray_lines l.project (codes "--costs") l.strays.line (marks_of_costs (drop l.at l.costs)))
      ≡ with_lines none (stray_lines l.project (codes "--costs") 1 (marks_of_costs l.costs));
}

abbrev pub decreases-loop-at : goal.decreases-loop-at
decreases-loop-at l = length l.costs - l.at
