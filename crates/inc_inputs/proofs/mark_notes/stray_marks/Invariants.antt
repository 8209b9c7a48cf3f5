use Rattle.std.proofs.Common.{◌≡◌, ◌≤◌, ◌-◌, drop, length}
use Rattle.inc_inputs.specs.BuildNotes.{none, with_lines}
use Rattle.inc_inputs.specs.MarkNotes.{stray_lines}
use Rattle.inc_inputs.specs.Views.{notes_in}
use Rattle.inc_inputs.proofs.mark_notes.stray_marks.Given as goal

-- the notes so far become all with those of the rest
abbrev pub invariant-loop-at : goal.invariant-loop-at
invariant-loop-at l = record {
  within : l.at ≤ length l.marks;
  notes : with_lines (notes_in l.strays.notes) (stray_lines l.project l.option l.strays.line (drop l.at l.marks))
      ≡ with_lines none (stray_lines l.project l.option l.first l.marks);
}

abbrev pub decreases-loop-at : goal.decreases-loop-at
decreases-loop-at l = length l.marks - l.at
