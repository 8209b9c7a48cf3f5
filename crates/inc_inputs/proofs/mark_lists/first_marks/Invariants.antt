use Rattle.std.proofs.Common.{◌≡◌, ◌+◌, ◌≤◌, length, drop}
use Rattle.inc_inputs.specs.MarkLists.{first_marks, lines_of, with_marks}
use Rattle.inc_inputs.proofs.mark_lists.first_marks.Given as goal

-- the marks so far, and then those of the lines that are wanted yet, are those that are wanted
abbrev pub invariant-loop-left : goal.invariant-loop-left
invariant-loop-left l = record {
  within : l.at ≤ length l.text;
  lines : l.line ≤ l.at + 2;
  marks : first_marks l.count 2 (lines_of l.text) ≡ with_marks l.marks.items (first_marks l.left l.line (lines_of (drop l.at l.text)));
}

abbrev pub decreases-loop-left : goal.decreases-loop-left
decreases-loop-left l = l.left
