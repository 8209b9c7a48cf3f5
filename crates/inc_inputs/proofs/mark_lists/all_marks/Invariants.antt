use Rattle.std.proofs.Common.{◌≡◌, ◌+◌, ◌-◌, ◌≤◌, length, drop}
use Rattle.inc_inputs.specs.MarkLists.{lines_of, marks_from, with_marks}
use Rattle.inc_inputs.proofs.mark_lists.all_marks.Given as goal

-- the marks so far, and then those of what is left, are those of the text
abbrev pub invariant-loop-end : goal.invariant-loop-end
invariant-loop-end l = record {
  within : l.at ≤ length l.text;
  lines : l.line ≤ l.at + 1;
  marks : marks_from 1 (lines_of l.text) ≡ with_marks l.marks.items (marks_from l.line (lines_of (drop l.at l.text)));
}

abbrev pub decreases-loop-end : goal.decreases-loop-end
decreases-loop-end l = length l.text - l.at
