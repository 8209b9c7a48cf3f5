use Rattle.std.proofs.Common.{◌≡◌, ◌++◌, ◌+◌, ◌-◌, ◌≤◌, length, drop}
use Rattle.inc_check.specs.Texts.{lines_text, mark_lines}
use Rattle.inc_check.proofs.MarksFormats.{AreSmall}
use Rattle.inc_check.proofs.read_texts.read_marks.Given as goal

-- the marks so far are those of the lines before
abbrev pub invariant-loop-length : goal.invariant-loop-length
invariant-loop-length l = record {
  within : l.at ≤ length l.text;
  low : l.line ≤ l.at + 1;
  read : l.text ≡ lines_text (mark_lines l.marks.items) ++ drop l.at l.text;
  small : AreSmall l.marks.items;
  counted : l.line ≡ 1 + length l.marks.items;
}

abbrev pub decreases-loop-length : goal.decreases-loop-length
decreases-loop-length l = length l.text - l.at
