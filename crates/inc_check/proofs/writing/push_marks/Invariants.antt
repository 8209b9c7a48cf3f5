use Rattle.std.proofs.Common.{◌≡◌, ◌++◌, take}
use Rattle.inc_check.specs.Texts.{lines_text, mark_lines}
use Rattle.inc_check.proofs.writing.push_marks.Given as goal

abbrev pub invariant-loop-mark : goal.invariant-loop-mark
invariant-loop-mark l = l.out.items ≡ l.initial.out.items ++ lines_text (mark_lines (take l.mark-index l.marks))
