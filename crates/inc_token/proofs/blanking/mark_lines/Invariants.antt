use Rattle.std.proofs.Common.{take}
use Rattle.inc_token.specs.BlankingSteps.{AreMarks}
use Rattle.inc_token.proofs.blanking.mark_lines.Given as goal

abbrev pub invariant-loop-line : goal.invariant-loop-line
invariant-loop-line l = AreMarks (take l.line-index l.lines) l.last l.marks.items
