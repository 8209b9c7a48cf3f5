use Rattle.std.proofs.Common.{get_or, refl}
use Rattle.inc_inputs.proofs.NamedParts.{marks_next}
use Rattle.inc_inputs.proofs.named_marks.push_lines.Goals as goal

pub loop-line-preserved : goal.loop-line-preserved
loop-line-preserved c =
    marks_next c.args.path.now c.args.lines.now c.loop-line.line-index 0 c.args.marks.now.items c.loop-line.marks.items _ c.loop-line-test.true
    c.loop-line.invariant c.in_ok-push_mark.ensures
