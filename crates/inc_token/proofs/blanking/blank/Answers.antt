use Rattle.std.proofs.Common.{sym, ◌∙◌, map}
use Rattle.inc_token.specs.Views.{seen}
use Rattle.inc_token.proofs.BlankedBytes.{blanked_none, blanked_line_read}
use Rattle.inc_token.proofs.blanking.blank.Goals as goal

pub loop-i-init : goal.loop-i-init
loop-i-init c = c.in_ok-bytes.ensures.items ∙ sym (blanked_none 0 c.args.source.now)

pub loop-i-preserved : goal.loop-i-preserved
loop-i-preserved c =
    rw (c.blank_line.ensures, c.deref.ensures.value)
    (blanked_line_read c.args.remove.now c.last_begin-last.result c.in_ok-marks.marks.items c.args.lines.now
    c.loop-i.i (map seen c.line.result.now) c.args.source.now c.loop-i.bytes.items c.line.ensures
    c.in_ok-marks.ensures c.last_begin-last.ensures c.loop-i.invariant)
