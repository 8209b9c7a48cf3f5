use Rattle.std.proofs.Common.{arith}
use Rattle.inc_pp.proofs.Prints.{set-last}
use Rattle.inc_pp.proofs.output.push_text.Goals as goal

pub returns-then-end-gt0-clause-done : goal.returns-then-end-gt0-clause-done
returns-then-end-gt0-clause-done c =
    let l = c.len-end.ensures in
    rw c.separator.ensures (set-last _ _ c.args.text.now.items _ c.push_line.new.text.items (omega (arith, l, c.if-end-gt0.true)) (omega (arith, l)) c.in_ok-push_line.ensures.done)
