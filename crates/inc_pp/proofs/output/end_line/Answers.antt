use Rattle.std.proofs.Common.{arith}
use Rattle.inc_pp.proofs.Prints.{set-ended}
use Rattle.inc_pp.proofs.output.end_line.Goals as goal

pub returns-then-end-gt0 : goal.returns-then-end-gt0
returns-then-end-gt0 c = let l = c.len-end.ensures in set-ended _ _ c.args.text.now.items (omega (arith, l, c.if-end-gt0.true))
