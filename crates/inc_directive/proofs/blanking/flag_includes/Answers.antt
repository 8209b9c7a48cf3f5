use Rattle.std.proofs.Common.{map}
use Rattle.inc_token.specs.Views.{seen}
use Rattle.inc_text.specs.Flags.{flag_at}
use Rattle.inc_directive.proofs.BlankedDirectives.{one_more_line}
use Rattle.inc_directive.proofs.blanking.flag_includes.Goals as goal

pub loop-i-preserved : goal.loop-i-preserved
loop-i-preserved c n =
    one_more_line c.args.language c.args.lines.now c.loop-i.i n (map seen c.line.result.now)
    (flag_at c.flag_include.new.flags.items n) (flag_at c.loop-i.flags.items n)
    c.line.ensures (c.in_ok-flag_include.ensures n) (c.loop-i.invariant n)
