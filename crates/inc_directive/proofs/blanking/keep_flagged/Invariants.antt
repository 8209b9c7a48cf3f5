use Rattle.std.proofs.Common.{◌≡◌, filter, take}
use Rattle.inc_text.specs.Flags.{flag_at}
use Rattle.inc_directive.proofs.blanking.keep_flagged.Given as goal

abbrev pub invariant-loop-number : goal.invariant-loop-number
invariant-loop-number l = l.kept.items ≡ filter (flag_at l.flags) (take l.number-index l.numbers)
