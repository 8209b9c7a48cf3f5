use Rattle.std.proofs.Common.{◌≤◌, length, drop}
use Rattle.inc_expand.specs.Puts.{IsUnion, IsPut}
use Rattle.inc_expand.proofs.puts.put_carried.Given as goal

abbrev pub invariant-loop-i : goal.invariant-loop-i
invariant-loop-i l = (l.i ≤ length l.tokens) × IsPut l.rule l.fn.sets l.sets l.line l.names (drop l.i l.tokens) l.fn.list l.list × IsUnion l.sets l.names l.last

abbrev pub decreases-loop-i : goal.decreases-loop-i
decreases-loop-i l = l.i
