use Rattle.std.proofs.Common.{◌≤◌, length, drop}
use Rattle.inc_expand.specs.Joins.{tokens_in}
use Rattle.inc_expand.specs.Puts.{IsPut}
use Rattle.inc_expand.proofs.puts.put_segments.Given as goal

abbrev pub invariant-loop-i : goal.invariant-loop-i
invariant-loop-i l = (l.i ≤ length l.segments) × IsPut l.rule l.fn.sets l.sets l.line l.names (tokens_in (drop l.i l.segments)) l.fn.list l.list

abbrev pub decreases-loop-i : goal.decreases-loop-i
decreases-loop-i l = l.i
