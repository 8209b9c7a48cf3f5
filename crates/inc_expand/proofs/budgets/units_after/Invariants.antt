use Rattle.std.proofs.Common.{◌≡◌, ◌+◌, length, drop}
use Rattle.inc_expand.specs.Joins.{tokens_in}
use Rattle.inc_expand.proofs.budgets.units_after.Given as goal

abbrev pub invariant-loop-segment : goal.invariant-loop-segment
invariant-loop-segment l = l.left + 1 + length (tokens_in l.segments) ≡ l.units + length (tokens_in (drop l.segment-index l.segments))
