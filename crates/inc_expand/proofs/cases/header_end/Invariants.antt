use Rattle.std.proofs.Common.{◌≡◌, ◌+◌, drop}
use Rattle.inc_expand.specs.Sets.{Sets}
use Rattle.inc_expand.specs.Expansion.{through_close}
use Rattle.inc_expand.specs.Carriers.{carriers}
use Rattle.inc_expand.proofs.cases.header_end.Given as goal

abbrev pub invariant-loop-at : goal.invariant-loop-at
invariant-loop-at l = (s : Sets) → l.from + through_close (carriers s (drop l.from l.list)) ≡ l.at + through_close (carriers s (drop l.at l.list))
