use Rattle.std.proofs.Common.{take}
use Rattle.inc_check.specs.Checking.{IsFitted, IsSummed}
use Rattle.inc_check.proofs.checking.sums_of.Given as goal

-- the chains so far are added
abbrev pub invariant-loop-index : goal.invariant-loop-index
invariant-loop-index l = IsFitted l.graph l.sums × IsSummed l.project l.graph (take l.index l.chains) l.sums
