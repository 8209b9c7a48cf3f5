use Rattle.std.proofs.Common.{take}
use Rattle.inc_check.specs.Checking.{IsCutFor, IsCutOf}
use Rattle.inc_check.proofs.checking.cut_of.Given as goal

-- the marks so far are added
abbrev pub invariant-loop-index : goal.invariant-loop-index
invariant-loop-index l = IsCutFor l.graph l.cut × IsCutOf l.project l.graph l.fixed (take l.index l.marks) l.cut
