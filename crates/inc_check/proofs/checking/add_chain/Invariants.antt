use Rattle.std.proofs.Common.{List, take}
use Rattle.inc_check.specs.Checking.{IsFitted, IsSummed, IsSumming}
use Rattle.inc_check.specs.declared.certificates.CountedMarks.{CountedMarks}
use Rattle.inc_check.proofs.checking.add_chain.Given as goal

-- the marks so far are gone along
abbrev pub invariant-loop-index : goal.invariant-loop-index
invariant-loop-index l =
    IsFitted l.graph l.sums
    × ((chains : List CountedMarks) → IsSummed l.project l.graph chains l.fn.sums → IsSumming l.project l.graph chains l.chain.count (take l.index l.marks) l.sums)
