use Rattle.std.proofs.Common.{◌-◌}
use Rattle.inc_check.proofs.ReachLemmas.{IsReach}
use Rattle.inc_check.proofs.checking.reaching.is_header_reached.Given as goal

-- so many of the files that are reached are done
abbrev pub invariant-loop-taken : goal.invariant-loop-taken
invariant-loop-taken l = IsReach l.graph l.set l.search l.taken

abbrev pub decreases-loop-taken : goal.decreases-loop-taken
decreases-loop-taken l = l.graph.files - l.taken
