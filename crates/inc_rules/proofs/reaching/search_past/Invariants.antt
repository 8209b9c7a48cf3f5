use Rattle.std.proofs.Common.{◌-◌}
use Rattle.inc_rules.specs.Reaching.{IsBegun}
use Rattle.inc_rules.proofs.reaching.search_past.Given as goal

-- so many of the files that are reached are done
abbrev pub invariant-loop-taken : goal.invariant-loop-taken
invariant-loop-taken l = IsBegun l.graph l.flags l.from l.search l.taken

abbrev pub decreases-loop-taken : goal.decreases-loop-taken
decreases-loop-taken l = 65_536 - l.taken
