use Rattle.std.proofs.Common.{◌-◌}
use Rattle.inc_graph.specs.Distances.{IsSearchBack}
use Rattle.inc_graph.proofs.chains.distances.search_back.Given as goal

-- the edges that lead to so many files of the queue are followed back
abbrev pub invariant-loop-taken : goal.invariant-loop-taken
invariant-loop-taken l = IsSearchBack l.graph l.search l.taken

abbrev pub decreases-loop-taken : goal.decreases-loop-taken
decreases-loop-taken l = 65_536 - l.taken
