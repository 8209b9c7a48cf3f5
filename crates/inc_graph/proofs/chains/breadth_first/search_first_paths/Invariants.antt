use Rattle.std.proofs.Common.{◌-◌}
use Rattle.inc_graph.specs.BreadthFirst.{IsFirstPaths}
use Rattle.inc_graph.proofs.chains.breadth_first.search_first_paths.Given as goal

-- the edges from so many files of the queue are followed
abbrev pub invariant-loop-taken : goal.invariant-loop-taken
invariant-loop-taken l = IsFirstPaths l.graph l.search l.taken

abbrev pub decreases-loop-taken : goal.decreases-loop-taken
decreases-loop-taken l = 65_536 - l.taken
