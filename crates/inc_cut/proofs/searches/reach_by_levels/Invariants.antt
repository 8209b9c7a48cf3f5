use Rattle.std.proofs.Common.{◌-◌}
use Rattle.inc_cut.specs.Searches.{AreLevels}
use Rattle.inc_cut.proofs.searches.reach_by_levels.Given as goal

-- the steps from so many files of the queue are taken
abbrev pub invariant-loop-taken : goal.invariant-loop-taken
invariant-loop-taken g l = AreLevels l.graph (g.T.StepTest.passes l.test) l.search l.taken

abbrev pub decreases-loop-taken : goal.decreases-loop-taken
decreases-loop-taken g l = 65_536 - l.taken
