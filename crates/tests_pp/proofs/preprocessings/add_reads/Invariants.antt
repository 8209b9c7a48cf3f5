use Rattle.std.proofs.Common.{length, ◌-◌}
use Rattle.tests_pp.proofs.preprocessings.add_reads.Given as goal

abbrev pub decreases-loop-at : goal.decreases-loop-at
decreases-loop-at l = length l.reads - l.at
