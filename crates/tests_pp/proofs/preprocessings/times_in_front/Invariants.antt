use Rattle.std.proofs.Common.{length, ◌-◌, ◌≤◌}
use Rattle.tests_pp.proofs.preprocessings.times_in_front.Given as goal

abbrev pub invariant-loop-times : goal.invariant-loop-times
invariant-loop-times l = l.times ≤ length l.reads

abbrev pub decreases-loop-times : goal.decreases-loop-times
decreases-loop-times l = length l.reads - l.times
