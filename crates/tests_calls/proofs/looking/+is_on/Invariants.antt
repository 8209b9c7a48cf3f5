use Rattle.std.proofs.Common.{length}
use Rattle.tests_calls.proofs.looking.+is_on.Given as goal

abbrev pub decreases-is_on : goal.decreases-is_on
decreases-is_on l = length l.path.now
