use Rattle.std.proofs.Common.{length}
use Rattle.tests_calls.proofs.looking.+is_way.Given as goal

abbrev pub decreases-is_way : goal.decreases-is_way
decreases-is_way l = length l.path.now
