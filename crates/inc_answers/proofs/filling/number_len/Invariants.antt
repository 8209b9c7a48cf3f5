use Rattle.std.proofs.Common.{◌≡◌, ◌+◌, length}
use Rattle.std.specs.Prelude.{decimal}
use Rattle.inc_answers.proofs.filling.number_len.Given as goal

-- the last digits are counted
abbrev pub invariant-loop-left : goal.invariant-loop-left
invariant-loop-left l = length (decimal l.n) ≡ l.passed + length (decimal l.left)

abbrev pub decreases-loop-left : goal.decreases-loop-left
decreases-loop-left l = l.left
