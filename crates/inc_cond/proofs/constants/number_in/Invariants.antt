use Rattle.std.proofs.Common.{◌≡◌, ◌+◌, ◌*◌, ◌^◌, ◌<◌, length}
use Rattle.std.specs.Prelude.{fold}
use Rattle.inc_cond.specs.Constants.{digit_of, number_in}
use Rattle.inc_cond.proofs.constants.number_in.Given as goal

-- what the digits that are left make of the number so far
abbrev pub invariant-loop-left : goal.invariant-loop-left
invariant-loop-left l = (l.number < 2 ^ 64) × (fold (λ n b. n * l.base + digit_of b) l.number l.left ≡ number_in l.base l.digits)

abbrev pub decreases-loop-left : goal.decreases-loop-left
decreases-loop-left l = length l.left
