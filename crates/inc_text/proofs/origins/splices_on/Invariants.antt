use Rattle.std.proofs.Common.{ℕ, length, ◌-◌}
use Rattle.inc_text.specs.Origins.{Behind}
use Rattle.inc_text.proofs.origins.splices_on.Given as goal

abbrev pub invariant-loop-passed : goal.invariant-loop-passed
invariant-loop-passed l = Behind (λ (s : ℕ). s) l.place l.splices l.passed

abbrev pub decreases-loop-passed : goal.decreases-loop-passed
decreases-loop-passed l = length l.splices - l.passed
