use Rattle.std.proofs.Common.{length, ◌-◌}
use Rattle.inc_text.specs.declared.origins.Origin.{Origin}
use Rattle.inc_text.specs.Origins.{Behind}
use Rattle.inc_text.proofs.origins.origins_on.Given as goal

abbrev pub invariant-loop-passed : goal.invariant-loop-passed
invariant-loop-passed l = Behind (λ (m : Origin). m.at) l.place l.origins l.passed

abbrev pub decreases-loop-passed : goal.decreases-loop-passed
decreases-loop-passed l = length l.origins - l.passed
