use Rattle.std.proofs.Common.{◌≡◌, ◌-◌, drop, length}
use Rattle.inc_inputs.proofs.CommonLemmas.{shared}
use Rattle.inc_inputs.proofs.build_paths.common_end.Given as goal

-- what is left of both leads to where all of them does
abbrev pub invariant-loop-at : goal.invariant-loop-at
invariant-loop-at l = shared l.at l.end (drop l.at l.a) (drop l.at l.b) ≡ shared 0 0 l.a l.b

abbrev pub decreases-loop-at : goal.decreases-loop-at
decreases-loop-at l = length l.a - l.at
