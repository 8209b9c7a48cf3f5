use Rattle.std.proofs.Common.{◌≡◌, ℕ, ◌+◌, ◌-◌, ◌<◌, ◌≤◌, false, get_or}
use Rattle.inc_lookup.specs.SimpleNames.{breaks}
use Rattle.inc_lookup.proofs.simple_names.goes_on.Given as goal

-- no byte so far breaks
abbrev pub invariant-loop-at : goal.invariant-loop-at
invariant-loop-at l = (k : ℕ) → l.from ≤ k → k < l.at → breaks (get_or l.name k 0) (get_or l.name (k + 1) 0) ≡ false

abbrev pub decreases-loop-at : goal.decreases-loop-at
decreases-loop-at l = l.last - l.at
