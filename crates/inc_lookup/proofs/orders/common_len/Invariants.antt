use Rattle.std.proofs.Common.{◌≡◌, ℕ, ◌+◌, ◌-◌, ◌<◌, ◌≤◌, get_or}
use Rattle.inc_lookup.proofs.orders.common_len.Given as goal

-- the paths are equal so far
abbrev pub invariant-loop-at : goal.invariant-loop-at
invariant-loop-at l = record {
  within : l.at ≤ l.last + 16;
  same : (k : ℕ) → k < l.at → get_or l.path k 0 ≡ get_or l.other k 0;
}

abbrev pub decreases-loop-at : goal.decreases-loop-at
decreases-loop-at l = l.last - l.at
