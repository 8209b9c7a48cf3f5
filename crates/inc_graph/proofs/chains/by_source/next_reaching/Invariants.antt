use Rattle.std.proofs.Common.{◌≡◌, ◌≤◌, ℕ, List, length, ◌-◌}
use Rattle.inc_graph.specs.Distances.{reaching_from}
use Rattle.inc_graph.proofs.chains.by_source.next_reaching.Given as goal

-- the sources that were looked at reach no header
abbrev pub invariant-loop-at : goal.invariant-loop-at
invariant-loop-at l = (l.next ≤ l.at) × ((steps : List ℕ) → reaching_from l.graph l.distances steps l.next ≡ reaching_from l.graph l.distances steps l.at)

abbrev pub decreases-loop-at : goal.decreases-loop-at
decreases-loop-at l = length l.sources - l.at
