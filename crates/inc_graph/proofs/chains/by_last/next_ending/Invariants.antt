use Rattle.std.proofs.Common.{◌≡◌, ◌≤◌, length, ◌-◌}
use Rattle.inc_graph.specs.BreadthFirst.{chains_ending}
use Rattle.inc_graph.proofs.chains.by_last.next_ending.Given as goal

-- the edges that were looked at end no chain
abbrev pub invariant-loop-at : goal.invariant-loop-at
invariant-loop-at l = (l.next ≤ l.at) × (chains_ending l.graph l.search l.next ≡ chains_ending l.graph l.search l.at)

abbrev pub decreases-loop-at : goal.decreases-loop-at
decreases-loop-at l = length l.edges - l.at
