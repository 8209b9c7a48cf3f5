use Rattle.std.proofs.Common.{◌≡◌, ◌≤◌, ◌+◌, ◌-◌, length}
use Rattle.inc_graph.specs.BreadthFirst.{chains_ending}
use Rattle.inc_graph.proofs.chains.by_last.ShortestChains.count.Given as goal

-- those counted and those to come are all
abbrev pub invariant-loop-ending : goal.invariant-loop-ending
invariant-loop-ending l =
    let s = l.self-inside in
    (l.count ≤ l.at) × (length l.self.left ≡ l.count + length (chains_ending s.graph.now s.search l.at))

abbrev pub decreases-loop-ending : goal.decreases-loop-ending
decreases-loop-ending l = length l.self-inside.graph.now.edges - l.at
