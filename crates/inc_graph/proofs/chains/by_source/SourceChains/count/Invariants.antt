use Rattle.std.proofs.Common.{◌≡◌, ◌≤◌, ◌+◌, ◌-◌, length}
use Rattle.inc_graph.specs.Distances.{reaching_from}
use Rattle.inc_graph.proofs.chains.by_source.SourceChains.count.Given as goal

-- those counted and those to come are all
abbrev pub invariant-loop-after : goal.invariant-loop-after
invariant-loop-after l =
    let s = l.self-inside in
    (l.count ≤ l.at) × (length l.self.left ≡ l.count + length (reaching_from s.graph.now s.distances.items s.steps.items l.at))

abbrev pub decreases-loop-after : goal.decreases-loop-after
decreases-loop-after l = length l.self-inside.graph.now.sources - l.at
