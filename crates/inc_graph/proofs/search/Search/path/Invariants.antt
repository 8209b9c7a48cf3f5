use Rattle.std.proofs.Common.{◌≡◌, ◌<◌, ◌++◌, length, reverse}
use Rattle.inc_graph.specs.Search.{path_to}
use Rattle.inc_graph.proofs.search.Search.path.Given as goal

-- the steps so far, from the last one on, go on from the path to the file that they have led back to
abbrev pub invariant-loop-parent : goal.invariant-loop-parent
invariant-loop-parent g l = record {
  within : l.at < length l.self-inside.queue.items;
  so_far : path_to l.self-inside.queue.items l.fn.place ≡ path_to l.self-inside.queue.items l.at ++ reverse l.steps.items;
}

abbrev pub decreases-loop-parent : goal.decreases-loop-parent
decreases-loop-parent g l = l.at
