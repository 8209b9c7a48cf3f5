use Rattle.std.proofs.Common.{◌≡◌, ◌≤◌, length}
use Rattle.inc_graph.specs.Distances.{AreStepsFrom}
use Rattle.inc_graph.proofs.chains.distances.first_steps.Given as goal

-- the first steps over the edges from this one on
abbrev pub invariant-loop-first : goal.invariant-loop-first
invariant-loop-first l = record {
  long : length l.steps.items ≡ l.graph.files;
  within : l.first ≤ length l.edges;
  steps : AreStepsFrom l.graph l.distances l.first l.steps.items;
}

abbrev pub decreases-loop-first : goal.decreases-loop-first
decreases-loop-first l = l.first
