use Rattle.std.proofs.Common.{◌≡◌, ◌+◌, ◌≤◌, drop}
use Rattle.inc_graph.specs.IncludeGraph.{most_directives}
use Rattle.inc_graph.specs.GraphLists.{total}
use Rattle.inc_graph.proofs.building.gathering.count_directives.Given as goal

abbrev pub invariant-loop-place : goal.invariant-loop-place
invariant-loop-place l = record {
  counted : l.count + total (drop l.place l.states) ≡ total l.states;
  few : l.count ≤ most_directives;
}
