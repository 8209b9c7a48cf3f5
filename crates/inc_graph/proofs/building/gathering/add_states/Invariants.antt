use Rattle.std.proofs.Common.{◌≡◌, ◌+◌, ◌≤◌, length, drop}
use Rattle.inc_graph.specs.IncludeGraph.{most_directives}
use Rattle.inc_graph.specs.Views.{seen_parts}
use Rattle.inc_graph.specs.GraphLists.{AreNumbered, flag_at, total, with_states}
use Rattle.inc_graph.proofs.building.gathering.add_states.Given as goal

-- what the states left add makes of the lists what all of them make of the first lists
abbrev pub invariant-loop-place : goal.invariant-loop-place
invariant-loop-place l = record {
  lists : with_states (flag_at l.defined) (seen_parts l.parts) l.place (drop l.place l.states) ≡ with_states (flag_at l.defined) (seen_parts l.initial.parts) 0 l.states;
  few : length l.parts.edges.items + total (drop l.place l.states) ≤ most_directives;
  numbers : AreNumbered l.parts;
}
