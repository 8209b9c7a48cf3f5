use Rattle.std.proofs.Common.{◌≡◌, ◌+◌, ◌≤◌, drop, filter, length}
use Rattle.inc_graph.specs.Views.{seen_parts}
use Rattle.inc_graph.specs.GraphLists.{AreNumbered, flag_at, is_include, with_entries}
use Rattle.inc_graph.proofs.building.gathering.add_entries.Given as goal

-- what the entries left add to the lists is what all of them add to the first lists
abbrev pub invariant-loop-index : goal.invariant-loop-index
invariant-loop-index l = record {
  lists : with_entries (flag_at l.defined) l.file (seen_parts l.parts) (drop l.index l.entries) ≡ with_entries (flag_at l.defined) l.file (seen_parts l.initial.parts) l.entries;
  numbers : AreNumbered l.parts;
  long : length l.parts.edges.items + length (filter is_include (drop l.index l.entries)) ≤ length l.initial.parts.edges.items + length (filter is_include l.entries);
}
