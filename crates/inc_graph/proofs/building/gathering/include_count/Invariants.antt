use Rattle.std.proofs.Common.{◌≡◌, ◌+◌, ◌≤◌, drop, filter, length}
use Rattle.inc_graph.specs.GraphLists.{is_include}
use Rattle.inc_graph.proofs.building.gathering.include_count.Given as goal

-- those so far are counted
abbrev pub invariant-loop-index : goal.invariant-loop-index
invariant-loop-index l = record {
  counted : l.count + length (filter is_include (drop l.index l.entries)) ≡ length (filter is_include l.entries);
  few : l.count ≤ l.index;
}
