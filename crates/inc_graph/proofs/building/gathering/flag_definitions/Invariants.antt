use Rattle.std.proofs.Common.{◌≡◌, ℕ, ◌&&◌, ◌||◌, length, nat_lt, take}
use Rattle.std.specs.List.{list_any}
use Rattle.inc_graph.specs.GraphLists.{defines, flag_at}
use Rattle.inc_graph.proofs.building.gathering.flag_definitions.Given as goal

-- those so far have their flags
abbrev pub invariant-loop-index : goal.invariant-loop-index
invariant-loop-index l = record {
  long : length l.flags.items ≡ length l.initial.flags.items;
  flags : (name : ℕ) → flag_at l.flags.items name ≡ (flag_at l.initial.flags.items name || (nat_lt name (length l.initial.flags.items) && list_any (defines name) (take l.index l.entries)));
}
