use Rattle.std.proofs.Common.{◌≡◌, ℕ, ◌&&◌, length, nat_lt, take}
use Rattle.std.specs.List.{list_any}
use Rattle.inc_graph.specs.GraphLists.{flag_at, state_defines}
use Rattle.inc_graph.proofs.building.gathering.defined_names.Given as goal

-- the names that the files so far define have their flags
abbrev pub invariant-loop-place : goal.invariant-loop-place
invariant-loop-place l = record {
  long : length l.flags.items ≡ l.count;
  flags : (name : ℕ) → flag_at l.flags.items name ≡ (nat_lt name l.count && list_any (state_defines name) (take l.place l.states));
}
