use Rattle.std.proofs.Common.{◌≡◌, ◌-◌, ◌≤◌, ◌++◌, List, drop, length, map, take}
use Rattle.inc_graph.specs.MissingLists.{Missing}
use Rattle.inc_answers.specs.MissingNames.{MissingName, with_name}
use Rattle.inc_answers.specs.Views.{seen_name}
use Rattle.inc_answers.proofs.missing_names.place_of.Given as goal

-- those so far are named as often or more often
abbrev pub invariant-loop-place : goal.invariant-loop-place
invariant-loop-place l = record {
  bound : l.place ≤ length l.names;
  place : (ms : List Missing) (n : MissingName) → n.count ≡ l.count →
      with_name (map (seen_name ms) l.names) n ≡ take l.place (map (seen_name ms) l.names) ++ with_name (drop l.place (map (seen_name ms) l.names)) n;
}

abbrev pub decreases-loop-place : goal.decreases-loop-place
decreases-loop-place l = length l.names - l.place
