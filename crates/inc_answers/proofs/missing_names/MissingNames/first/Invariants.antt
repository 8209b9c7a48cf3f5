use Rattle.std.proofs.Common.{◌≡◌, ℕ, List, [], map, take}
use Rattle.std.specs.Prelude.{fold}
use Rattle.inc_graph.specs.MissingLists.{Missing}
use Rattle.inc_answers.specs.MissingNames.{with_name}
use Rattle.inc_answers.specs.Views.{AreWithin, seen_name}
use Rattle.inc_answers.proofs.missing_names.MissingNames.first.Given as goal

-- the first of those so far
abbrev pub invariant-loop-name : goal.invariant-loop-name
invariant-loop-name l = record {
  names : (ms : List Missing) → map (seen_name ms) l.first.items ≡ take 10 (fold with_name [] (map (seen_name ms) (take l.name-index l.self.names.items)));
  within : (count : ℕ) → AreWithin count l.self.names.items → AreWithin count l.first.items;
}
