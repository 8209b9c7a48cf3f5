use Rattle.std.proofs.Common.{◌≡◌, ◌++◌, ◌-◌, ◌≤◌, length, drop, map}
use Rattle.inc_inputs.specs.Lists.{list_paths}
use Rattle.inc_inputs.proofs.file_lists.list_paths.Given as goal

-- the paths so far, and then those of what is left, are those of the list
abbrev pub invariant-loop-length : goal.invariant-loop-length
invariant-loop-length l = record {
  within : l.at ≤ length l.list;
  paths : list_paths l.end l.list ≡ map (λ p. p.now) l.paths.items ++ list_paths l.end (drop l.at l.list);
}

abbrev pub decreases-loop-length : goal.decreases-loop-length
decreases-loop-length l = length l.list - l.at
