use Rattle.std.proofs.Common.{ℕ, ◌≤◌, List, length, take}
use Rattle.std.specs.List.{All}
use Rattle.inc_lookup.proofs.path_lists.longest_key.Given as goal

-- no path so far is longer
abbrev pub invariant-loop-index : goal.invariant-loop-index
invariant-loop-index l = All (λ (p : List ℕ). length p ≤ l.longest) (take l.index l.table.keys)
