use Rattle.std.proofs.Common.{◌≤◌, Bor, List, ℕ, length, take}
use Rattle.std.specs.List.{All}
use Rattle.inc_lookup.proofs.path_lists.RisingPaths.longest.Given as goal

-- no path so far is longer
abbrev pub invariant-loop-path : goal.invariant-loop-path
invariant-loop-path l = All (λ (p : Bor (List ℕ)). length p.now ≤ l.longest) (take l.path-index l.path-items)
