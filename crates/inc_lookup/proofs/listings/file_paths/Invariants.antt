use Rattle.std.proofs.Common.{map, take}
use Rattle.inc_lookup.specs.Invariants.{AreTabled}
use Rattle.inc_lookup.proofs.listings.file_paths.Given as goal

-- no bad path so far
abbrev pub invariant-loop-index : goal.invariant-loop-index
invariant-loop-index l = AreTabled (map (λ p. p.now) (take l.index l.paths)) l.table.paths l.table.same
