use Rattle.std.proofs.Common.{◌≡◌, ◌++◌, drop, map, slice_index_or}
use Rattle.inc_rules.proofs.reach.whole_chain.Given as goal

-- the numbers so far, and those of the edges that are left, are all
abbrev pub invariant-loop-edge : goal.invariant-loop-edge
invariant-loop-edge l = map (λ i. slice_index_or l.numbers i 0) l.edges ≡ l.chain.items ++ map (λ i. slice_index_or l.numbers i 0) (drop l.edge-index l.edges)
