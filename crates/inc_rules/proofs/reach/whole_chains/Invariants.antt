use Rattle.std.proofs.Common.{◌≡◌, ◌++◌, ◌<◌, length, map, slice_index_or}
use Rattle.std.specs.List.{All}
use Rattle.inc_graph.specs.Reaching.{Reaching}
use Rattle.inc_rules.proofs.reach.whole_chains.Given as goal

-- the chains so far, and those that are left, are all
abbrev pub invariant-loop-alloc : goal.invariant-loop-alloc
invariant-loop-alloc l = record {
  within : All (λ (x : Reaching). All (λ i. i < length l.numbers) x.chain) l.reaching.left;
  chains : map (λ (x : Reaching). map (λ i. slice_index_or l.numbers i 0) x.chain) l.initial.reaching.left
      ≡ map (λ c. c.items) l.chains.items ++ map (λ (x : Reaching). map (λ i. slice_index_or l.numbers i 0) x.chain) l.reaching.left;
}

abbrev pub decreases-loop-alloc : goal.decreases-loop-alloc
decreases-loop-alloc l = length l.reaching.left
