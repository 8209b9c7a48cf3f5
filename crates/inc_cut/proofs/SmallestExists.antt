-- Every graph has a chain of fixed edges, or a smallest cut with chains that show that none is cheaper.
use Rattle.std.proofs.Common.{◌≡◌, ℕ, ◌+◌, ◌<◌, ◌≤◌, Bool, true, false, List, [], length, sum, zero, suc, inl, inr, arith}
use Rattle.std.specs.Prelude.{◌⊎◌, slice_index_or}
use Rattle.std.proofs.Math.ListN.{replicate}
use Rattle.std.proofs.lemmas.List.{length-replicate}
use Rattle.inc_graph.specs.IncludeGraph.{Graph, IsSound}
use Rattle.inc_graph.specs.Cuts.{Counted, fixed_by, costs_by, are_amounts, IsFixedChain, IsCut}
use Rattle.inc_cut.specs.Flows.{AreFor, IsFlow, is_open_by, is_fixed_ahead, is_flowing, leaving}
use Rattle.inc_cut.specs.Raising.{raised, lowered, least_room, least_flow}
use Rattle.inc_cut.specs.Answers.{IsCuttable, IsLargest, CanSplit, AreChainsOf, AreDifferent, most_value}
use Rattle.inc_cut.proofs.SideLemmas.{barrier_from_reach}
use Rattle.inc_cut.proofs.RaisingLemmas.{edges_of}
use Rattle.inc_cut.proofs.RoomLemmas.{raise_is, none_flow}
use Rattle.inc_cut.proofs.ChainLemmas.{fixed_chain, count_is, none_left, chains_of}
use Rattle.inc_cut.proofs.ChainOrder.{rising_exists, rising_adjacent, order_permuted, chains_permuted}
use Rattle.inc_cut.proofs.CutLemmas.{split_start, cut_is}
use Rattle.inc_cut.proofs.StepReach.{path_or_reach}

-- a flow raised along open steps until these do not lead to the header
largest_from : (g : Graph) (amounts : List ℕ) → IsCuttable g amounts → (n : ℕ) (flows : List ℕ) (value : ℕ) → value ≤ most_value → most_value < value + n
    → AreFor g amounts flows → IsFlow g amounts flows value → (last : List ℕ) × (reached : List Bool) × IsLargest g amounts last reached
largest_from g amounts c zero flows value most left are flow = absurd (omega arith)
largest_from g amounts c (suc n) flows value most left are flow = elim (path_or_reach g (is_open_by amounts flows) c.sound) [
  | inl path ↦
      let r = raise_is g amounts flows value path.0 (record { cuttable = c; are = are; flow = flow; path = path.1 }) in
      let new = r.raised in
      let some = new.some in
      largest_from g amounts c n (raised (least_room amounts flows _ path.0) flows path.0) (value + least_room amounts flows _ path.0) new.most (omega arith) new.are new.flow
  | inr reach ↦ (flows, reach.0, record { value = value; are = are; flow = flow; long = reach.1.0; reach = reach.1.1 })
]

pub largest_exists : (g : Graph) (amounts : List ℕ) → IsCuttable g amounts → (flows : List ℕ) × (reached : List Bool) × IsLargest g amounts flows reached
largest_exists g amounts c =
    largest_from g amounts c (most_value + 1) (replicate (length g.edges) 0) 0 (omega arith) (omega arith)
    (record { amounts_long = c.amounts_long; flows_long = length-replicate {A = ℕ} (length g.edges) 0 }) (none_flow g amounts (length g.edges))

-- a chain taken off the flow after the other until none is left
chains_from : (g : Graph) (amounts : List ℕ) (value : ℕ) (n : ℕ) (flows : List ℕ) (chains : List Counted) → sum flows < n → CanSplit g amounts flows value chains
    → (all : List Counted) × AreChainsOf g amounts value all × AreDifferent all
chains_from g amounts value zero flows chains left c = absurd (omega arith)
chains_from g amounts value (suc n) flows chains left c = elim (path_or_reach g (is_flowing flows) (c.cuttable).sound) [
  | inl path ↦
      let k = count_is g amounts flows value chains path.0 c path.1 in
      let falls = k.falls in
      chains_from g amounts value n (lowered (least_flow flows _ (edges_of path.0)) flows (edges_of path.0)) _ (omega arith) k.next
  | inr reach ↦
      (chains, chains_of g amounts flows value chains c (none_left g amounts flows value chains (λ f. slice_index_or reach.0 f false) c reach.1.1), c.different)
]

pub cut_exists : (g : Graph) (amounts : List ℕ) → IsCuttable g amounts → (set : List ℕ) × (chains : List Counted) × IsCut g (fixed_by amounts) (costs_by amounts) set chains
cut_exists g amounts c =
    let largest = largest_exists g amounts c in
    let l = largest.2 in
    let some = chains_from g amounts l.value (sum largest.0 + 1) largest.0 [] (omega arith) (split_start g amounts largest.0 largest.1 c l) in
    let sorted = rising_exists some.0 in (
      leaving g (λ file. slice_index_or largest.1 file false),
      sorted.0,
      cut_is g amounts largest.0 largest.1 sorted.0 l (chains_permuted g amounts l.value some.0 sorted.0 some.1 sorted.1)
          (order_permuted some.0 sorted.0 (rising_adjacent sorted.0 sorted.2) sorted.1 some.2),
    )

pub smallest_exists : (g : Graph) (amounts : List ℕ) → IsSound g → length amounts ≡ length g.edges → are_amounts amounts ≡ true
    → ((chain : List ℕ) × IsFixedChain g (fixed_by amounts) chain) ⊎ ((set : List ℕ) × (chains : List Counted) × IsCut g (fixed_by amounts) (costs_by amounts) set chains)
smallest_exists g amounts sound long most = elim (path_or_reach g (is_fixed_ahead amounts) sound) [
  | inl path ↦ inl (edges_of path.0, fixed_chain g amounts path.0 path.1)
  | inr reach ↦ inr (cut_exists g amounts (record {
    sound = sound;
    amounts_long = long;
    costs = most;
    inside = λ f. slice_index_or reach.0 f false;
    barrier = barrier_from_reach g amounts (λ f. slice_index_or reach.0 f false) reach.1.1;
  }))
]
