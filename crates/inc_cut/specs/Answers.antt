-- The answer to which cut is the smallest, and what the parts of the search for it keep.
use Rattle.std.specs.Prelude.{◌≡◌, ◌+◌, ◌^◌, ◌<◌, ◌≤◌, ◌&&◌, ◌++◌, ℕ, Bool, true, false, List, [], ◌∷◌, Some, map, length, nat_lt, slice_get, slice_index_or, sum, sum_by, min, IsTrue, ⊤}
use Rattle.std.specs.List.{list_all}
use Rattle.inc_graph.specs.IncludeGraph.{Graph, IsSound}
use Rattle.inc_graph.specs.Chains.{is_chain}
use Rattle.inc_graph.specs.Members.{is_member, is_distinct}
use Rattle.inc_graph.specs.Cuts.{Counted, fixed_by, costs_by, are_amounts, count_through, total_count, IsSeparating, IsFixedChain, IsCut}
use Rattle.inc_cut.specs.declared.flows.Step.{Step}
use Rattle.inc_cut.specs.declared.smallest.CutAnswer.{CutAnswer}
use Rattle.inc_cut.specs.declared.smallest.CutAnswer.TheVariants.{Cut, Fixed}
use Rattle.inc_cut.specs.Flows.{AreFor, flow_by, flow_to, flow_from, is_open_by, is_path_by, IsReach, IsSide, IsFlow, IsBarrier}

-- the nearest cut with its certificate, or a chain of fixed edges
abbrev pub IsCutAnswer : Graph → (amounts : List ℕ) → CutAnswer → Type 0
IsCutAnswer g amounts (Cut edges chains) = IsCut g (fixed_by amounts) (costs_by amounts) edges.items chains
IsCutAnswer g amounts (Fixed chain) = IsFixedChain g (fixed_by amounts) chain.edges

-- no more chains than edges
abbrev pub HasFewChains : Graph → CutAnswer → Type 0
HasFewChains g (Cut edges chains) = length chains ≤ length g.edges
HasFewChains g (Fixed chain) = ⊤

---- the largest flow

-- fixed edges alone do not lead from a source to a header
pub record IsCuttable (g : Graph) (amounts : List ℕ) : Type 0 where
  -- the graph is one that a build gives
  pub sound : IsSound g
  -- each edge has an amount, that of its cost
  pub amounts_long : length amounts ≡ length g.edges
  -- the amounts of editable edges are costs
  pub costs : IsTrue (are_amounts amounts)
  -- files on the side of the sources, which only editable edges leave
  pub inside : ℕ → Bool
  pub barrier : IsBarrier g amounts inside

-- a flow of this value, and an open path along which it can be raised
pub record CanRaise (g : Graph) (amounts flows : List ℕ) (value : ℕ) (steps : List Step) : Type 0 where
  pub cuttable : IsCuttable g amounts
  pub are : AreFor g amounts flows
  pub flow : IsFlow g amounts flows value
  pub path : IsTrue (is_path_by g (is_open_by amounts flows) steps)

-- no flow has a greater value
abbrev pub most_value : ℕ
most_value = 1_000_000_000_000

-- a flow whose value has risen by an amount
pub record IsRaised (g : Graph) (amounts flows : List ℕ) (value amount : ℕ) : Type 0 where
  -- it rose by one at least
  pub some : 1 ≤ amount
  -- the lists are as long as the graph asks
  pub are : AreFor g amounts flows
  -- it is a flow of the greater value
  pub flow : IsFlow g amounts flows (value + amount)
  -- which is within its limit
  pub most : value + amount ≤ most_value

-- a flow, and which files open steps reach, no header among them
pub record IsLargest (g : Graph) (amounts flows : List ℕ) (reached : List Bool) : Type 0 where
  -- what the flow carries
  pub value : ℕ
  -- each edge has an amount and a flow within it
  pub are : AreFor g amounts flows
  -- the flow leaves the sources and enters the headers with this value
  pub flow : IsFlow g amounts flows value
  -- there is a flag for each file
  pub long : length reached ≡ g.files
  -- the flags are those of the files that open steps reach, and no header is one
  pub reach : IsReach g (is_open_by amounts flows) (λ f. slice_index_or reached f false)

---- the chains that a flow is made of

-- each counted chain has an edge without flow
pub record IsEmptied (flows : List ℕ) (c : Counted) : Type 0 where
  pub edge : ℕ
  pub there : is_member edge c.chain ≡ true
  pub empty : flow_by flows edge ≡ 0

-- no two of the chains are the same
abbrev pub AreDifferent : List Counted → Type 0
AreDifferent chains = (k j : ℕ) (c d : Counted) → slice_get chains k ≡ Some c → slice_get chains j ≡ Some d → c.chain ≡ d.chain → k ≡ j

-- how many edges have flow
abbrev pub carrying : (flows : List ℕ) → ℕ
carrying flows = sum_by (λ n. min n 1) flows

-- a flow of this value less what the chains count
pub record CanSplit (g : Graph) (amounts flows : List ℕ) (value : ℕ) (chains : List Counted) : Type 0 where
  pub cuttable : IsCuttable g amounts
  pub are : AreFor g amounts flows
  pub set : List ℕ
  pub separates : IsSeparating g (fixed_by amounts) set
  pub real : IsTrue (list_all (λ (c : Counted). is_chain g c.chain && nat_lt 0 c.count) chains)
  pub within : (i : ℕ) → fixed_by amounts i ≡ false → count_through i chains + flow_by flows i ≤ costs_by amounts i
  pub balanced : (inside : ℕ → Bool) → IsSide g inside → flow_to g (flow_by flows) inside + value ≡ flow_from g (flow_by flows) inside + total_count chains
  pub emptied : (k : ℕ) (c : Counted) → slice_get chains k ≡ Some c → IsEmptied flows c
  pub different : AreDifferent chains
  pub few : length chains + carrying flows ≤ length g.edges

-- chains that count the value and fit into the costs
pub record AreChainsOf (g : Graph) (amounts : List ℕ) (value : ℕ) (chains : List Counted) : Type 0 where
  -- each is a chain of the graph and counts at least once
  pub real : IsTrue (list_all (λ (c : Counted). is_chain g c.chain && nat_lt 0 c.count) chains)
  -- what goes through an editable edge is within its cost
  pub within : (i : ℕ) → fixed_by amounts i ≡ false → count_through i chains ≤ costs_by amounts i
  -- all counts are the value
  pub total : total_count chains ≡ value
  -- there are no more than edges
  pub few : length chains ≤ length g.edges

-- one more chain is taken off the flow, or none is left
abbrev pub IsTaken : Graph → (amounts flows flows2 : List ℕ) → (value : ℕ) → (chains2 : List Counted) → Bool → Type 0
IsTaken g amounts flows flows2 value chains2 true = CanSplit g amounts flows2 value chains2 × (sum flows2 < sum flows)
IsTaken g amounts flows flows2 value chains2 false = AreChainsOf g amounts value chains2 × AreDifferent chains2

---- the chains that a flow is raised along

-- each counted chain has an editable edge that is full
pub record IsFilled (amounts flows : List ℕ) (c : Counted) : Type 0 where
  -- one of its edges
  pub edge : ℕ
  -- that is one of them
  pub there : is_member edge c.chain ≡ true
  -- which is editable
  pub editable : fixed_by amounts edge ≡ false
  -- and on which its whole cost flows
  pub full : flow_by flows edge ≡ costs_by amounts edge

-- chains that count the value, and no edge counts more than flows on it
pub record IsRecorded (g : Graph) (amounts flows : List ℕ) (value : ℕ) (chains : List Counted) : Type 0 where
  -- each is a chain of the graph and counts at least once
  pub real : IsTrue (list_all (λ (c : Counted). is_chain g c.chain && nat_lt 0 c.count) chains)
  -- no more counts on an edge than flows there
  pub through : (i : ℕ) → count_through i chains ≤ flow_by flows i
  -- all counts are the value
  pub total : total_count chains ≡ value
  -- each was the last to go through some edge
  pub filled : (k : ℕ) (c : Counted) → slice_get chains k ≡ Some c → IsFilled amounts flows c
  -- no two are the same
  pub different : AreDifferent chains
  -- as many full edges as chains
  pub edges : List ℕ
  pub as_many : length edges ≡ length chains
  -- none of these edges is there twice
  pub once : IsTrue (is_distinct edges)
  -- each is editable and full
  pub are_full : (e : ℕ) → is_member e edges ≡ true → (e < length g.edges) × (fixed_by amounts e ≡ false) × (flow_by flows e ≡ costs_by amounts e)

-- whether all steps lead ahead
abbrev pub are_ahead : List Step → Bool
are_ahead ss = list_all (λ (s : Step). s.forward) ss

-- with the chain of a path ahead, along which the flow was raised by an amount
pub record IsAdded (known : Bool) (chains chains2 : List Counted) (ss : List Step) (amount : ℕ) : Type 0 where
  -- the chains are kept
  pub were : known ≡ true
  -- the path has no step back
  pub ahead : are_ahead ss ≡ true
  -- the amount is one that a chain may count
  pub small : amount < 2 ^ 32
  -- its edges are the new chain
  pub more : chains2 ≡ chains ++ record { chain = map (λ (s : Step). s.edge) ss; count = amount } ∷ []

-- a largest flow, and where they are known the chains that it was raised along
pub record IsMade (g : Graph) (amounts flows : List ℕ) (reached : List Bool) (chains : List Counted) (known : Bool) : Type 0 where
  pub largest : IsLargest g amounts flows reached
  pub recorded : known ≡ true → IsRecorded g amounts flows largest.value chains
