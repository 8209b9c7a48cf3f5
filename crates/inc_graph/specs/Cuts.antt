-- Sets of edges that separate headers from sources, what they cost, and what shows that a set is the cheapest.
use Rattle.std.specs.Prelude.{◌≡◌, ℕ, ◌≤◌, ◌==◌, ◌&&◌, not, Bool, true, List, [], ◌∷◌, if◌then◌else◌, length, map, filter_map, option_map, nat_lt, slice_get, slice_index, sum_by, IsTrue}
use Rattle.std.specs.List.{list_any, list_all}
use Rattle.std.specs.List.Sorted.{IsStrictlyIncreasing}
use Rattle.inc_lookup.specs.declared.projects.DirectiveId.{DirectiveId}
use Rattle.inc_graph.specs.IncludeGraph.{Edge, Graph}
use Rattle.inc_graph.specs.Members.{is_member, is_distinct}
use Rattle.inc_graph.specs.Chains.{is_walk, is_chain, is_before}
use Rattle.inc_graph.specs.declared.fixed.TheConstants.{MOST_COST}

---- sets of edges that separate

-- the edges that are marked fixed
abbrev pub Fixed : Type 0
Fixed = ℕ → Bool

-- an edge of the graph that is not fixed
abbrev pub is_editable : Graph → Fixed → ℕ → Bool
is_editable g fixed i = nat_lt i (length g.edges) && not (fixed i)

-- the lists have a member in common
abbrev pub meets : List ℕ → List ℕ → Bool
meets is js = list_any (λ i. is_member i js) is

-- a set of editable edges, each listed once, of which every chain has one
pub record IsSeparating (g : Graph) (fixed : Fixed) (set : List ℕ) : Type 0 where
  pub editable : IsTrue (list_all (is_editable g fixed) set)
  pub once : IsTrue (is_distinct set)
  pub met : (chain : List ℕ) → IsTrue (is_chain g chain) → IsTrue (meets chain set)

-- no cut exists: a chain of fixed edges alone
pub record IsFixedChain (g : Graph) (fixed : Fixed) (chain : List ℕ) : Type 0 where
  pub real : IsTrue (is_chain g chain)
  pub uncuttable : IsTrue (list_all fixed chain)

---- the cheapest of them: each editable edge has a cost, and the least total cost is asked for

-- the cost of each editable edge
abbrev pub Costs : Type 0
Costs = ℕ → ℕ

-- the greatest cost
abbrev pub most_cost : ℕ
most_cost = MOST_COST

-- each editable edge costs 1 to 1,000,000
abbrev pub AreCosts : Graph → Fixed → Costs → Type 0
AreCosts g fixed cost = (i : ℕ) → IsTrue (is_editable g fixed i) → (1 ≤ cost i) × (cost i ≤ most_cost)

-- the edges that are fixed and the costs of the others, by one amount an edge: 0 where it is fixed, else its cost
abbrev pub fixed_by : (amounts : List ℕ) → Fixed
fixed_by amounts i = slice_index amounts i == 0

abbrev pub costs_by : (amounts : List ℕ) → Costs
costs_by amounts i = slice_index amounts i

-- no amount is over the greatest cost
abbrev pub are_amounts : List ℕ → Bool
are_amounts amounts = not (list_any (λ n. nat_lt most_cost n) amounts)

-- the costs of a set
abbrev pub total_cost : Costs → List ℕ → ℕ
total_cost cost set = sum_by cost set

-- no separating set has a smaller total cost
pub record IsCheapest (g : Graph) (fixed : Fixed) (cost : Costs) (set : List ℕ) : Type 0 where
  pub separates : IsSeparating g fixed set
  pub least : (other : List ℕ) → IsSeparating g fixed other → total_cost cost set ≤ total_cost cost other

-- a chain that counts several times
pub record Counted : Type 0 where
  pub chain : List ℕ
  pub count : ℕ

-- the chains without their counts
abbrev pub chains_in : List Counted → List (List ℕ)
chains_in chains = map (λ (c : Counted). c.chain) chains

-- the counts of the chains through an edge
abbrev pub count_through : ℕ → List Counted → ℕ
count_through i chains = sum_by (λ (c : Counted). if is_member i c.chain then c.count else 0) chains

-- all counts
abbrev pub total_count : List Counted → ℕ
total_count chains = sum_by (λ (c : Counted). c.count) chains

-- chains whose counts fit into the costs and total the cost of the set, which shows that it is cheapest
pub record IsCostCertificate (g : Graph) (fixed : Fixed) (cost : Costs) (set : List ℕ) (chains : List Counted) : Type 0 where
  -- without the set no chain is left
  pub separates : IsSeparating g fixed set
  -- each is a chain of the graph, and counts once at least
  pub real : IsTrue (list_all (λ (c : Counted). is_chain g c.chain && nat_lt 0 c.count) chains)
  -- through no editable edge more chains lead than it costs
  pub within : (i : ℕ) → IsTrue (is_editable g fixed i) → count_through i chains ≤ cost i
  -- they count what the set costs
  pub counts : total_count chains ≡ total_cost cost set

---- where all costs are 1, cheapest is smallest, and no chains share an editable edge

-- each editable edge costs 1
abbrev pub one_each : Costs
one_each i = 1

-- a chain that counts once
abbrev pub counted_once : List ℕ → Counted
counted_once chain = record { chain = chain; count = 1 }

-- no separating set has fewer members
pub record IsSmallest (g : Graph) (fixed : Fixed) (set : List ℕ) : Type 0 where
  pub separates : IsSeparating g fixed set
  pub least : (other : List ℕ) → IsSeparating g fixed other → length set ≤ length other

-- the lists have an editable edge in common
abbrev pub share_editable : Fixed → List ℕ → List ℕ → Bool
share_editable fixed is js = list_any (λ i. not (fixed i) && is_member i js) is

-- no two lists at different places have an editable edge in common
abbrev pub are_apart : Fixed → List (List ℕ) → Bool
are_apart fixed [] = true
are_apart fixed (c ∷ cs) = list_all (λ d. not (share_editable fixed c d)) cs && are_apart fixed cs

-- as many chains as the set has members, which shows that it is smallest
pub record IsCertificate (g : Graph) (fixed : Fixed) (set : List ℕ) (chains : List (List ℕ)) : Type 0 where
  -- without the set no chain is left
  pub separates : IsSeparating g fixed set
  -- each is a chain of the graph
  pub real : IsTrue (list_all (is_chain g) chains)
  -- no two have an editable edge in common
  pub apart : IsTrue (are_apart fixed chains)
  -- there are as many as members of the set
  pub counts : length chains ≡ length set

---- the near side, and the nearest cut

-- a walk from a source, outside the set, reaches the file
pub record IsNear (g : Graph) (set : List ℕ) (f : ℕ) : Type 0 where
  -- where the walk begins
  pub source : ℕ
  -- which is at a source
  pub among : IsTrue (is_member source g.sources)
  -- its edges
  pub walk : List ℕ
  -- which lead to the file
  pub real : IsTrue (is_walk g source walk f)
  -- and are none of the set
  pub outside : IsTrue (not (meets walk set))

-- a cheapest set whose near side lies within that of each cheapest set
pub record IsNearest (g : Graph) (fixed : Fixed) (cost : Costs) (set : List ℕ) : Type 0 where
  pub cheapest : IsCheapest g fixed cost set
  pub within : (other : List ℕ) → IsCheapest g fixed cost other → (f : ℕ) → IsNear g set f → IsNear g other f

---- the answer

-- each list before the next, and not equal to it
abbrev pub are_in_order : List (List ℕ) → Bool
are_in_order [] = true
are_in_order (c ∷ []) = true
are_in_order (c ∷ d ∷ ds) = is_before c d && (not (is_before d c) && are_in_order (d ∷ ds))

-- the nearest cut, and chains that show that it is cheapest: pairwise different, and both in order
pub record IsCut (g : Graph) (fixed : Fixed) (cost : Costs) (set : List ℕ) (chains : List Counted) : Type 0 where
  -- it is cheapest, and of the cheapest the one nearest to the sources
  pub nearest : IsNearest g fixed cost set
  -- the chains show that none is cheaper
  pub shown : IsCostCertificate g fixed cost set chains
  -- it is in order of edges
  pub by_number : IsStrictlyIncreasing set
  -- the chains are in order, and no two are one
  pub in_order : IsTrue (are_in_order (chains_in chains))

-- the directives of a set of edges
abbrev pub directives_of : Graph → List ℕ → List DirectiveId
directives_of g set = filter_map (λ i. option_map (λ (e : Edge). record { file = e.from; line = e.line }) (slice_get g.edges i)) set
