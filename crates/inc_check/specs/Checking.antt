-- What a checker works out of a certificate: the edges that its marks name, sets of edges, walks past a set, and sums of counts.
use Rattle.std.specs.Prelude.{◌≡◌, ℕ, ◌+◌, ◌<◌, ◌≤◌, ◌^◌, ◌-◌, ◌==◌, ◌&&◌, not, Bool, true, false, List, [], ◌∷◌, ◌++◌, Option, Some, None, if◌then◌else◌, length, min, set, slice_index, slice_index_or, MatchBool, MatchOption}
use Rattle.std.specs.List.{All, list_any, list_all}
use Rattle.std.specs.Option.{option_map_or}
use Rattle.inc_lookup.specs.Projects.{Layout}
use Rattle.inc_graph.specs.declared.graphs.Edge as declared
use Rattle.inc_graph.specs.IncludeGraph.{Graph}
use Rattle.inc_graph.specs.Chains.{is_walk, target, leaves, is_chain}
use Rattle.inc_graph.specs.Members.{is_member, is_distinct}
use Rattle.inc_graph.specs.Cuts.{fixed_by, costs_by, total_cost, count_through, total_count}
use Rattle.inc_graph.specs.Marks.{Mark}
use Rattle.inc_graph.specs.MarkedEdges.{edge_number}
use Rattle.inc_graph.specs.Near.{IsNear, IsListed, IsNamedElsewhere}
use Rattle.inc_graph.specs.Search.{Next}
use Rattle.inc_check.specs.declared.certificates.CountedMarks.{CountedMarks}
use Rattle.inc_check.specs.declared.certificates.Certificate.{Certificate}
use Rattle.inc_check.specs.declared.checking.chain_sums.ChainSums.{ChainSums}
use Rattle.inc_check.specs.declared.checking.cut_edges.CutEdges.{CutEdges}
use Rattle.inc_check.specs.declared.checking.sums.Sums.{Sums}
use Rattle.inc_check.specs.Certificates.{edge_numbers, chains_of, is_counted_chain, is_marked_editable}

---- the edges that marks name

-- the mark names an edge
abbrev pub is_named : Layout → Graph → Mark → Bool
is_named layout g m = option_map_or (λ i. true) (edge_number layout g m) false

-- each mark names an edge, and these are the edges, in the order of the marks
pub record AreNamed (layout : Layout) (g : Graph) (marks : List Mark) (edges : List ℕ) : Type 0 where
  pub all : list_all (is_named layout g) marks ≡ true
  pub are : edges ≡ edge_numbers layout g marks
  pub within : All (λ i. i < length g.edges) edges

---- sets of edges

-- a sum that stops at the greatest number of 64 bits
abbrev pub capped : ℕ → ℕ
capped n = min n (2 ^ 64 - 1)

-- the edge has a flag
abbrev pub is_flagged : List Bool → ℕ → Bool
is_flagged flags i = slice_index_or flags i false

-- of so many edges those of a list, none of which is more than once in it, have a flag
pub record IsSetOf (count : ℕ) (edges : List ℕ) (flags : List Bool) : Type 0 where
  pub once : is_distinct edges ≡ true
  pub long : length flags ≡ count
  pub are : (i : ℕ) → i < count → is_flagged flags i ≡ is_member i edges

---- the edges of a cut

-- each mark names an edge, none of these is fixed, and these are the edges
pub record AreEditable (layout : Layout) (g : Graph) (amounts : List ℕ) (marks : List Mark) (edges : List ℕ) : Type 0 where
  pub named : AreNamed layout g marks edges
  pub free : list_any (fixed_by amounts) edges ≡ false

-- what is kept of these edges: which they are and what they cost, where none of them is more than once in the list
abbrev pub AreKept : Graph → (amounts : List ℕ) → (edges : List ℕ) → CutEdges → Type 0
AreKept g amounts edges c =
    MatchBool c.once (IsSetOf (length g.edges) edges c.flags.items × (c.cost ≡ capped (total_cost (costs_by amounts) edges))) (is_distinct edges ≡ false)

-- the edges that marks name are kept, or one of the marks names none that is editable
abbrev pub IsCutOf : Layout → Graph → (amounts : List ℕ) → List Mark → CutEdges → Type 0
IsCutOf layout g amounts marks c = MatchBool c.editable
    ((edges : List ℕ) × AreEditable layout g amounts marks edges × AreKept g amounts edges c)
    (list_all (is_marked_editable layout g (fixed_by amounts)) marks ≡ false)

-- there is a flag for each edge of the graph, and the next mark is looked for in a file of it
pub record IsCutFor (g : Graph) (c : CutEdges) : Type 0 where
  pub long : length c.flags.items ≡ length g.edges
  pub near : IsNear g.files c.near

-- only where the next mark is looked for is another
abbrev pub IsNearAlone : (old new : CutEdges) → Type 0
IsNearAlone old new = new ≡ record old { near = new.near }

-- one more edge
pub record IsPut (amounts : List ℕ) (i : ℕ) (old new : CutEdges) : Type 0 where
  -- the edge is in the cut now
  pub flags : new.flags.items ≡ set old.flags.items i true
  -- its cost is added, up to the most that is counted
  pub cost : new.cost ≡ capped (old.cost + costs_by amounts i)
  -- no edge was put twice
  pub once : new.once ≡ (old.once && not (is_flagged old.flags.items i))
  -- what is near stays
  pub near : new.near ≡ old.near

---- walks past a set

-- no edge of the walk has a flag
abbrev pub misses : List Bool → List ℕ → Bool
misses flags walk = list_all (λ i. not (is_flagged flags i)) walk

-- a walk from a source to the file that has no edge of the set
pub record IsPast (g : Graph) (flags : List Bool) (f : ℕ) : Type 0 where
  pub source : ℕ
  pub among : is_member source g.sources ≡ true
  pub walk : List ℕ
  pub real : is_walk g source walk f ≡ true
  pub past : misses flags walk ≡ true

-- such a walk to a header
pub record IsHeaderPast (g : Graph) (flags : List Bool) : Type 0 where
  pub header : ℕ
  pub among : is_member header g.headers ≡ true
  pub reached : IsPast g flags header

-- each walk from a source to a header has an edge of the set
abbrev pub IsSetMet : Graph → List Bool → Type 0
IsSetMet g flags =
    (source header : ℕ) (walk : List ℕ) → is_member source g.sources ≡ true → is_member header g.headers ≡ true → is_walk g source walk header ≡ true → misses flags walk ≡ false

-- a step past the set: an edge without a flag
abbrev pub LeadsPast : Graph → List Bool → ℕ → Unit {0} → ℕ → Type 0
LeadsPast g flags a s b = (i : ℕ) × (leaves g a i ≡ true) × (is_flagged flags i ≡ false) × (target g i ≡ b)

-- the step along an edge, unless the edge has a flag
abbrev pub edge_step : List Bool → declared.Edge → Option (Next (Unit {0}))
edge_step flags e = if is_flagged flags e.id then None else Some (record { step = tt; to = e.to })

---- chains

-- the chain is counted, and these are its edges
pub record IsCounted (layout : Layout) (g : Graph) (k : CountedMarks) (edges : List ℕ) : Type 0 where
  -- it counts at least once, and its marks are those of a chain
  pub counted : is_counted_chain layout g k ≡ true
  -- the edges are those that its marks name
  pub are : edges ≡ edge_numbers layout g k.marks
  -- each is one of the graph
  pub within : All (λ i. i < length g.edges) edges
  -- none is there twice
  pub once : is_distinct edges ≡ true

---- sums

-- for each edge the counts of the chains through it, and all counts
pub record AreSums (layout : Layout) (g : Graph) (chains : List CountedMarks) (through : List ℕ) (total : ℕ) : Type 0 where
  -- each chain is one of the graph and counts at least once
  pub counted : list_all (is_counted_chain layout g) chains ≡ true
  -- there is a sum for each edge
  pub long : length through ≡ length g.edges
  -- it is what the chains through the edge count, up to the most that is counted
  pub each : (i : ℕ) → i < length g.edges → slice_index through i ≡ capped (count_through i (chains_of layout g chains))
  -- and so is the sum of all
  pub all : total ≡ capped (total_count (chains_of layout g chains))

-- the sums of the chains, or one of these that is not counted
abbrev pub AreSumsOf : Layout → Graph → Certificate → Option Sums → Type 0
AreSumsOf layout g c sums =
    MatchOption sums (list_all (is_counted_chain layout g) c.chains ≡ false) (λ s. AreSums layout g c.chains s.through s.total)

---- a chain, mark by mark

-- what is left of a chain at a file: each edge leaves from where the last one led, to a file that was not visited
abbrev pub goes_on : Graph → (seen : List ℕ) → ℕ → List ℕ → Bool
goes_on g seen a [] = is_member a g.headers
goes_on g seen a (i ∷ is) = leaves g a i && (not (is_member (target g i) seen) && goes_on g (target g i ∷ seen) (target g i) is)

-- one or more edges have led to this file, the files that they visit have the stamp, and what is left of the chain decides
pub record IsTaken (g : Graph) (stamps : List ℕ) (stamp at : ℕ) (edges : List ℕ) : Type 0 where
  -- the files that the edges visit
  pub seen : List ℕ
  -- they are those with the stamp
  pub are : (f : ℕ) → f < g.files → (slice_index stamps f == stamp) ≡ is_member f seen
  -- each edge leads to one of them
  pub met : (i : ℕ) → is_member i edges ≡ true → is_member (target g i) seen ≡ true
  -- whether the whole is a chain rests on what is left, from this file on
  pub stays : (rest : List ℕ) → goes_on g seen at rest ≡ is_chain g (edges ++ rest)

-- a count that is added to the sums of edges
pub record IsAdded (old : List ℕ) (count : ℕ) (edges new : List ℕ) : Type 0 where
  pub long : length new ≡ length old
  pub each : (i : ℕ) → i < length old → slice_index new i ≡ (if is_member i edges then capped (slice_index old i + count) else slice_index old i)

-- no edge so far, and no file has the stamp
pub record IsUnbegun (t : ChainSums) (edges : List ℕ) : Type 0 where
  pub none : edges ≡ []
  pub fresh : All (λ s. s < t.stamp) t.stamps.items

-- the edges have led to a file, or there is none so far
abbrev pub IsTakenBy : Graph → ChainSums → (edges : List ℕ) → Type 0
IsTakenBy g t edges = MatchBool t.begun (IsTaken g t.stamps.items t.stamp t.at edges) (IsUnbegun t edges)

-- the chains before are counted, and the marks so far lead on from a source
pub record IsOnWay (layout : Layout) (g : Graph) (chains : List CountedMarks) (count : ℕ) (marks : List Mark) (t : ChainSums) : Type 0 where
  -- the sums before this chain
  pub before : List ℕ
  -- the edges of the marks so far
  pub edges : List ℕ
  -- of the chains before
  pub sums : AreSums layout g chains before t.total
  -- the chain counts at least once
  pub some : count ≡ 0 → ⊥
  -- the marks name these edges
  pub named : AreNamed layout g marks edges
  -- which lead to the file at hand
  pub taken : IsTakenBy g t edges
  -- and the chain is counted on each of them
  pub added : IsAdded before count edges t.through

-- whatever marks follow, not all of the chains are counted
abbrev pub IsLost : Layout → Graph → List CountedMarks → (count : ℕ) → List Mark → Type 0
IsLost layout g chains count marks =
    (more : List Mark) → list_all (is_counted_chain layout g) (chains ++ record { count = count; marks = marks ++ more } ∷ []) ≡ false

-- in a chain
abbrev pub IsSumming : Layout → Graph → List CountedMarks → (count : ℕ) → List Mark → ChainSums → Type 0
IsSumming layout g chains count marks t = MatchBool t.good (IsOnWay layout g chains count marks t) (IsLost layout g chains count marks)

-- after chains
abbrev pub IsSummed : Layout → Graph → List CountedMarks → ChainSums → Type 0
IsSummed layout g chains t =
    MatchBool t.good (AreSums layout g chains t.through t.total) (list_all (is_counted_chain layout g) chains ≡ false)

-- the lists are as long as the graph asks for, each hint is an edge of it, and no stamp is over that of the chain that is read
pub record IsFitted (g : Graph) (t : ChainSums) : Type 0 where
  -- the chain has led to a file of the graph
  pub at : t.at < g.files
  -- and the one before begins at one
  pub start : t.start < g.files
  -- a first mark is looked for in a file of the graph
  pub near : IsNear g.files t.near
  -- a chain without marks is real where the flag says so
  pub empty : t.empty ≡ is_chain g []
  -- there is a sum for each edge
  pub through : length t.through ≡ length g.edges
  -- and a stamp for each file
  pub stamps : length t.stamps.items ≡ g.files
  -- each hint is an edge of the graph
  pub hints : All (λ (e : declared.Edge). IsListed g e) t.hints.edges.items
  -- no stamp is over that of the chain that is read
  pub low : All (λ s. s ≤ t.stamp) t.stamps.items

-- a source at which a chain begins: it has the stamp, and the rest stays
pub record IsBegunAt (g : Graph) (old new : ChainSums) : Type 0 where
  -- no mark of the chain was read
  pub first : old.begun ≡ false
  -- it is at a source
  pub among : is_member new.at g.sources ≡ true
  -- whose stamp is that of the chain
  pub is : new ≡ record old { begun = true; at = new.at; start = new.at; near = new.near; stamps = new.stamps }
  pub stamps : new.stamps.items ≡ set old.stamps.items new.at old.stamp

-- a chain that goes on as it is, or begins at a source
abbrev pub IsReadyFor : Graph → (old new : ChainSums) → Type 0
IsReadyFor g old new = MatchBool old.begun (new ≡ old) (IsBegunAt g old new)

-- an edge of a mark leaves no file from which the chain can go on
abbrev pub IsNamedNowhere : Layout → Graph → ChainSums → Mark → Type 0
IsNamedNowhere layout g t m =
    MatchBool t.begun (IsNamedElsewhere layout g t.at m) ((s : ℕ) → is_member s g.sources ≡ true → IsNamedElsewhere layout g s m)

-- one edge further
pub record IsStepped (old new : ChainSums) (e : declared.Edge) (count : ℕ) : Type 0 where
  -- the file that the edge leads to has the stamp
  pub stamps : new.stamps.items ≡ set old.stamps.items e.to old.stamp
  -- the chain is counted on the edge
  pub through : new.through ≡ set old.through e.id (capped (slice_index old.through e.id + count))
  -- it has led to that file
  pub at : new.at ≡ e.to
  -- the stamp stays
  pub stamp : new.stamp ≡ old.stamp
  -- and the sum of all chains
  pub total : new.total ≡ old.total
  -- and what else is kept of the chain
  pub begun : new.begun ≡ old.begun
  pub start : new.start ≡ old.start
  pub near : new.near ≡ old.near
  pub empty : new.empty ≡ old.empty
