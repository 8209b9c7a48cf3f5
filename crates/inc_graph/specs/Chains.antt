-- Walks and chains of an include graph, by the numbers of their edges, and which chains are the first of the shortest.
use Rattle.std.specs.Prelude.{◌≡◌, ℕ, suc, ◌<◌, ◌≤◌, ◌==◌, ◌&&◌, not, Bool, true, false, List, [], ◌∷◌, Option, Some, None, if◌then◌else◌, length, map, nat_lt, slice_get, IsTrue}
use Rattle.std.specs.List.{list_any}
use Rattle.std.specs.Option.{option_map_or}
use Rattle.inc_graph.specs.IncludeGraph.{Edge, Graph}
use Rattle.inc_graph.specs.Members.{is_member, is_distinct}

-- the file to which an edge leads
abbrev pub target : Graph → ℕ → ℕ
target g i = option_map_or (λ (e : Edge). e.to) (slice_get g.edges i) 0

-- the edge is one of the graph and begins in the file
abbrev pub leaves : Graph → (file edge : ℕ) → Bool
leaves g a i = option_map_or (λ (e : Edge). e.from == a) (slice_get g.edges i) false

-- each edge begins in the file where the last one ended
abbrev pub is_walk : Graph → ℕ → List ℕ → ℕ → Bool
is_walk g a [] b = a == b
is_walk g a (i ∷ is) b = leaves g a i && is_walk g (target g i) is b

-- a walk from a source leads to the file
pub record IsWalkedTo (g : Graph) (f : ℕ) : Type 0 where
  -- where it begins
  pub source : ℕ
  -- which is at a source
  pub among : IsTrue (is_member source g.sources)
  -- its edges
  pub walk : List ℕ
  -- which lead to the file
  pub real : IsTrue (is_walk g source walk f)

-- the files that a walk visits, its first one with them
abbrev pub files_on : Graph → ℕ → List ℕ → List ℕ
files_on g a is = a ∷ map (target g) is

-- from this file to some header, no file twice
abbrev pub is_chain_from : Graph → List ℕ → ℕ → Bool
is_chain_from g is a = list_any (is_walk g a is) g.headers && is_distinct (files_on g a is)

-- from some source; the empty list where a source is a header
abbrev pub is_chain : Graph → List ℕ → Bool
is_chain g is = list_any (is_chain_from g is) g.sources

-- lists of numbers in order, by their first difference
abbrev pub is_before : List ℕ → List ℕ → Bool
is_before [] js = true
is_before (i ∷ is) [] = false
is_before (i ∷ is) (j ∷ js) = if i == j then is_before is js else nat_lt i j

-- the last edge is this one
abbrev pub ends_with : (last : ℕ) → List ℕ → Bool
ends_with last [] = false
ends_with last (i ∷ []) = i == last
ends_with last (i ∷ j ∷ is) = ends_with last (j ∷ is)

-- of the chains that pass the test one with fewest edges, and of these the first
pub record IsFirstShortest (g : Graph) (test : List ℕ → Bool) (chain : List ℕ) : Type 0 where
  -- it is a chain of the graph
  pub real : IsTrue (is_chain g chain)
  -- it passes the test
  pub passes : IsTrue (test chain)
  -- none that passes has fewer edges
  pub shortest : (other : List ℕ) → IsTrue (is_chain g other) → IsTrue (test other) → length chain ≤ length other
  -- it is before each other one that passes and has as many
  pub first : (other : List ℕ) → IsTrue (is_chain g other) → IsTrue (test other) → length other ≡ length chain → IsTrue (is_before chain other)

-- of all chains
abbrev pub IsShortest : Graph → List ℕ → Type 0
IsShortest g chain = IsFirstShortest g (λ c. true) chain

-- of the chains whose last edge is this one
abbrev pub IsShortestEnding : Graph → (last : ℕ) → List ℕ → Type 0
IsShortestEnding g last chain = IsFirstShortest g (ends_with last) chain

-- the first of the shortest chains, or none where there is no chain
abbrev pub IsShortestOrNone : Graph → Option (List ℕ) → Type 0
IsShortestOrNone g None = (chain : List ℕ) → IsTrue (not (is_chain g chain))
IsShortestOrNone g (Some chain) = IsShortest g chain

-- for each edge from this number on that ends a chain, the first of the shortest chains that it ends
pub data AreChainsByLast (g : Graph) : ℕ → List (List ℕ) → Type 0 where
  no_more : {i : ℕ} → length g.edges ≤ i → AreChainsByLast g i []
  ends_one : {i : ℕ} {chain : List ℕ} {rest : List (List ℕ)} →
      IsShortestEnding g i chain → AreChainsByLast g (suc i) rest → AreChainsByLast g i (chain ∷ rest)
  ends_none : {i : ℕ} {rest : List (List ℕ)} → i < length g.edges →
      ((chain : List ℕ) → IsTrue (is_chain g chain) → IsTrue (not (ends_with i chain))) →
      AreChainsByLast g (suc i) rest → AreChainsByLast g i rest
