-- The breadth-first search from the sources of a graph along its edges, and the chains that are read from it.
use Rattle.std.specs.Prelude.{◌≡◌, ℕ, ◌<◌, ◌≤◌, true, List, [], ◌∷◌, ◌++◌, Option, Some, None, if◌then◌else◌, length, drop, slice_get, filter_map, option_map}
use Rattle.inc_graph.specs.declared.chains.by_last.Ending.{Ending}
use Rattle.inc_graph.specs.declared.graphs.Edge as declared
use Rattle.inc_graph.specs.IncludeGraph.{Graph, IsSound}
use Rattle.inc_graph.specs.Members.{is_member}
use Rattle.inc_graph.specs.Views.{numbered}
use Rattle.inc_graph.specs.Chains.{target, leaves}
use Rattle.inc_graph.specs.Search.{Queue, Next, place_of, path_to, IsSearch, AreFirst}

---- first paths

-- an edge by its number is a step from the file that it leaves
abbrev pub EdgeLeads : Graph → ℕ → ℕ → ℕ → Type 0
EdgeLeads g a i b = (leaves g a i ≡ true) × (target g i ≡ b)

abbrev pub edge_next : declared.Edge → Option (Next ℕ)
edge_next e = Some (record { step = e.id; to = e.to })

-- a search that has done so many files of its queue
pub record IsFirstPaths (g : Graph) (q : Queue ℕ) (taken : ℕ) : Type 0 where
  -- the graph is one that a build gives
  pub sound : IsSound g
  -- it has reached what edges reach from the sources
  pub search : IsSearch (EdgeLeads g) g.files g.sources q taken
  -- these are the first of the queue, in the order of the list, which is that of the edges that leave them
  pub begins : (k f : ℕ) → slice_get g.sources k ≡ Some f → place_of q f ≡ Some k
  -- and each file by the first of the shortest paths, in the order of their lists of edge numbers
  pub first : AreFirst (λ i. i) (EdgeLeads g) q taken

-- a search that has done all files of its queue
abbrev pub IsFinished : Graph → Queue ℕ → Type 0
IsFinished g q = IsFirstPaths g q (length q.visits)

---- the chains that it has found

-- the path to the file that an edge into a header leaves, and the edge; none of another edge, and where the file is not reached
abbrev pub chain_ending : Graph → Queue ℕ → (last : declared.Edge) → Option (List ℕ)
chain_ending g q last =
    if is_member last.to g.headers then option_map (λ k. path_to q.visits k ++ last.id ∷ []) (place_of q last.from) else None

-- the chains that the edges from a number on end
abbrev pub chains_ending : Graph → Queue ℕ → (next : ℕ) → List (List ℕ)
chains_ending g q next = filter_map (chain_ending g q) (drop next (numbered g.edges))

-- the first edge to end a chain, of the edges from a number on
pub record IsNextEnding (g : Graph) (search : Queue ℕ) (next : ℕ) (e : Ending) : Type 0 where
  -- the next number is a later one
  pub later : next < e.next
  -- and at most that at the end
  pub within : e.next ≤ length g.edges
  -- the search has reached the file that it leaves
  pub reached : e.from < length search.visits
  -- the chain that it ends is the first of those that are left
  pub left : chains_ending g search next ≡ (path_to search.visits e.from ++ e.edge ∷ []) ∷ chains_ending g search e.next
