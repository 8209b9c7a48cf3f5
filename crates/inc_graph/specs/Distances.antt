-- How far each file of a graph is from a header, by a search back from the headers, and the first edges of the shortest walks there.
use Rattle.std.specs.Prelude.{◌≡◌, ℕ, zero, suc, ◌+◌, ◌-◌, ◌<◌, ◌≤◌, ◌==◌, true, List, [], ◌∷◌, Option, Some, None, if◌then◌else◌, length, drop, filter_map, nat_lt, slice_get, slice_index, option_map}
use Rattle.inc_graph.specs.Chains.{target, leaves}
use Rattle.inc_graph.specs.IncludeGraph.{Edge, Graph, IsSound}
use Rattle.inc_graph.specs.Members.{is_member}
use Rattle.inc_graph.specs.Reaching.{Reaching}
use Rattle.inc_graph.specs.Search.{Queue, Next, path_to, IsSearch, AreFirst}

---- the search back

-- an edge by its number is a step back from the file that it leads to
abbrev pub LeadsBack : Graph → ℕ → ℕ → ℕ → Type 0
LeadsBack g a i b = (leaves g b i ≡ true) × (target g i ≡ a)

abbrev pub back_next : Graph → ℕ → Option (Next ℕ)
back_next g i = option_map (λ (e : Edge). record { step = i; to = e.from }) (slice_get g.edges i)

-- a search back from the headers that has done so many files of its queue
pub record IsSearchBack (g : Graph) (q : Queue ℕ) (taken : ℕ) : Type 0 where
  -- the graph is one that a build gives
  pub sound : IsSound g
  -- it has reached what edges lead back to
  pub search : IsSearch (LeadsBack g) g.files g.headers q taken
  -- and each file by a shortest walk
  pub first : AreFirst (λ i. i) (LeadsBack g) q taken

abbrev pub IsFinishedBack : Graph → Queue ℕ → Type 0
IsFinishedBack g q = IsSearchBack g q (length q.visits)

---- distances

-- 1 plus how many edges the shortest walk from a file to a header has, or 0 where there is none
abbrev pub distance : (distances : List ℕ) → (file : ℕ) → ℕ
distance distances file = slice_index distances file

-- by the search: that of a file at a place before this one
abbrev pub distance_before : Queue ℕ → (place : ℕ) → Option ℕ → ℕ
distance_before q n None = 0
distance_before q n (Some k) = if nat_lt k n then suc (length (path_to q.visits k)) else 0

-- what is known of distances
pub record AreDistances (g : Graph) (distances : List ℕ) : Type 0 where
  -- there is one for each file
  pub long : length distances ≡ g.files
  -- that of a header is 1
  pub at_header : (f : ℕ) → is_member f g.headers ≡ true → distance distances f ≡ 1
  -- and no other one is
  pub header_at : (f : ℕ) → distance distances f ≡ 1 → is_member f g.headers ≡ true
  -- from each file that is further away an edge leads to one that is nearer by 1
  pub nearer : (f n : ℕ) → distance distances f ≡ suc (suc n) → (i : ℕ) × (leaves g f i ≡ true) × (distance distances (target g i) ≡ suc n)
  -- and none leads to one that is nearer by more
  pub bound : (f i n : ℕ) → leaves g f i ≡ true → distance distances (target g i) ≡ suc n → (k : ℕ) × (distance distances f ≡ suc k) × (k ≤ suc n)

---- first steps

-- the edge leaves the file and leads to one that is nearer by 1
abbrev pub IsNearer : Graph → (distances : List ℕ) → (file edge : ℕ) → Type 0
IsNearer g distances f i = (leaves g f i ≡ true) × (distance distances f ≡ distance distances (target g i) + 1)

-- for each file the first edge from this number on that leads to a nearer one, where there is one
abbrev pub AreStepsFrom : Graph → (distances : List ℕ) → (first : ℕ) → (steps : List ℕ) → Type 0
AreStepsFrom g distances first steps =
    (f i : ℕ) → first ≤ i → IsNearer g distances f i → IsNearer g distances f (slice_index steps f) × (slice_index steps f ≤ i)

-- so many steps from a file on
abbrev pub walk_by : Graph → (steps : List ℕ) → (count file : ℕ) → List ℕ
walk_by g steps zero f = []
walk_by g steps (suc n) f = slice_index steps f ∷ walk_by g steps n (target g (slice_index steps f))

-- the walk that begins at a source
abbrev pub reaching_by : Graph → (distances steps : List ℕ) → (source : ℕ) → Reaching
reaching_by g distances steps s = record { source = s; chain = walk_by g steps (distance distances s - 1) s }

-- where it leads to a header
abbrev pub reaching_at : Graph → (distances steps : List ℕ) → (source : ℕ) → Option Reaching
reaching_at g distances steps s = if distance distances s == 0 then None else Some (reaching_by g distances steps s)

-- those of the sources from this place on
abbrev pub reaching_from : Graph → (distances steps : List ℕ) → (next : ℕ) → List Reaching
reaching_from g distances steps next = filter_map (reaching_at g distances steps) (drop next g.sources)

-- the place after that of the next source that reaches a header, of those from a place on
pub record IsNextReaching (g : Graph) (distances : List ℕ) (next after : ℕ) : Type 0 where
  -- the source is before it
  pub source : ℕ
  pub at : slice_get g.sources (after - 1) ≡ Some source
  -- it is a later one
  pub later : next < after
  -- and at most that at the end
  pub within : after ≤ length g.sources
  -- the source is the first of those that are left
  pub left : (steps : List ℕ) → reaching_from g distances steps next ≡ reaching_by g distances steps source ∷ reaching_from g distances steps after

---- what is kept

-- what is known of each file of a graph, and that chains have at most so many edges
pub record AreWays (g : Graph) (distances steps : List ℕ) (most : ℕ) : Type 0 where
  pub sound : IsSound g
  pub distances_are : AreDistances g distances
  pub steps_are : AreStepsFrom g distances 0 steps
  pub steps_long : length steps ≡ g.files
  pub few : (f : ℕ) → distance distances f ≤ most
