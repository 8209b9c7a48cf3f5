-- What includes cost: the bytes of all files that sources reach, and how many of them go when directives are removed. Nothing here searches.
use Rattle.std.specs.Prelude.{◌≡◌, ℕ, Bool, false, ◌+◌, ◌<◌, ◌≤◌, ◌⊎◌, not, nat_lt, List, [], ◌∷◌, Some, if◌then◌else◌, map, length, slice_get, slice_index, slice_index_or, sum, Contains, ◌↔◌, IsTrue}
use Rattle.std.specs.List.Sorted.{IsStrictlyIncreasing}
use Rattle.inc_graph.specs.Chains.{target, leaves, is_walk, files_on}
use Rattle.inc_graph.specs.Cuts.{meets}
use Rattle.inc_graph.specs.IncludeGraph.{Graph}
use Rattle.inc_graph.specs.Members.{is_member}

-- a walk from the source leads to the file, by edges none of which is in the set
abbrev pub IsReachedWithout : Graph → (set : List ℕ) → (source file : ℕ) → Type 0
IsReachedWithout g set source file = (walk : List ℕ) × IsTrue (is_walk g source walk file) × IsTrue (not (meets walk set))

-- these files are so, and no others
abbrev pub IsReach : Graph → (set : List ℕ) → (source : ℕ) → List ℕ → Type 0
IsReach g set source files = IsStrictlyIncreasing files × ((file : ℕ) → Contains files file ↔ IsReachedWithout g set source file)

-- what files weigh, each of which has a weight; one past the end has none
abbrev pub weight_of : (weights : List ℕ) → (files : List ℕ) → ℕ
weight_of weights files = sum (map (λ f. slice_index_or weights f 0) files)

-- what a source reaches weighs so much once the set is removed
abbrev pub IsWeight : Graph → (weights : List ℕ) → (set : List ℕ) → (source : ℕ) → ℕ → Type 0
IsWeight g weights set source n = (files : List ℕ) × IsReach g set source files × (n ≡ weight_of weights files)

-- a number that each of several sources has, summed up
pub data IsSum (Has : (source n : ℕ) → Type 0) : (sources : List ℕ) → ℕ → Type 0 where
  no_source : IsSum Has [] 0
  and_source : {source n total : ℕ} {sources : List ℕ} →
      Has source n → IsSum Has sources total → IsSum Has (source ∷ sources) (n + total)

-- what several sources reach, each counted by itself
abbrev pub IsTotal : Graph → (weights set sources : List ℕ) → ℕ → Type 0
IsTotal g weights set sources n = IsSum (λ source m. IsWeight g weights set source m) sources n

-- how much less that is without the set
pub record IsSaving (g : Graph) (weights set : List ℕ) (sources : List ℕ) (saved : ℕ) : Type 0 where
  pub whole : ℕ
  pub rest : ℕ
  pub is_whole : IsTotal g weights [] sources whole
  pub is_rest : IsTotal g weights set sources rest
  pub sums : whole ≡ saved + rest

-- 1 where what the source reaches weighs less without the set, and else 0
abbrev pub IsSparing : Graph → (weights set : List ℕ) → (source : ℕ) → ℕ → Type 0
IsSparing g weights set source n =
    (whole rest : ℕ) × IsWeight g weights [] source whole × IsWeight g weights set source rest × (n ≡ (if nat_lt rest whole then 1 else 0))

---- one file in the way

-- the walk visits the file, at its beginning or after an edge
abbrev pub visits : Graph → (source : ℕ) → (walk : List ℕ) → (file : ℕ) → Bool
visits g source walk file = is_member file (files_on g source walk)

-- each walk from the source to the file passes this one
abbrev pub IsPassed : Graph → (source passed file : ℕ) → Type 0
IsPassed g source passed file = (walk : List ℕ) → IsTrue (is_walk g source walk file) → IsTrue (visits g source walk passed)

-- the files that only it brings: those that the source reaches, each by walks that all pass it
abbrev pub AreBrought : Graph → (source header : ℕ) → List ℕ → Type 0
AreBrought g source header files = IsStrictlyIncreasing files × ((file : ℕ) → Contains files file ↔ (IsReachedWithout g [] source file × IsPassed g source header file))

-- what these weigh
abbrev pub IsBrought : Graph → (weights : List ℕ) → (header source : ℕ) → ℕ → Type 0
IsBrought g weights header source n = (files : List ℕ) × AreBrought g source header files × (n ≡ weight_of weights files)

-- 1 where the source reaches the file, and else 0
abbrev pub IsReaching : Graph → (file source : ℕ) → ℕ → Type 0
IsReaching g file source n = (IsReachedWithout g [] source file × (n ≡ 1)) ⊎ ((IsReachedWithout g [] source file → ⊥) × (n ≡ 0))

---- all of them

-- for each edge how much less all sources weigh without it alone, and of how many sources it takes something away
pub record AreSaved (g : Graph) (weights sources : List ℕ) (bytes counts : List ℕ) : Type 0 where
  pub long : length bytes ≡ length g.edges
  pub counted : length counts ≡ length g.edges
  pub bytes_are : (edge : ℕ) → edge < length g.edges → IsSaving g weights (edge ∷ []) sources (slice_index bytes edge)
  pub counts_are : (edge : ℕ) → edge < length g.edges → IsSum (IsSparing g weights (edge ∷ [])) sources (slice_index counts edge)

-- for each file what comes into all sources only through it, and how many of them reach it
pub record AreAllBrought (g : Graph) (weights sources : List ℕ) (bytes counts : List ℕ) : Type 0 where
  pub long : length bytes ≡ g.files
  pub counted : length counts ≡ g.files
  pub bytes_are : (file : ℕ) → file < g.files → IsSum (IsBrought g weights file) sources (slice_index bytes file)
  pub counts_are : (file : ℕ) → file < g.files → IsSum (IsReaching g file) sources (slice_index counts file)

---- a group of files

-- a group by paths that name its files, and what it is called
pub record Group : Type 0 where
  pub name : List ℕ
  pub paths : List (List ℕ)

-- the file is one of them
abbrev pub is_among : (group : List Bool) → (file : ℕ) → Bool
is_among group file = slice_index_or group file false

-- the edge leads to one of them from a file that is none
abbrev pub IsEntry : Graph → (group : List Bool) → (edge : ℕ) → Type 0
IsEntry g group edge = (from : ℕ) × IsTrue (leaves g from edge) × IsTrue (not (is_among group from)) × IsTrue (is_among group (target g edge))

-- these edges do, and no others
abbrev pub AreEntries : Graph → (group : List Bool) → (set : List ℕ) → Type 0
AreEntries g group set = IsStrictlyIncreasing set × ((edge : ℕ) → Contains set edge ↔ IsEntry g group edge)

-- how much less all sources weigh without these edges, and of how many sources that takes something away
abbrev pub IsKeptOut : Graph → (weights : List ℕ) → (group : List Bool) → (bytes count : ℕ) → Type 0
IsKeptOut g weights group bytes count =
    (set : List ℕ) × AreEntries g group set × IsSaving g weights set g.sources bytes × IsSum (IsSparing g weights set) g.sources count

---- the greatest

-- the amount at one place is greater than that at another, or as great and stands before it
abbrev pub IsDearer : (amounts : List ℕ) → (first other : ℕ) → Type 0
IsDearer amounts first other =
    (slice_index amounts other < slice_index amounts first) ⊎ ((slice_index amounts other ≡ slice_index amounts first) × (first < other))

-- the places of the greatest amounts, at most so many, from the greatest on; an amount of 0 has none
pub record AreDearest (amounts : List ℕ) (most : ℕ) (places : List ℕ) : Type 0 where
  pub few : length places ≤ most
  pub some : (k place : ℕ) → slice_get places k ≡ Some place → 0 < slice_index amounts place
  pub order : (j k first other : ℕ) → j < k → slice_get places j ≡ Some first → slice_get places k ≡ Some other → IsDearer amounts first other
  -- one that is left out is after all of them, of which there are so many as there may be
  pub rest : (place : ℕ) → 0 < slice_index amounts place → IsTrue (is_member place places)
      ⊎ ((length places ≡ most) × ((k first : ℕ) → slice_get places k ≡ Some first → IsDearer amounts first place))
