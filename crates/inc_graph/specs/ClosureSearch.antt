-- What is known of the files of the closure when they are read, one include path after the other.
use Rattle.std.specs.Prelude.{◌≡◌, ◌↔◌, ℕ, suc, ◌<◌, ◌≤◌, ◌&&◌, false, true, not, List, [], Option, Some, None, Result, Contains, if◌then◌else◌, length, map, slice_index_or}
use Rattle.std.specs.List.{All, range_with_len}
use Rattle.inc_text.specs.declared.devices.ReadFault.{ReadFault}
use Rattle.inc_directive.specs.declared.files.FileFault.{FileFault}
use Rattle.inc_graph.specs.Members.{is_member}
use Rattle.inc_graph.specs.OnePath.{path_sources}
use Rattle.inc_graph.specs.ReadFiles.{IsReachedAfter}
use Rattle.inc_graph.specs.Settings.{Setting, layout_in}
use Rattle.inc_lookup.specs.Given.{Given, Gave, Agrees, FailsAfter, IsOnce}
use Rattle.inc_lookup.specs.Projects.{Layout, Listing, layout_of}
use Rattle.inc_graph.specs.FileEntries.{Entry}
use Rattle.inc_graph.specs.IncludeGraph.{IsClosure, IsFoundSo, Start, is_found, read_directives}
use Rattle.inc_graph.specs.Entries.{file_entries}
use Rattle.inc_graph.specs.Nexts.{Direct, directs_of}
use Rattle.inc_graph.specs.declared.building.Source.{Source}

-- what is known of a file when those of the closure are read, the headers aside
abbrev pub state_of : Setting → Listing → (starts : ℕ → List Start) → (headers : List ℕ) → ℕ → Option (Result (List Entry) FileFault)
state_of setting listing starts headers f =
    if is_found (starts f) && not (is_member f headers) then Some (file_entries setting listing (starts f) f) else None

abbrev pub AreStates : Setting → Listing → (sources : List Source) → (headers : List ℕ) → List (Option (Result (List Entry) FileFault)) → Type 0
AreStates setting listing sources headers states =
    (starts : ℕ → List Start) × IsClosure setting listing sources headers starts
    × (states ≡ map (state_of setting listing starts headers) (range_with_len 0 (length listing.files)))

---- the include paths one after the other

-- the direct include directives of a file
abbrev pub file_directs : Setting → Listing → ℕ → List Direct
file_directs setting listing f = directs_of (read_directives setting listing f)

-- there are several include paths
abbrev pub AreSeveral : Setting → Type 0
AreSeveral setting = 0 < length setting.others

-- where files are found in these ways, the direct include directives of those that are read, the headers aside
pub record AreDirects (setting : Setting) (listing : Listing) (headers : List ℕ) (starts : ℕ → List Start) (directs : List (List Direct)) : Type 0 where
  pub long : length directs ≡ length listing.files
  pub kept : (f : ℕ) → is_found (starts f) ≡ true → is_member f headers ≡ false → slice_index_or directs f [] ≡ file_directs setting listing f

-- the first so many include paths are searched: files are found in these ways, and so much is known of them
pub record AreSearched (setting : Setting) (listing : Listing) (sources : List Source) (headers : List ℕ) (paths : ℕ) (starts : ℕ → List Start) (states : List (Option (Result (List Entry) FileFault))) (directs : List (List Direct)) : Type 0 where
  -- these are the ways in which each file is found in these include paths
  pub ways : (file : ℕ) (start : Start) → Contains (starts file) start ↔ ((start.path < paths) × IsFoundSo setting listing sources headers file start)
  -- something is known of each file
  pub wide : length states ≡ length listing.files
  -- namely what it is in these ways
  pub known : (f : ℕ) → slice_index_or states f None ≡ state_of setting listing starts headers f
  -- where there are several include paths, the direct include directives are kept
  pub held : AreSeveral setting → AreDirects setting listing headers starts directs

-- a file that was read is found, and is no header
abbrev pub IsTaken : (starts : ℕ → List Start) → (headers : List ℕ) → Given → Type 0
IsTaken starts headers g = (is_found (starts g.file) ≡ true) × (is_member g.file headers ≡ false)

-- with what was given so far the first so many include paths are searched in each listing that agrees with it, and there is one
pub record AreGivenSearched {S : Type 0} (gives : S → ℕ → Result (List ℕ) ReadFault → S → Type 0) (old new : S) (setting : Setting) (layout : Layout) (sources : List Source) (headers : List ℕ) (paths : ℕ) (states : List (Option (Result (List Entry) FileFault))) (directs : List (List Direct)) : Type 0 where
  -- what was read
  pub given : List Given
  -- the sources gave that
  pub gave : Gave gives old given new
  -- a listing that agrees with it
  pub witness : Listing
  -- of the same paths
  pub laid_out : layout_of witness ≡ layout
  -- it has these bytes
  pub agrees : Agrees given witness
  -- each file is found in these ways
  pub starts : ℕ → List Start
  -- each file that was read is one of them
  pub read : All (IsTaken starts headers) given
  -- each was read once
  pub once : IsOnce given
  -- and this is so in each such listing
  pub every : (listing : Listing) → layout_of listing ≡ layout → Agrees given listing → AreSearched setting listing sources headers paths starts states directs

---- one include path

-- of sources that are read with several include paths, a search is in this one, from those that are read with it
pub record IsSearchOf (setting : Setting) (layout : Layout) (sources : List Source) (path : ℕ) (lookup : Layout) (from : List ℕ) : Type 0 where
  -- there is such an include path
  pub within : path ≤ length setting.others
  -- it is searched
  pub lookup_is : lookup ≡ layout_in setting.others layout path
  -- from these files
  pub from_is : from ≡ path_sources path sources

-- for some sources the include paths before the one in which this search is are searched
pub record AreSearchedBefore {S : Type 0} (gives : S → ℕ → Result (List ℕ) ReadFault → S → Type 0) (old : S) (setting : Setting) (headers : List ℕ) (lookup : Layout) (from : List ℕ) (states : List (Option (Result (List Entry) FileFault))) (directs : List (List Direct)) : Type 0 where
  pub first : S
  pub layout : Layout
  pub sources : List Source
  pub path : ℕ
  pub is : IsSearchOf setting layout sources path lookup from
  pub searched : AreGivenSearched gives first old setting layout sources headers path states directs

-- for whichever sources they are, that one is searched too
abbrev pub IsSearchedToo : {S : Type 0} → (S → ℕ → Result (List ℕ) ReadFault → S → Type 0) → (old new : S) → Setting → (headers : List ℕ) → (lookup : Layout) → (from : List ℕ)
    → (old_states : List (Option (Result (List Entry) FileFault))) → (old_directs : List (List Direct)) → (states : List (Option (Result (List Entry) FileFault))) → (directs : List (List Direct)) → Type 0
IsSearchedToo {S} gives old new setting headers lookup from old_states old_directs states directs =
    (first : S) (layout : Layout) (sources : List Source) (path : ℕ) → IsSearchOf setting layout sources path lookup from →
    AreGivenSearched gives first old setting layout sources headers path old_states old_directs →
    AreGivenSearched gives first new setting layout sources headers (suc path) states directs

-- or a file that it reaches was not read
abbrev pub FailsThen : {S : Type 0} → (S → ℕ → Result (List ℕ) ReadFault → S → Type 0) → (old new : S) → Setting → (headers : List ℕ) → (lookup : Layout) → (from : List ℕ)
    → (states : List (Option (Result (List Entry) FileFault))) → (directs : List (List Direct)) → (file : ℕ) → ReadFault → Type 0
FailsThen {S} gives old new setting headers lookup from states directs file fault =
    (first : S) (layout : Layout) (sources : List Source) (path : ℕ) → IsSearchOf setting layout sources path lookup from →
    AreGivenSearched gives first old setting layout sources headers path states directs →
    FailsAfter gives first new layout file fault (IsReachedAfter setting sources headers file)
