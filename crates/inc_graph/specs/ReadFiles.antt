-- Which files are read for a graph, and what a refusal says of the files and of their reading.
use Rattle.std.specs.Prelude.{◌≡◌, ◌≢◌, ℕ, false, List, Option, Some, None, Result, Err}
use Rattle.std.specs.List.{All}
use Rattle.inc_text.specs.declared.devices.ReadFault.{ReadFault}
use Rattle.inc_text.specs.declared.devices.ReadFault.TheVariants.{TooLong, Read}
use Rattle.inc_graph.specs.Members.{is_member}
use Rattle.inc_graph.specs.Settings.{Setting}
use Rattle.inc_lookup.specs.Given.{Given, IsOnce}
use Rattle.inc_lookup.specs.Projects.{Listing}
use Rattle.inc_graph.specs.declared.building.GraphRefusal.{GraphRefusal}
use Rattle.inc_graph.specs.declared.building.GraphRefusal.TheVariants.{BadFile, TooManyDirectives, CannotRead, FileTooLong, NoMemory}
use Rattle.inc_graph.specs.IncludeGraph.{InClosure}
use Rattle.inc_graph.specs.declared.building.Source.{Source}

-- only files of the closure were read, each once, and never a header
abbrev pub IsOfClosure : Setting → (sources : List Source) → (headers : List ℕ) → List Given → Listing → Type 0
IsOfClosure setting sources headers given listing =
    All (λ (g : Given). InClosure setting listing sources headers g.file × (is_member g.file headers ≡ false)) given × IsOnce given

-- and this file, whose reading failed, is a further one
abbrev pub IsReachedAfter : Setting → (sources : List Source) → (headers : List ℕ) → (file : ℕ) → List Given → Listing → Type 0
IsReachedAfter setting sources headers file given listing =
    IsOfClosure setting sources headers given listing × InClosure setting listing sources headers file × (is_member file headers ≡ false) × All (λ (g : Given). g.file ≢ file) given

-- the file that was not read, and why
abbrev pub read_fault_of : GraphRefusal → Option (ℕ × ReadFault)
read_fault_of (CannotRead file) = Some (file, Read)
read_fault_of (FileTooLong file) = Some (file, TooLong)
read_fault_of _ = None

-- what the files hold refuses the graph
abbrev pub IsOfFiles : GraphRefusal → Type 0
IsOfFiles (BadFile file fault) = Unit {0}
IsOfFiles TooManyDirectives = Unit {0}
IsOfFiles _ = ⊥

-- a refusal after one reading of a file: it tells how that failed, or memory ran out
abbrev pub IsUnread : {S : Type 0} → (S → ℕ → Result (List ℕ) ReadFault → S → Type 0) → (old new : S) → (file : ℕ) → GraphRefusal → Type 0
IsUnread gives old new file (CannotRead f) = (f ≡ file) × gives old f (Err Read) new
IsUnread gives old new file (FileTooLong f) = (f ≡ file) × gives old f (Err TooLong) new
IsUnread gives old new file NoMemory = Unit {0}
IsUnread gives old new file _ = ⊥
