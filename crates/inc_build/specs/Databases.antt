-- A compilation database: an array of entries.
use Rattle.std.specs.Prelude.{◌≡◌, ◌≢◌, ℕ, suc, List, [], ◌∷◌, Option, Some, None, Result, Ok, Err}
use Rattle.serde_json.specs.Data.{Data, Items, no_items, item}
use Rattle.serde_json.specs.Find.{as_array}
use Rattle.inc_build.specs.Entries.{Entry, entry}
use Rattle.inc_build.specs.declared.databases.DatabaseFault.{DatabaseFault}
use Rattle.inc_build.specs.declared.databases.DatabaseFault.TheVariants.{NoArray, BadEntry, NoMemory}
use Rattle.inc_build.specs.declared.entries.EntryFault.TheVariants as entry_fault
use Rattle.inc_build.specs.declared.entries.EntryFault.{EntryFault}

-- an entry, by its number, and those after it
abbrev pub with_entry : ℕ → Result Entry EntryFault → Result (List Entry) DatabaseFault → Result (List Entry) DatabaseFault
with_entry number (Err fault) more = Err (BadEntry number fault)
with_entry number (Ok e) (Err fault) = Err fault
with_entry number (Ok e) (Ok es) = Ok (e ∷ es)

-- entries that are numbered from here on, or the fault of the first that is none
abbrev pub entries_from : ℕ → Items → Result (List Entry) DatabaseFault
entries_from number no_items = Ok []
entries_from number (item d ds) = with_entry number (entry d) (entries_from (suc number) ds)

abbrev pub listed : Option Items → Result (List Entry) DatabaseFault
listed None = Err NoArray
listed (Some items) = entries_from 1 items

abbrev pub entries : Data → Result (List Entry) DatabaseFault
entries database = listed (as_array database)

-- a fault is that of an entry with its number, or that memory ran out
abbrev pub IsNumbered : ℕ → {T : Type 0} → Result T EntryFault → DatabaseFault → Type 0
IsNumbered number entry fault = fault ≢ NoMemory → (f : EntryFault) × (entry ≡ Err f) × (f ≢ entry_fault.NoMemory) × (fault ≡ BadEntry number f)
