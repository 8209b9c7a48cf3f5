-- What the include directives of a file are to the graph, as they are kept of each file that is read.
use Rattle.std.specs.Prelude.{◌≡◌, ◌≢◌, ℕ, ◌<◌, ◌++◌, List, [], Option, Some, None, Result, Ok, Err, length, filter_map, map, slice_get, slice_index, slice_index_or}
use Rattle.std.specs.List.{All}
use Rattle.inc_text.specs.PhaseText.{phase_text}
use Rattle.inc_graph.specs.Settings.{Setting, layouts_of}
use Rattle.inc_directive.specs.FileDirectives.{Directive}
use Rattle.inc_directive.specs.declared.files.FileFault.{FileFault}
use Rattle.inc_lookup.specs.declared.projects.Found.{Found}
use Rattle.inc_lookup.specs.Projects.{Layout, Listing, bytes_at}
use Rattle.inc_graph.specs.IncludeGraph.{Named, Lead, Nowhere, Start, with_found, text_definitions, text_directives, entry_at, entry_of, found_by}
use Rattle.inc_graph.specs.FileEntries.{Definition, Entry, definition_entry}
use Rattle.inc_graph.specs.declared.building.file_entries.Direct.{Direct}
use Rattle.inc_graph.specs.declared.building.file_entries.FileState.{FileState}
use Rattle.inc_graph.specs.declared.building.file_entries.FileState.TheVariants.{Unread, Read, Bad}

-- a direct include directive of the program as the definitions see it
abbrev pub seen_direct : Direct → Named
seen_direct d = record { by = d.by; form = d.header.form; name = d.header.name.now }

-- where a directive leads that finds this and is looked at once
abbrev pub found_lead : Option Found → Lead
found_lead found = with_found found Nowhere

-- what an include directive is of a file that is found so and in no other way
abbrev pub entry_alone : (names : List (List ℕ)) → Layout → Found → Directive → Option Entry
entry_alone names layout at d = entry_at names (found_lead (found_by layout at d)) d.kind d.line

-- the include directives of a file with these directives, each as it is given, and after them its definitions of names that no build
-- defines; or its fault
abbrev pub entries_of : (what : Directive → Option Entry) → (definitions : List Definition) → Result (List Directive) FileFault → Result (List Entry) FileFault
entries_of what definitions (Ok directives) = Ok (filter_map what directives ++ map definition_entry definitions)
entries_of what definitions (Err fault) = Err fault

-- those of a file with these bytes
abbrev pub bytes_entries : Setting → (what : Directive → Option Entry) → ℕ → List ℕ → Result (List Entry) FileFault
bytes_entries setting what file bytes =
    entries_of what (text_definitions setting (phase_text setting.language bytes)) (text_directives setting file (phase_text setting.language bytes))

-- those of a file that is found in these ways
abbrev pub file_entries : Setting → Listing → (starts : List Start) → ℕ → Result (List Entry) FileFault
file_entries setting listing starts file =
    bytes_entries setting (entry_of setting.undefined (layouts_of setting listing) starts file) file (bytes_at listing file)

-- what the directives of a file find that is found so
abbrev pub directives_found : Layout → Found → Result (List Directive) FileFault → List Found
directives_found layout at (Ok directives) = filter_map (found_by layout at) directives
directives_found layout at (Err fault) = []

-- those of a file with these bytes
abbrev pub bytes_found : Setting → Layout → Found → List ℕ → List Found
bytes_found setting layout at bytes = directives_found layout at (text_directives setting at.file (phase_text setting.language bytes))

-- what is known of a file, if it is read
abbrev pub seen_state : FileState → Option (Result (List Entry) FileFault)
seen_state Unread = None
seen_state (Read entries) = Some (Ok entries)
seen_state (Bad fault) = Some (Err fault)

-- what is known of each of several files, by the places of their records
abbrev pub states_at : List FileState → List ℕ → List (Option (Result (List Entry) FileFault))
states_at records places = map (λ k. seen_state (slice_index_or records k Unread)) places

-- the first record is of files that are not read, and no two files that are read share one
pub record AreRecords (records : List FileState) (places : List ℕ) : Type 0 where
  pub within : All (λ k. k < length records) places
  pub unread : slice_get records 0 ≡ Some Unread
  pub apart : (f g : ℕ) → f < length places → g < length places → slice_index places f ≡ slice_index places g → f ≢ g → slice_index places f ≡ 0
