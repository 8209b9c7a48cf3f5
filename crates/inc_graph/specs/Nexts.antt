-- The direct include directives of the files that are read, and what a further way in which their file is found makes of them: in the same
-- include path of those that are #include_next, and in another one of all.
use Rattle.std.specs.Prelude.{ℕ, zero, suc, ◌+◌, ◌==◌, ◌++◌, Bool, false, leb, List, [], ◌∷◌, Option, Some, None, Result, Ok, Err, Vec, drop, flat_map, fold, map, option_map, slice_get, slice_index_or, filter_map, if◌then◌else◌}
use Rattle.std.specs.List.Sorted.{IsPartitionedBy}
use Rattle.std.specs.Global.{Global}
use Rattle.std.specs.List.{slice_set}
use Rattle.std.specs.Option.{option_map_or}
use Rattle.inc_text.specs.PhaseText.{phase_text}
use Rattle.inc_token.specs.declared.kinds.IncludeName.TheVariants.{IncludeNext}
use Rattle.inc_directive.specs.LineKinds.{LineKind, Include, Other, Quoted, Angled, ByName, Computed}
use Rattle.inc_directive.specs.declared.kinds.DirectiveKind.TheVariants.{Foreign}
use Rattle.inc_directive.specs.FileDirectives.{Directive}
use Rattle.inc_directive.specs.declared.files.FileFault.{FileFault}
use Rattle.inc_lookup.specs.declared.projects.Form.{Form}
use Rattle.inc_lookup.specs.declared.projects.Found.{Found}
use Rattle.inc_lookup.specs.Paths.{is_absolute}
use Rattle.inc_lookup.specs.Projects.{Layout, path_at, path_from, spot_of, found_at, found_place}
use Rattle.inc_graph.specs.declared.building.entries.Entry as declared_entry
use Rattle.inc_graph.specs.FileEntries.{Entry}
use Rattle.inc_graph.specs.declared.building.entries.Entry.TheVariants as entry
use Rattle.inc_graph.specs.declared.graphs.BlockerKind.TheVariants as kind
use Rattle.inc_graph.specs.HeaderNames.{HeaderName, name_at}
use Rattle.inc_graph.specs.IncludeGraph.{Named, direct_header, named_place, text_directives}
use Rattle.inc_graph.specs.declared.building.directs.KeptDirect.{KeptDirect}
use Rattle.inc_graph.specs.declared.building.directs.PlacedDirect.{PlacedDirect}
use Rattle.inc_graph.specs.Settings.{Setting}

-- an #include_next at a place among the include directives of its file
pub record Next : Type 0 where
  pub index : ℕ
  -- what it finds where its file looks as an #include does
  pub alone : Option Found
  -- what it finds in the directories of the include path, in their order
  pub hits : List Found

-- what is found of a name in the directories of the include path from a place on, or of an absolute one
abbrev pub hits_from : Layout → List ℕ → ℕ → List Found
hits_from layout name k =
    filter_map (found_at layout.paths) (if is_absolute name then record { path = name; next = None } ∷ [] else map (spot_of name) (path_from k (drop k layout.search.dirs)))

abbrev pub next_at : Layout → (file index : ℕ) → Form → List ℕ → Next
next_at layout file index form name = record { index = index; alone = found_place layout (path_at layout file) form None name; hits = hits_from layout name 0 }

-- it was found in a directory before this one
abbrev pub is_past : ℕ → Found → Bool
is_past k hit = option_map_or (λ n. leb n k) hit.next false

-- those before a directory come first
abbrev pub AreRising : List Found → Type 0
AreRising hits = (k : ℕ) → IsPartitionedBy (is_past k) hits

-- the first that was not
abbrev pub first_hit : ℕ → List Found → Option Found
first_hit k [] = None
first_hit k (h ∷ hs) = if is_past k h then first_hit k hs else Some h

-- what it finds, by where its file says that it goes on
abbrev pub next_found : Next → Option ℕ → Option Found
next_found n None = n.alone
next_found n (Some k) = first_hit k n.hits

-- those of each file whose directives were looked up in an include path; the first list is of none
abbrev pub list_at : List (Vec Next Global) → ℕ → Option (List Next)
list_at lists zero = None
list_at lists (suc k) = option_map (λ (list : Vec Next Global). list.items) (slice_get lists k)

abbrev pub lists_at : List (Vec Next Global) → List ℕ → List (Option (List Next))
lists_at lists places = map (list_at lists) places

-- what names a header, if it is one, where so many include directives come before it
abbrev pub next_by : Layout → (file index : ℕ) → Named → List Next
next_by layout file index header = elim header.by [ IncludeNext ↦ next_at layout file index header.form header.name ∷ [] | _ ↦ [] ]

abbrev pub next_of : Layout → (file index : ℕ) → LineKind → List Next
next_of layout file index k = option_map_or (next_by layout file index) (direct_header k) []

-- how many include directives a directive is
abbrev pub entry_count : LineKind → ℕ
entry_count (Include by (Quoted name)) = 1
entry_count (Include by (Angled name)) = 1
entry_count (Include by (ByName name)) = 1
entry_count (Include by Computed) = 1
entry_count (Other Foreign) = 1
entry_count _ = 0

-- those of some directives, where so many include directives come before them
abbrev pub nexts_from : Layout → (file index : ℕ) → List Directive → List Next
nexts_from layout file index [] = []
nexts_from layout file index (d ∷ ds) = next_of layout file index d.kind ++ nexts_from layout file (index + entry_count d.kind) ds

abbrev pub nexts_of : Layout → (file : ℕ) → Result (List Directive) FileFault → List Next
nexts_of layout file (Ok directives) = nexts_from layout file 0 directives
nexts_of layout file (Err fault) = []

-- those of a file with these bytes
abbrev pub bytes_nexts : Setting → Layout → (file : ℕ) → List ℕ → List Next
bytes_nexts setting layout file bytes = nexts_of layout file (text_directives setting file (phase_text setting.language bytes))

---- the direct include directives of a file, in a further include path

-- one at a place among the include directives of its file
pub record Direct : Type 0 where
  pub index : ℕ
  pub header : Named

abbrev pub direct_at : (index : ℕ) → LineKind → List Direct
direct_at index k = option_map_or (λ (header : Named). record { index = index; header = header } ∷ []) (direct_header k) []

-- those of some directives, where so many include directives come before them
abbrev pub directs_from : (index : ℕ) → List Directive → List Direct
directs_from index [] = []
directs_from index (d ∷ ds) = direct_at index d.kind ++ directs_from (index + entry_count d.kind) ds

abbrev pub directs_of : Result (List Directive) FileFault → List Direct
directs_of (Ok directives) = directs_from 0 directives
directs_of (Err fault) = []

-- those of a file with these bytes
abbrev pub bytes_directs : Setting → (file : ℕ) → List ℕ → List Direct
bytes_directs setting file bytes = directs_of (text_directives setting file (phase_text setting.language bytes))

-- one of the program as the definitions see it
abbrev pub seen_placed : PlacedDirect → Direct
seen_placed d = record { index = d.index; header = record { by = d.by; form = d.header.form; name = d.header.name.now } }

-- one with the number of its header among names
abbrev pub named_direct : List HeaderName → KeptDirect → Direct
named_direct names d =
    let header : HeaderName = name_at names d.header in
    record { index = d.index; header = record { by = d.by; form = header.form; name = header.name } }

-- those of each file that is read, by the places of their lists; 0 is that of no list
abbrev pub kept_at : List (List Direct) → ℕ → List Direct
kept_at lists zero = []
kept_at lists (suc k) = slice_index_or lists k []

-- what one finds in a file that is found so
abbrev pub direct_found : Layout → Found → Direct → Option Found
direct_found layout at d = named_place layout at d.header

abbrev pub directs_found : Layout → Found → List Direct → List Found
directs_found layout at directs = filter_map (direct_found layout at) directs

-- the #include_next directives among them
abbrev pub nexts_among : Layout → (file : ℕ) → List Direct → List Next
nexts_among layout file directs = flat_map (λ (d : Direct). next_by layout file d.index d.header) directs

---- a further way in which a file is found

-- an include directive leads to this file too
abbrev pub led_entry : {H : Type 0} → ℕ → declared_entry.Entry H → declared_entry.Entry H
led_entry file (entry.Missing line header) = entry.Edge file line
led_entry file (entry.Edge other line) = if other == file then entry.Edge other line else entry.Blocker line kind.Several
led_entry file e = e

-- that at a place among several leads to this file too
abbrev pub led_at : (index file : ℕ) → List Entry → List Entry
led_at index file es = elim (slice_get es index) [ Some e ↦ slice_set es index (led_entry file e) | None ↦ es ]

-- what is known of a file, if it is read
abbrev pub led_state : (index file : ℕ) → Option (Result (List Entry) FileFault) → Option (Result (List Entry) FileFault)
led_state index file (Some (Ok es)) = Some (Ok (led_at index file es))
led_state index file s = s

-- that at a place among its include directives leads to what it finds, if it finds anything
abbrev pub led_to : (index : ℕ) → Option Found → Option (Result (List Entry) FileFault) → Option (Result (List Entry) FileFault)
led_to index found s = option_map_or (λ (f : Found). led_state index f.file s) found s

-- an #include_next leads from a file, which is found so, to what it finds there
abbrev pub followed : Option ℕ → Option (Result (List Entry) FileFault) → Next → Option (Result (List Entry) FileFault)
followed next s n = led_to n.index (next_found n next) s

abbrev pub with_nexts : Option ℕ → Option (Result (List Entry) FileFault) → List Next → Option (Result (List Entry) FileFault)
with_nexts next s nexts = fold (followed next) s nexts

-- what they find
abbrev pub nexts_found : Option ℕ → List Next → List Found
nexts_found next nexts = filter_map (λ (n : Next). next_found n next) nexts

-- each direct include directive leads from a file, which is found so in a further include path, to what it finds there
abbrev pub with_direct : Layout → Found → Option (Result (List Entry) FileFault) → Direct → Option (Result (List Entry) FileFault)
with_direct layout at s d = led_to d.index (direct_found layout at d) s

abbrev pub with_directs : Layout → Found → Option (Result (List Entry) FileFault) → List Direct → Option (Result (List Entry) FileFault)
with_directs layout at s directs = fold (with_direct layout at) s directs
