-- The include graph of a project. Edges are the direct include directives that lead to one file (ISO/IEC 9899:2018, 6.10.2),
-- in whatever group they are. Which files the graph looks at is a relation by steps: no search is in these definitions. A step depends
-- on how its file was found, since an #include_next looks on from there; an edge is one of the file, however that was found.
--
-- A source is read with an include path, and so is all that steps from it lead to. Where sources have several, the graph is the union of
-- those of each include path: a directive to which two of them give different files is no edge and stops.
use Rattle.std.specs.Prelude.{◌≡◌, ◌≢◌, ℕ, ◌+◌, ◌<◌, ◌≤◌, ◌==◌, ◌&&◌, ◌||◌, not, Bool, true, false, List, [], ◌∷◌, Option, Some, None, Result, Ok, Err, if◌then◌else◌, ◌++◌, fold, length, filter, filter_map, flat_map, map, nat_lt, bytes_eq, option_and_then, option_map, position, IsTrue, ◌↔◌, Contains, ⊤}
use Rattle.std.specs.List.{All, list_all, list_any, range_with_len}
use Rattle.std.specs.List.Sorted.{IsStrictlyIncreasing}
use Rattle.inc_text.specs.PhaseText.{Cell, phase_text}
use Rattle.inc_graph.specs.Members.{is_member}
use Rattle.inc_graph.specs.Settings.{Setting, layouts_of}
use Rattle.inc_token.specs.declared.kinds.IncludeName.{IncludeName}
use Rattle.inc_token.specs.LineWalk.{lines_or_none}
use Rattle.inc_token.specs.TokenLines.{token_lines}
use Rattle.inc_directive.specs.Groups.{FileLine, directive_line, file_lines}
use Rattle.inc_directive.specs.LineKinds.{LineKind, Include, Other, Quoted, Angled, ByName, Computed, defined_name, search_after}
use Rattle.inc_directive.specs.declared.kinds.DirectiveKind.TheVariants.{Foreign}
use Rattle.inc_directive.specs.FileDirectives.{Directive, file_directives}
use Rattle.inc_directive.specs.Removal.{without}
use Rattle.inc_directive.specs.declared.files.FileFault.{FileFault}
use Rattle.inc_lookup.specs.declared.projects.Form.{Form}
use Rattle.inc_lookup.specs.declared.projects.Form.TheVariants as form
use Rattle.inc_lookup.specs.declared.projects.Found.{Found}
use Rattle.inc_lookup.specs.Projects.{Layout, Listing, path_at, bytes_at, found_place}
use Rattle.inc_lookup.specs.DirectiveLists.{is_listed}
use Rattle.inc_lookup.specs.declared.projects.DirectiveId.{DirectiveId}
use Rattle.inc_lookup.specs.declared.projects.TheConstants.{MOST_FILES}
use Rattle.inc_graph.specs.HeaderNames.{HeaderName, header_of}
use Rattle.inc_graph.specs.declared.graphs.Blocker.{Blocker}
use Rattle.inc_graph.specs.declared.missing_lists.Missing as declared_missing
use Rattle.inc_graph.specs.MissingLists.{Missing}
use Rattle.inc_graph.specs.declared.graphs.BlockerKind.TheVariants as kind
use Rattle.inc_graph.specs.FileEntries.{Definition, Entry}
use Rattle.inc_graph.specs.declared.building.entries.Entry.TheVariants as entry
use Rattle.inc_graph.specs.declared.building.GraphRefusal.{GraphRefusal}
use Rattle.inc_graph.specs.declared.building.Source.{Source}
use Rattle.inc_graph.specs.declared.building.GraphRefusal.TheVariants.{BadFile, TooManyDirectives, CannotRead, FileTooLong}
use Rattle.inc_graph.specs.declared.building.gathering.TheConstants.{MOST_DIRECTIVES}

---- what a file holds

-- from a file to a file, by the directive at a line. Edges are named by numbers, which are their places in a graph's list
pub record Edge : Type 0 where
  pub from : ℕ
  pub to : ℕ
  pub line : ℕ

-- the directives of a file with this text, but those that are taken as removed, or its first fault: a file with an
-- unterminated comment, or whose conditionals are not balanced, is bad
abbrev pub text_directives : Setting → (file : ℕ) → List Cell → Result (List Directive) FileFault
text_directives setting file text = without (is_listed setting.removed file) (file_directives setting.language text)

abbrev pub read_directives : Setting → Listing → ℕ → Result (List Directive) FileFault
read_directives setting listing file = text_directives setting file (phase_text setting.language (bytes_at listing file))

-- a bad file has none
abbrev pub graph_directives : Setting → Listing → ℕ → List Directive
graph_directives setting listing file = elim (read_directives setting listing file) [ Ok directives ↦ directives | Err fault ↦ [] ]

-- the header that a direct include directive names, and by which directive
pub record Named : Type 0 where
  pub by : IncludeName
  pub form : Form
  pub name : List ℕ

abbrev pub direct_header : LineKind → Option Named
direct_header (Include by (Quoted name)) = Some (record { by = by; form = form.Quoted; name = name })
direct_header (Include by (Angled name)) = Some (record { by = by; form = form.Angled; name = name })
direct_header _ = None

---- names that no build defines

-- where a name is among those that no build defines
abbrev pub undefined_place : (names : List (List ℕ)) → List ℕ → Option ℕ
undefined_place names name = position (bytes_eq name) names

-- a line defines the name at this place
abbrev pub defined_at : (line name : ℕ) → Definition
defined_at line name = record { name = name; line = line }

-- what a line defines, if it is such a name
abbrev pub line_definition : (names : List (List ℕ)) → FileLine → Option Definition
line_definition names l = option_map (defined_at (directive_line l)) (option_and_then (undefined_place names) (defined_name l.kind l.tokens))

-- the definitions of such names by the lines of a file, in whatever group they are
abbrev pub definitions_in : (names : List (List ℕ)) → List FileLine → List Definition
definitions_in names lines = filter_map (line_definition names) lines

-- those of a text
abbrev pub text_definitions : Setting → List Cell → List Definition
text_definitions setting text = definitions_in setting.undefined (file_lines setting.language (lines_or_none (token_lines setting.language text)))

-- those of a file; a bad file has none
abbrev pub file_definitions : Setting → Listing → ℕ → List Definition
file_definitions setting listing file =
    elim (read_directives setting listing file) [ Ok directives ↦ text_definitions setting (phase_text setting.language (bytes_at listing file)) | Err fault ↦ [] ]

-- it is one of the name at this place
abbrev pub is_of : (name : ℕ) → Definition → Bool
is_of name d = d.name == name

-- some of these files defines the name at this place
abbrev pub is_defined_in : Setting → Listing → List ℕ → ℕ → Bool
is_defined_in setting listing files name = list_any (λ f. list_any (is_of name) (file_definitions setting listing f)) files

-- where a file has these
abbrev pub definition_places : (file : ℕ) → List Definition → List DirectiveId
definition_places file ds = map (λ (d : Definition). record { file = file; line = d.line }) ds

-- where a file defines such names, from the top
abbrev pub definitions_from : Setting → Listing → ℕ → List DirectiveId
definitions_from setting listing file = definition_places file (file_definitions setting listing file)

---- where a directive leads

-- what a directive finds that names a header, from a file that was found so
abbrev pub named_place : Layout → Found → Named → Option Found
named_place layout at header = found_place layout (path_at layout at.file) header.form (search_after header.by at.next) header.name

-- what a direct include directive finds, from a file that was found so
abbrev pub found_by : Layout → Found → Directive → Option Found
found_by layout at d = option_and_then (named_place layout at) (direct_header d.kind)

-- the files to which a directive leads: none, one, or several
pub data Lead : Type 0 where
  Nowhere : Lead
  To : ℕ → Lead
  Several : Lead

-- these and one more
abbrev pub with_target : Lead → ℕ → Lead
with_target Nowhere file = To file
with_target (To other) file = if other == file then To other else Several
with_target Several file = Several

-- these, and the file that is found, if one is
abbrev pub with_found : Option Found → Lead → Lead
with_found None lead = lead
with_found (Some f) lead = with_target lead f.file

-- a way in which a file is found: in the include path of this number, and where an #include_next in it goes on
pub record Start : Type 0 where
  pub path : ℕ
  pub next : Option ℕ

-- a file that is found so, as its include path has it
abbrev pub found_so : (file : ℕ) → Start → Found
found_so file start = record { file = file; next = start.next }

-- the files to which a direct include directive leads from its file, which is found in these ways. From those of one include path all
-- but an #include_next lead to the same file
abbrev pub leads : (layouts : ℕ → Layout) → (starts : List Start) → (file : ℕ) → Directive → Lead
leads layouts [] file d = Nowhere
leads layouts (start ∷ starts) file d = with_found (found_by (layouts start.path) (found_so file start) d) (leads layouts starts file d)

---- what an include directive is to the graph

-- one with one target is an edge, one without is missing with the header that it names, and one with several is a blocker
abbrev pub lead_entry : Lead → (line : ℕ) → HeaderName → Entry
lead_entry Nowhere line header = entry.Missing line header
lead_entry (To to) line header = entry.Edge to line
lead_entry Several line header = entry.Blocker line kind.Several

-- one whose header is made of tokens the first of which is a name: where that has a place among those that no build defines, it depends
-- on the files whether it names a header
abbrev pub name_entry : Option ℕ → (line : ℕ) → Entry
name_entry None line = entry.Blocker line kind.Computed
name_entry (Some name) line = entry.ByName name line

-- the name that is the first token of what an include directive has expanded
abbrev pub name_in : LineKind → Option (List ℕ)
name_in (Include by (ByName name)) = Some name
name_in _ = None

-- the graph can say nothing of an include whose name is made by macros, or of a directive that is no directive of C
abbrev pub entry_at : (names : List (List ℕ)) → Lead → LineKind → (line : ℕ) → Option Entry
entry_at names lead (Include by (Quoted name)) line = Some (lead_entry lead line (header_of form.Quoted name))
entry_at names lead (Include by (Angled name)) line = Some (lead_entry lead line (header_of form.Angled name))
entry_at names lead (Include by (ByName name)) line = Some (name_entry (undefined_place names name) line)
entry_at names lead (Include by Computed) line = Some (entry.Blocker line kind.Computed)
entry_at names lead (Other Foreign) line = Some (entry.Blocker line kind.Foreign)
entry_at names lead _ line = None

abbrev pub entry_of : (names : List (List ℕ)) → (layouts : ℕ → Layout) → (starts : List Start) → (file : ℕ) → Directive → Option Entry
entry_of names layouts starts file d = entry_at names (leads layouts starts file d) d.kind d.line

-- the include directives of a file that is found in these ways, from the top
abbrev pub entries_from : Setting → Listing → (starts : List Start) → ℕ → List Entry
entries_from setting listing starts file =
    filter_map (entry_of setting.undefined (layouts_of setting listing) starts file) (graph_directives setting listing file)

abbrev pub entry_edge : ℕ → Entry → Option Edge
entry_edge file (entry.Edge to line) = Some (record { from = file; to = to; line = line })
entry_edge file _ = None

abbrev pub entry_missing : ℕ → Entry → Option Missing
entry_missing file (entry.Missing line header) = Some (record { file = file; line = line; header = header })
entry_missing file _ = None

-- an include by a name that no build and no file defines names no header: the name stays as it is, and a preprocessing that takes the
-- directive stops there
abbrev pub entry_blocker : (defined : ℕ → Bool) → ℕ → Entry → Option Blocker
entry_blocker defined file (entry.Blocker line kind) = Some (record { file = file; line = line; kind = kind })
entry_blocker defined file (entry.ByName name line) =
    if defined name then Some (record { file = file; line = line; kind = kind.Computed }) else None
entry_blocker defined file _ = None

-- where it is a definition
abbrev pub entry_definition : ℕ → Entry → Option DirectiveId
entry_definition file (entry.Defines name line) = Some (record { file = file; line = line })
entry_definition file _ = None

-- the edges that leave a file, from the top
abbrev pub edges_from : Setting → Listing → (starts : List Start) → ℕ → List Edge
edges_from setting listing starts file = filter_map (entry_edge file) (entries_from setting listing starts file)

-- its directives that lead nowhere
abbrev pub missing_from : Setting → Listing → (starts : List Start) → ℕ → List Missing
missing_from setting listing starts file = filter_map (entry_missing file) (entries_from setting listing starts file)

-- those that leave open which file is read, where files define the names at these places among those that no build defines
abbrev pub blockers_from : Setting → Listing → (defined : ℕ → Bool) → (starts : List Start) → ℕ → List Blocker
blockers_from setting listing defined starts file = filter_map (entry_blocker defined file) (entries_from setting listing starts file)

---- the closure of sources and headers

-- in an include path a directive leads from a file, as it was found, to a file, as this directive finds it; the first is no header
pub record IsStep (setting : Setting) (listing : Listing) (headers : List ℕ) (path : ℕ) (a b : Found) : Type 0 where
  pub directive : Directive
  -- it is one of the file
  pub there : Contains (graph_directives setting listing a.file) directive
  -- it finds the other
  pub leads : found_by (layouts_of setting listing path) a directive ≡ Some b
  -- the file is no header
  pub before : is_member a.file headers ≡ false

-- steps from one file to another, each from where the one before it leads, all in one include path
abbrev pub IsTour : Setting → Listing → (headers : List ℕ) → (path : ℕ) → Found → List Found → Found → Type 0
IsTour setting listing headers path a [] b = a ≡ b
IsTour setting listing headers path a (c ∷ cs) b = IsStep setting listing headers path a c × IsTour setting listing headers path c cs b

-- a source, as it is found: in it an #include_next looks as an #include does
abbrev pub as_source : ℕ → Found
as_source file = record { file = file; next = None }

-- in an include path steps from a source of it lead to a file that is found so
pub record IsReached (setting : Setting) (listing : Listing) (sources : List Source) (headers : List ℕ) (path : ℕ) (at : Found) : Type 0 where
  -- where they begin
  pub source : ℕ
  -- which is a source that is read with this include path
  pub among : Contains sources (record { file = source; path = path })
  -- where they lead, one after the other
  pub tour : List Found
  -- the last to the file
  pub real : IsTour setting listing headers path (as_source source) tour at

-- a file is found in this way
abbrev pub IsFoundSo : Setting → Listing → (sources : List Source) → (headers : List ℕ) → (file : ℕ) → Start → Type 0
IsFoundSo setting listing sources headers file start = IsReached setting listing sources headers start.path (found_so file start)

-- a file is in the closure where it is found somehow
pub record InClosure (setting : Setting) (listing : Listing) (sources : List Source) (headers : List ℕ) (file : ℕ) : Type 0 where
  -- in which include path, and where an #include_next in it goes on
  pub start : Start
  -- it is found so
  pub reached : IsFoundSo setting listing sources headers file start

-- these are the ways in which each file is found, in any order
abbrev pub IsClosure : Setting → Listing → (sources : List Source) → (headers : List ℕ) → (starts : ℕ → List Start) → Type 0
IsClosure setting listing sources headers starts =
    (file : ℕ) (start : Start) → Contains (starts file) start ↔ IsFoundSo setting listing sources headers file start

-- a file is found somehow
abbrev pub is_found : (starts : List Start) → Bool
is_found [] = false
is_found (start ∷ starts) = true

-- the closure files that are no headers, in the order of the list
abbrev pub inner_files : Listing → (starts : ℕ → List Start) → (headers : List ℕ) → List ℕ
inner_files listing starts headers = filter (λ f. is_found (starts f) && not (is_member f headers)) (range_with_len 0 (length listing.files))

---- the graph

-- files, and that of one more source unless it is among them
abbrev pub with_source : List ℕ → Source → List ℕ
with_source files s = if is_member s.file files then files else files ++ s.file ∷ []

-- the files of sources, each once, where it comes first
abbrev pub source_files : List Source → List ℕ
source_files sources = fold with_source [] sources

-- so many files, the sources and the headers among them, the edges between them, and what its files hold beside edges, in order
-- of file and line
pub record Graph : Type 0 where
  -- how many files the project has
  pub files : ℕ
  -- the places of the sources
  pub sources : List ℕ
  -- the places of the headers
  pub headers : List ℕ
  -- by file and line
  pub edges : List Edge
  -- the directives whose header is not found
  pub missing : List Missing
  -- the directives that leave open which file is read
  pub blockers : List Blocker
  -- where its files define names that no build defines
  pub definitions : List DirectiveId

-- a bad file, with its fault
abbrev pub bad_file : Setting → Listing → ℕ → Option (ℕ × FileFault)
bad_file setting listing file = elim (read_directives setting listing file) [ Ok directives ↦ None | Err fault ↦ Some (file, fault) ]

-- include directives of all files together, and those that are none of C
abbrev pub most_directives : ℕ
most_directives = MOST_DIRECTIVES

-- a graph of so many directives, if they are not too many
abbrev pub sized_graph : ℕ → Graph → Result Graph GraphRefusal
sized_graph count g = if nat_lt most_directives count then Err TooManyDirectives else Ok g

-- the graph of these files, which are in the order of the list
abbrev pub graph_of_files : Setting → Listing → (sources : List Source) → (headers : List ℕ) → (starts : ℕ → List Start) → List ℕ → Graph
graph_of_files setting listing sources headers starts files = record {
  files = length listing.files;
  sources = source_files sources;
  headers = headers;
  edges = flat_map (λ f. edges_from setting listing (starts f) f) files;
  missing = flat_map (λ f. missing_from setting listing (starts f) f) files;
  blockers = flat_map (λ f. blockers_from setting listing (is_defined_in setting listing files) (starts f) f) files;
  definitions = flat_map (definitions_from setting listing) files;
}

-- how many directives these files have
abbrev pub directive_count : Setting → Listing → (starts : ℕ → List Start) → List ℕ → ℕ
directive_count setting listing starts files = length (flat_map (λ f. entries_from setting listing (starts f) f) files)

-- a bad file, the first of the list, comes before too many directives
abbrev pub graph_or_bad : List (ℕ × FileFault) → (count : ℕ) → Graph → Result Graph GraphRefusal
graph_or_bad (bad ∷ more) count g = Err (BadFile bad.0 bad.1)
graph_or_bad [] count g = sized_graph count g

-- the graph, or the refusal in its place; `starts` are the ways in which each file is found
abbrev pub graph_answer : Setting → Listing → (sources : List Source) → (headers : List ℕ) → (starts : ℕ → List Start) → Result Graph GraphRefusal
graph_answer setting listing sources headers starts =
    let files : List ℕ = inner_files listing starts headers in
    graph_or_bad (filter_map (bad_file setting listing) files) (directive_count setting listing starts files)
    (graph_of_files setting listing sources headers starts files)

-- this is the graph of sources and headers, or the refusal in its place
abbrev pub IsGraphAnswer : Setting → Listing → (sources : List Source) → (headers : List ℕ) → Result Graph GraphRefusal → Type 0
IsGraphAnswer setting listing sources headers answer =
    (starts : ℕ → List Start) × IsClosure setting listing sources headers starts × (graph_answer setting listing sources headers starts ≡ answer)

-- no directive leads to several files, by how its own file is found
abbrev pub LeadsToOne : Graph → Type 0
LeadsToOne g = All (λ (b : Blocker). b.kind ≢ kind.Several) g.blockers

---- what holds of every graph

-- an edge between files of the list that leaves from no header
pub record IsInner (files : ℕ) (headers : List ℕ) (e : Edge) : Type 0 where
  pub from_within : e.from < files
  pub to_within : e.to < files
  pub before : is_member e.from headers ≡ false

-- in a file before that of the other, or in the same file and on a line before
abbrev pub is_edge_before : Edge → Edge → Bool
is_edge_before a b = nat_lt a.from b.from || ((a.from == b.from) && nat_lt a.line b.line)

-- each before all that follow
abbrev pub are_ordered : List Edge → Bool
are_ordered [] = true
are_ordered (e ∷ es) = list_all (is_edge_before e) es && are_ordered es

-- a directive in a file before this one, or in the same file and on a line before this one
abbrev pub is_before : {H : Type 0} → declared_missing.Missing H → (file line : ℕ) → Bool
is_before d file line = nat_lt d.file file || ((d.file == file) && nat_lt d.line line)

-- each before all that follow
abbrev pub are_in_order : {H : Type 0} → List (declared_missing.Missing H) → Bool
are_in_order [] = true
are_in_order (d ∷ ds) = list_all (λ e. is_before d e.file e.line) ds && are_in_order ds

-- sources and headers of a graph of so many files
pub record AreEnds (files : ℕ) (sources headers : List ℕ) : Type 0 where
  -- the sources are some of the files
  pub sources_within : All (λ f. f < files) sources
  -- and so are the headers
  pub headers_within : All (λ f. f < files) headers
  -- the sources are in the order of the list, and none is there twice
  pub sources_rise : IsStrictlyIncreasing sources
  -- and so are the headers
  pub headers_rise : IsStrictlyIncreasing headers
  -- there is a source or a header
  pub some_end : 0 < length sources + length headers

-- the files of sources are in the order of the list; one may be there with several include paths
abbrev pub are_rising : List Source → Bool
are_rising [] = true
are_rising (s ∷ ss) = list_all (λ (t : Source). not (nat_lt t.file s.file)) ss && are_rising ss

-- sources and headers that are asked about, in a project of so many files and where there are so many include paths
pub record AreAsked (files paths : ℕ) (sources : List Source) (headers : List ℕ) : Type 0 where
  -- the sources are some of the files
  pub sources_within : All (λ (s : Source). s.file < files) sources
  -- and are read with one of the include paths
  pub paths_within : All (λ (s : Source). s.path < paths) sources
  -- they are in the order of the list
  pub sources_rise : IsTrue (are_rising sources)
  -- the headers are some of the files
  pub headers_within : All (λ f. f < files) headers
  -- so are they, and none is there twice
  pub headers_rise : IsStrictlyIncreasing headers
  -- there is a source or a header
  pub some_end : 0 < length sources + length headers

-- few files, few edges, each end and each other directive among the files, and the edges and the missing directives in order of file
-- and line
pub record IsSound (g : Graph) : Type 0 where
  -- they are those of a project
  pub few : g.files ≤ MOST_FILES
  -- the sources and the headers are some of them
  pub ends : AreEnds g.files g.sources g.headers
  -- there are at most so many edges
  pub sized : length g.edges ≤ most_directives
  -- an edge leads between files, and leaves no header
  pub inner : All (IsInner g.files g.headers) g.edges
  -- lines count from 1
  pub lines : All (λ (e : Edge). 1 ≤ e.line) g.edges
  -- edges are in order of file and line, and no two are of one directive
  pub ordered : IsTrue (are_ordered g.edges)
  -- directives whose header is not found are in files, in the same order
  pub missing_within : All (λ (m : Missing). m.file < g.files) g.missing
  -- and no two of them are one
  pub missing_ordered : IsTrue (are_in_order g.missing)
  -- what stops is in a file
  pub blockers_within : All (λ (b : Blocker). b.file < g.files) g.blockers
  -- and so is what defines a name
  pub definitions_within : All (λ (d : DirectiveId). d.file < g.files) g.definitions

-- the file that a refusal names is one of so many
abbrev pub IsRefusalWithin : ℕ → GraphRefusal → Type 0
IsRefusalWithin files (BadFile file fault) = file < files
IsRefusalWithin files (CannotRead file) = file < files
IsRefusalWithin files (FileTooLong file) = file < files
IsRefusalWithin files _ = ⊤
