-- Edges, missing directives and blockers of a file are its include directives, each of them just one of the three; edges lead to
-- files of the project.
use Rattle.std.proofs.Common.{◌≡◌, ℕ, ◌<◌, ◌==◌, Bool, true, false, cond, if◌then◌else◌, List, [], ◌∷◌, ◌++◌, Option, Some, None, Result, Ok, Err, length, map, refl, ap, subst, ◌∙◌, zero, suc, arith}
use Rattle.std.specs.Prelude.{filter_map, option_map, option_and_then, IfSome, bytes_eq}
use Rattle.std.specs.List.{cons_option, All}
use Rattle.std.proofs.lemmas.Option.{same_Some}
use Rattle.std.proofs.lemmas.List.{append-nil, length-map}
use Rattle.std.proofs.lemmas.List.Elements.{All-append, All-nil, All-cons, filter_map-append}
use Rattle.std.proofs.lemmas.List.Quantifiers.{position-Some}
use Rattle.inc_graph.specs.Settings.{Setting, layouts_of, layout_in}
use Rattle.inc_directive.specs.LineKinds.{LineKind, Include, Other, Quoted, Angled, ByName, Computed, search_after}
use Rattle.inc_directive.specs.declared.kinds.DirectiveKind.TheVariants.{Foreign}
use Rattle.inc_directive.specs.FileDirectives.{Directive}
use Rattle.inc_directive.specs.declared.files.FileFault.{FileFault}
use Rattle.inc_lookup.specs.Paths.{normal_form}
use Rattle.inc_text.specs.PhaseText.{phase_text}
use Rattle.inc_lookup.specs.Projects.{Layout, Listing, SearchPath, Spot, bytes_at, layout_of, path_at, found_among, found_as, found_at, first_some, place_of, candidates, File}
use Rattle.inc_lookup.specs.declared.projects.DirectiveId.{DirectiveId}
use Rattle.inc_lookup.specs.declared.projects.Found.{Found}
use Rattle.inc_graph.specs.MissingLists.{Missing}
use Rattle.inc_graph.specs.FileEntries.{Definition, Entry, definition_entry}
use Rattle.inc_graph.specs.declared.building.entries.Entry.TheVariants as entry
use Rattle.inc_graph.specs.declared.graphs.Blocker.{Blocker}
use Rattle.inc_graph.specs.declared.graphs.BlockerKind.TheVariants as kind
use Rattle.inc_lookup.specs.declared.projects.Form.TheVariants as form
use Rattle.inc_graph.specs.HeaderNames.{HeaderName, header_of}
use Rattle.inc_graph.specs.IncludeGraph.{Edge, Named, Lead, Nowhere, To, Several, with_target, with_found, direct_header, named_place, found_by, leads, lead_entry, name_entry, undefined_place, text_definitions, entry_at, entry_of, entry_edge, entry_missing, entry_blocker, entry_definition, definition_places, definitions_from, file_definitions, read_directives, graph_directives, entries_from, edges_from, missing_from, blockers_from, Start, found_so}
use Rattle.inc_graph.specs.Entries.{entries_of, file_entries}
use Rattle.inc_graph.specs.GraphLists.{State}

-- those of a file that take so; a bad file has none
abbrev pub picked : {X : Type 0} → (ℕ → Entry → Option X) → ℕ → Result (List Entry) FileFault → List X
picked pick file (Ok es) = filter_map (pick file) es
picked pick file (Err line) = []

abbrev pub picked_state : {X : Type 0} → (ℕ → Entry → Option X) → ℕ → State → List X
picked_state pick file None = []
picked_state pick file (Some r) = picked pick file r

---- those of a file

-- a definition is none of them
none_defined : {X : Type 0} (pick : Entry → Option X) → ((d : Definition) → pick (definition_entry d) ≡ None) → (ns : List Definition) → filter_map pick (map definition_entry ns) ≡ []
none_defined pick none [] = refl
none_defined pick none (n ∷ ns) = ap (λ o. cons_option o (filter_map pick (map definition_entry ns))) (none n) ∙ none_defined pick none ns

picked_directives : {X : Type 0} (pick : ℕ → Entry → Option X) (file : ℕ) → ((d : Definition) → pick file (definition_entry d) ≡ None)
    → (names : List (List ℕ)) (layouts : ℕ → Layout) (starts : List Start) (places : List Definition) (r : Result (List Directive) FileFault)
    → picked pick file (entries_of (entry_of names layouts starts file) places r) ≡ filter_map (pick file) (filter_map (entry_of names layouts starts file) (elim r [ Ok directives ↦ directives | Err fault ↦ [] ]))
picked_directives pick file none names layouts starts places (Ok directives) =
    filter_map-append (pick file) (filter_map (entry_of names layouts starts file) directives) (map definition_entry places)
    ∙ ap (λ l. filter_map (pick file) (filter_map (entry_of names layouts starts file) directives) ++ l) (none_defined (pick file) none places)
    ∙ append-nil (filter_map (pick file) (filter_map (entry_of names layouts starts file) directives))
picked_directives pick file none names layouts starts places (Err fault) = refl

-- what a file's text defines
abbrev definitions_of : Setting → Listing → ℕ → List Definition
definitions_of setting listing file = text_definitions setting (phase_text setting.language (bytes_at listing file))

pub picked_edges : (setting : Setting) (listing : Listing) (starts : List Start) (file : ℕ) → picked entry_edge file (file_entries setting listing starts file) ≡ edges_from setting listing starts file
picked_edges setting listing starts file = picked_directives entry_edge file (λ n. refl) setting.undefined (layouts_of setting listing) starts (definitions_of setting listing file) (read_directives setting listing file)

pub picked_missing : (setting : Setting) (listing : Listing) (starts : List Start) (file : ℕ) → picked entry_missing file (file_entries setting listing starts file) ≡ missing_from setting listing starts file
picked_missing setting listing starts file = picked_directives entry_missing file (λ n. refl) setting.undefined (layouts_of setting listing) starts (definitions_of setting listing file) (read_directives setting listing file)

pub picked_blockers : (setting : Setting) (listing : Listing) (defined : ℕ → Bool) (starts : List Start) (file : ℕ)
    → picked (entry_blocker defined) file (file_entries setting listing starts file) ≡ blockers_from setting listing defined starts file
picked_blockers setting listing defined starts file =
    picked_directives (entry_blocker defined) file (λ n. refl) setting.undefined (layouts_of setting listing) starts (definitions_of setting listing file) (read_directives setting listing file)

-- an include directive defines nothing
lead_defines : (file : ℕ) (hn : HeaderName) (lead : Lead) (line : ℕ) → entry_definition file (lead_entry lead line hn) ≡ None
lead_defines file hn Nowhere line = refl
lead_defines file hn (To to) line = refl
lead_defines file hn Several line = refl

name_defines : (file : ℕ) (o : Option ℕ) (line : ℕ) → entry_definition file (name_entry o line) ≡ None
name_defines file None line = refl
name_defines file (Some name) line = refl

one_defines : (file : ℕ) (names : List (List ℕ)) (lead : Lead) (k : LineKind) (line : ℕ) (es : List Entry)
    → filter_map (entry_definition file) (cons_option (entry_at names lead k line) es) ≡ filter_map (entry_definition file) es
one_defines file names lead (Include by (Quoted name)) line es = ap (λ o. cons_option o (filter_map (entry_definition file) es)) (lead_defines file (header_of form.Quoted name) lead line)
one_defines file names lead (Include by (Angled name)) line es = ap (λ o. cons_option o (filter_map (entry_definition file) es)) (lead_defines file (header_of form.Angled name) lead line)
one_defines file names lead (Include by (ByName name)) line es = ap (λ o. cons_option o (filter_map (entry_definition file) es)) (name_defines file (undefined_place names name) line)
one_defines file names lead (Include by Computed) line es = refl
one_defines file names lead (Other Foreign) line es = refl
one_defines file names lead _ line es = refl

all_define : (file : ℕ) (names : List (List ℕ)) (layouts : ℕ → Layout) (starts : List Start) (ds : List Directive) → filter_map (entry_definition file) (filter_map (entry_of names layouts starts file) ds) ≡ []
all_define file names layouts starts [] = refl
all_define file names layouts starts (d ∷ ds) =
    one_defines file names (leads layouts starts file d) d.kind d.line (filter_map (entry_of names layouts starts file) ds) ∙ all_define file names layouts starts ds

definitions_are : (file : ℕ) (ds : List Definition) → filter_map (entry_definition file) (map definition_entry ds) ≡ definition_places file ds
definitions_are file [] = refl
definitions_are file (d ∷ ds) = ap (λ (l : List DirectiveId). record { file = file; line = d.line } ∷ l) (definitions_are file ds)

entries_define : (file : ℕ) (names : List (List ℕ)) (layouts : ℕ → Layout) (starts : List Start) (ds : List Definition) (r : Result (List Directive) FileFault)
    → picked entry_definition file (entries_of (entry_of names layouts starts file) ds r) ≡ definition_places file (elim r [ Ok directives ↦ ds | Err fault ↦ [] ])
entries_define file names layouts starts ds (Ok directives) =
    filter_map-append (entry_definition file) (filter_map (entry_of names layouts starts file) directives) (map definition_entry ds)
    ∙ ap (λ l. l ++ filter_map (entry_definition file) (map definition_entry ds)) (all_define file names layouts starts directives)
    ∙ definitions_are file ds
entries_define file names layouts starts ds (Err fault) = refl

-- the definitions of a file are where it defines names
pub picked_definitions : (setting : Setting) (listing : Listing) (starts : List Start) (file : ℕ)
    → picked entry_definition file (file_entries setting listing starts file) ≡ definitions_from setting listing file
picked_definitions setting listing starts file =
    entries_define file setting.undefined (layouts_of setting listing) starts (definitions_of setting listing file) (read_directives setting listing file)

-- an include directive, and no definition
abbrev pub included : Entry → Option Entry
included (entry.Defines name line) = None
included e = Some e

lead_included : (hn : HeaderName) (lead : Lead) (line : ℕ) → included (lead_entry lead line hn) ≡ Some (lead_entry lead line hn)
lead_included hn Nowhere line = refl
lead_included hn (To to) line = refl
lead_included hn Several line = refl

name_included : (o : Option ℕ) (line : ℕ) → included (name_entry o line) ≡ Some (name_entry o line)
name_included None line = refl
name_included (Some name) line = refl

one_included : (names : List (List ℕ)) (lead : Lead) (k : LineKind) (line : ℕ) (es : List Entry)
    → filter_map included (cons_option (entry_at names lead k line) es) ≡ cons_option (entry_at names lead k line) (filter_map included es)
one_included names lead (Include by (Quoted name)) line es = ap (λ o. cons_option o (filter_map included es)) (lead_included (header_of form.Quoted name) lead line)
one_included names lead (Include by (Angled name)) line es = ap (λ o. cons_option o (filter_map included es)) (lead_included (header_of form.Angled name) lead line)
one_included names lead (Include by (ByName name)) line es = ap (λ o. cons_option o (filter_map included es)) (name_included (undefined_place names name) line)
one_included names lead (Include by Computed) line es = refl
one_included names lead (Other Foreign) line es = refl
one_included names lead _ line es = refl

all_included : (names : List (List ℕ)) (layouts : ℕ → Layout) (starts : List Start) (file : ℕ) (ds : List Directive)
    → filter_map included (filter_map (entry_of names layouts starts file) ds) ≡ filter_map (entry_of names layouts starts file) ds
all_included names layouts starts file [] = refl
all_included names layouts starts file (d ∷ ds) =
    one_included names (leads layouts starts file d) d.kind d.line (filter_map (entry_of names layouts starts file) ds)
    ∙ ap (cons_option (entry_of names layouts starts file d)) (all_included names layouts starts file ds)

-- those of a file are all of its include directives
pub picked_included : (setting : Setting) (listing : Listing) (starts : List Start) (file : ℕ)
    → picked (λ f. included) file (file_entries setting listing starts file) ≡ entries_from setting listing starts file
picked_included setting listing starts file =
    picked_directives (λ f. included) file (λ n. refl) setting.undefined (layouts_of setting listing) starts (definitions_of setting listing file) (read_directives setting listing file)
    ∙ all_included setting.undefined (layouts_of setting listing) starts file (graph_directives setting listing file)

---- edges lead to files of the project

place_within : (paths : List (List ℕ)) (t : ℕ) (o : Option (List ℕ)) → option_and_then (λ path. place_of path paths) o ≡ Some t → t < length paths
place_within paths t None e = cc
place_within paths t (Some path) e = (position-Some (bytes_eq path) paths t [] e).0

first_within : (n : ℕ) (o : Option Found) (rest : List (Option Found)) (t : Found) → ((u : Found) → o ≡ Some u → u.file < n)
    → ((u : Found) → first_some rest ≡ Some u → u.file < n) → first_some (o ∷ rest) ≡ Some t → t.file < n
first_within n None rest t here there e = there t e
first_within n (Some u) rest t here there e = here t e

-- what a candidate finds
spot_within : (paths : List (List ℕ)) (s : Spot) (o : Option ℕ) → ((u : ℕ) → o ≡ Some u → u < length paths) → (t : Found)
    → option_map (λ file. record { file = file; next = s.next }) o ≡ Some t → t.file < length paths
spot_within paths s None within t e = cc
spot_within paths s (Some u) within t e =
    let same : u ≡ t.file = ap (λ (f : Found). f.file) (same_Some (record { file = u; next = s.next }) t e) in
    rw (← same) (within u refl)

among_within : (paths : List (List ℕ)) (tried : List Spot) (t : Found) → found_among paths tried ≡ Some t → t.file < length paths
among_within paths [] t e = cc
among_within paths (s ∷ tried) t e =
    first_within (length paths) (found_at paths s) (map (found_at paths) tried) t
    (spot_within paths s (found_as paths s.path) (λ u q. place_within paths u (normal_form s.path) q)) (among_within paths tried) e

-- P of the file to which an include directive leads
abbrev pub Leads : (ℕ → Type 0) → Entry → Type 0
Leads P (entry.Edge to line) = P to
Leads P _ = Unit {0}

-- P of the one file to which a directive leads
abbrev LeadsBy : (ℕ → Type 0) → Lead → Type 0
LeadsBy P (To to) = P to
LeadsBy P _ = Unit {0}

target_leads : (P : ℕ → Type 0) (lead : Lead) (f : ℕ) → LeadsBy P lead → P f → LeadsBy P (with_target lead f)
target_leads P Nowhere f h p = p
target_leads P (To g) f h p = by_test (g == f) where
  by_test : (b : Bool) → LeadsBy P (cond b (To g) Several)
  by_test true = h
  by_test false = tt
target_leads P Several f h p = tt

found_leads : (P : ℕ → Type 0) (o : Option Found) (lead : Lead) → ((t : Found) → o ≡ Some t → P t.file) → LeadsBy P lead → LeadsBy P (with_found o lead)
found_leads P None lead h l = l
found_leads P (Some f) lead h l = target_leads P lead f.file l (h f refl)

pub named_within : (layout : Layout) (at : Found) (o : Option Named) (t : Found) → option_and_then (named_place layout at) o ≡ Some t → t.file < length layout.paths
named_within layout at None t e = cc
named_within layout at (Some h) t e = among_within layout.paths (candidates layout.search (path_at layout at.file) h.form (search_after h.by at.next) h.name) t e

-- every include path is one of the same files
pub same_paths : (others : List SearchPath) (layout : Layout) (path : ℕ) → (layout_in others layout path).paths ≡ layout.paths
same_paths others layout path = refl

lead_within : (files : ℕ) (layouts : ℕ → Layout) → ((path : ℕ) → length (layouts path).paths ≡ files) → (starts : List Start) (file : ℕ) (d : Directive) → LeadsBy (λ to. to < files) (leads layouts starts file d)
lead_within files layouts same [] file d = tt
lead_within files layouts same (start ∷ starts) file d =
    found_leads (λ to. to < files) (found_by (layouts start.path) (found_so file start) d) (leads layouts starts file d)
    (λ t e. let low = named_within (layouts start.path) (found_so file start) (direct_header d.kind) t e in omega (arith, low, same start.path)) (lead_within files layouts same starts file d)

direct_leads : (hn : HeaderName) (P : ℕ → Type 0) (lead : Lead) (line : ℕ) → LeadsBy P lead → Leads P (lead_entry lead line hn)
direct_leads hn P Nowhere line h = tt
direct_leads hn P (To to) line h = h
direct_leads hn P Several line h = tt

name_leads : (P : ℕ → Type 0) (o : Option ℕ) (line : ℕ) → Leads P (name_entry o line)
name_leads P None line = tt
name_leads P (Some name) line = tt

entry_leads : (P : ℕ → Type 0) (names : List (List ℕ)) (lead : Lead) (kind : LineKind) (line : ℕ) → LeadsBy P lead → IfSome (entry_at names lead kind line) (Leads P)
entry_leads P names lead (Include by (Quoted name)) line h = direct_leads (header_of form.Quoted name) P lead line h
entry_leads P names lead (Include by (Angled name)) line h = direct_leads (header_of form.Angled name) P lead line h
entry_leads P names lead (Include by (ByName name)) line h = name_leads P (undefined_place names name) line
entry_leads P names lead (Include by Computed) line h = tt
entry_leads P names lead (Other Foreign) line h = tt
entry_leads P names lead _ line h = tt

pub All-cons_option : {X : Type 0} (P : X → Type 0) (o : Option X) (xs : List X) → IfSome o P → All P xs → All P (cons_option o xs)
All-cons_option P None xs h t = t
All-cons_option P (Some x) xs h t = All-cons P x xs h t

All-filter_map : {X Y : Type 0} (P : Y → Type 0) (f : X → Option Y) → ((x : X) → IfSome (f x) P) → (xs : List X) → All P (filter_map f xs)
All-filter_map P f h [] = All-nil P
All-filter_map P f h (x ∷ xs) = All-cons_option P (f x) (filter_map f xs) (h x) (All-filter_map P f h xs)

defined_lead : (P : ℕ → Type 0) (ns : List Definition) → All (Leads P) (map definition_entry ns)
defined_lead P [] = All-nil (Leads P)
defined_lead P (n ∷ ns) = All-cons (Leads P) (definition_entry n) (map definition_entry ns) tt (defined_lead P ns)

leads_of_directives : (names : List (List ℕ)) (files : ℕ) (layouts : ℕ → Layout) → ((path : ℕ) → length (layouts path).paths ≡ files) → (starts : List Start) (file : ℕ) (places : List Definition) (r : Result (List Directive) FileFault) (es : List Entry)
    → entries_of (entry_of names layouts starts file) places r ≡ Ok es → All (Leads (λ to. to < files)) es
leads_of_directives names files layouts paths starts file places (Ok directives) es e =
    let same : filter_map (entry_of names layouts starts file) directives ++ map definition_entry places ≡ es = cc in
    subst (All (Leads (λ to. to < files))) same
    (All-append (Leads (λ to. to < files)) (filter_map (entry_of names layouts starts file) directives) (map definition_entry places)
    (All-filter_map (Leads (λ to. to < files)) (entry_of names layouts starts file)
    (λ d. entry_leads (λ to. to < files) names (leads layouts starts file d) d.kind d.line (lead_within files layouts paths starts file d)) directives)
    (defined_lead (λ to. to < files) places))
leads_of_directives names files layouts paths starts file places (Err fault) es e = cc

pub entries_lead_within : (setting : Setting) (listing : Listing) (starts : List Start) (file : ℕ) (es : List Entry) → file_entries setting listing starts file ≡ Ok es
    → All (Leads (λ to. to < length listing.files)) es
entries_lead_within setting listing starts file es e =
    let paths : (path : ℕ) → length (layouts_of setting listing path).paths ≡ length listing.files =
    λ path. ap (λ ps. length ps) (same_paths setting.others (layout_of listing) path) ∙ length-map listing.files (λ (x : File). x.path) in
    leads_of_directives setting.undefined (length listing.files) (layouts_of setting listing) paths starts file (definitions_of setting listing file) (read_directives setting listing file) es e

---- each is in its file

picked_in : {X : Type 0} (of : X → ℕ) (pick : ℕ → Entry → Option X) → ((file : ℕ) (e : Entry) → IfSome (pick file e) (λ x. of x ≡ file)) → (file : ℕ) (r : Result (List Entry) FileFault) → All (λ x. of x ≡ file) (picked pick file r)
picked_in of pick h file (Ok es) = All-filter_map (λ x. of x ≡ file) (pick file) (h file) es
picked_in of pick h file (Err line) = All-nil (λ x. of x ≡ file)

edge_in : (file : ℕ) (e : Entry) → IfSome (entry_edge file e) (λ (x : Edge). x.from ≡ file)
edge_in file (entry.Edge to line) = refl
edge_in file _ = tt

missing_in : (file : ℕ) (e : Entry) → IfSome (entry_missing file e) (λ (x : Missing). x.file ≡ file)
missing_in file (entry.Missing line header) = refl
missing_in file _ = tt

blocker_in : (defined : ℕ → Bool) (file : ℕ) (e : Entry) → IfSome (entry_blocker defined file e) (λ (x : Blocker). x.file ≡ file)
blocker_in defined file (entry.Blocker line why) = refl
blocker_in defined file (entry.ByName name line) = by (defined name)
  where
    by : (b : Bool) → IfSome {T = Blocker} (if b then Some (record { file = file; line = line; kind = kind.Computed }) else None) (λ (x : Blocker). x.file ≡ file)
    by true = refl
    by false = tt
blocker_in defined file _ = tt

pub edges_leave : (setting : Setting) (listing : Listing) (starts : List Start) (file : ℕ) → All (λ (e : Edge). e.from ≡ file) (edges_from setting listing starts file)
edges_leave setting listing starts file =
    subst (λ es. All (λ (e : Edge). e.from ≡ file) es) (picked_edges setting listing starts file) (picked_in (λ (e : Edge). e.from) entry_edge edge_in file (file_entries setting listing starts file))

pub missing_stand : (setting : Setting) (listing : Listing) (starts : List Start) (file : ℕ) → All (λ (d : Missing). d.file ≡ file) (missing_from setting listing starts file)
missing_stand setting listing starts file =
    subst (λ ds. All (λ (d : Missing). d.file ≡ file) ds) (picked_missing setting listing starts file) (picked_in (λ (d : Missing). d.file) entry_missing missing_in file (file_entries setting listing starts file))

pub blockers_stand : (setting : Setting) (listing : Listing) (defined : ℕ → Bool) (starts : List Start) (file : ℕ) → All (λ (b : Blocker). b.file ≡ file) (blockers_from setting listing defined starts file)
blockers_stand setting listing defined starts file =
    subst (λ bs. All (λ (b : Blocker). b.file ≡ file) bs) (picked_blockers setting listing defined starts file)
    (picked_in (λ (b : Blocker). b.file) (entry_blocker defined) (blocker_in defined) file (file_entries setting listing starts file))

pub definitions_stand : (setting : Setting) (listing : Listing) (file : ℕ) → All (λ (d : DirectiveId). d.file ≡ file) (definitions_from setting listing file)
definitions_stand setting listing file = all (file_definitions setting listing file)
  where
    all : (ds : List Definition) → All (λ (d : DirectiveId). d.file ≡ file) (definition_places file ds)
    all [] = All-nil (λ (d : DirectiveId). d.file ≡ file)
    all (d ∷ ds) = All-cons (λ (x : DirectiveId). x.file ≡ file) (record { file = file; line = d.line }) (definition_places file ds) refl (all ds)
