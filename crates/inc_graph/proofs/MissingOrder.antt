-- The missing directives of a graph are in order of file and line: as edges would that are at their places.
use Rattle.std.proofs.Common.{◌≡◌, ℕ, ◌+◌, ◌≤◌, true, not, ◌&&◌, List, [], ◌∷◌, ◌++◌, Option, Some, None, length, map, refl, ap, sym, ◌∙◌, arith}
use Rattle.std.specs.Prelude.{filter_map, flat_map}
use Rattle.std.specs.List.{cons_option, list_all}
use Rattle.std.proofs.lemmas.List.{map-append}
use Rattle.inc_graph.specs.Members.{is_member}
use Rattle.inc_graph.specs.Settings.{Setting, layouts_of}
use Rattle.inc_directive.specs.LineKinds.{LineKind, Include, Other, Quoted, Angled, ByName, Computed}
use Rattle.inc_directive.specs.declared.kinds.DirectiveKind.TheVariants.{Foreign}
use Rattle.inc_directive.specs.FileDirectives.{Directive}
use Rattle.inc_graph.specs.FileEntries.{Entry}
use Rattle.inc_directive.proofs.LineOrder.{AscendFrom}
use Rattle.inc_graph.specs.MissingLists.{Missing}
use Rattle.inc_lookup.specs.Projects.{Layout, Listing}
use Rattle.inc_lookup.specs.declared.projects.Form.TheVariants as form
use Rattle.inc_graph.specs.HeaderNames.{HeaderName, header_of}
use Rattle.inc_graph.specs.IncludeGraph.{Edge, Lead, Nowhere, To, Several, leads, lead_entry, name_entry, undefined_place, entry_at, entry_of, entry_missing, graph_directives, missing_from, is_found, inner_files, is_edge_before, are_ordered, is_before, are_in_order, Start}
use Rattle.inc_graph.proofs.EdgeOrder.{Leave, leave-lower, directives_ascend, InOrder, order_range}

-- an edge at the place of a directive
edge_there : Missing → Edge
edge_there d = record { from = d.file; to = 0; line = d.line }

---- the directives of one file

lower : (file line at : ℕ) (es : List Entry) → line ≤ at → Leave file (at + 1) (map edge_there (filter_map (entry_missing file) es)) → Leave file line (map edge_there (filter_map (entry_missing file) es))
lower file line at es le h = leave-lower file line (at + 1) (map edge_there (filter_map (entry_missing file) es)) (omega arith) h

lead_leaves : (hn : HeaderName) (file line at : ℕ) (lead : Lead) (es : List Entry) → line ≤ at → Leave file (at + 1) (map edge_there (filter_map (entry_missing file) es))
    → Leave file line (map edge_there (filter_map (entry_missing file) (lead_entry lead at hn ∷ es)))
unfolding edge_there
lead_leaves hn file line at Nowhere es le h = (refl, le, h)
lead_leaves hn file line at (To to) es le h = lower file line at es le h
lead_leaves hn file line at Several es le h = lower file line at es le h

named : (file line at : ℕ) (o : Option ℕ) (es : List Entry) → line ≤ at → Leave file (at + 1) (map edge_there (filter_map (entry_missing file) es))
    → Leave file line (map edge_there (filter_map (entry_missing file) (name_entry o at ∷ es)))
named file line at None es le h = lower file line at es le h
named file line at (Some name) es le h = lower file line at es le h

leave_with : (names : List (List ℕ)) (file line at : ℕ) (lead : Lead) (kind : LineKind) (es : List Entry) → line ≤ at → Leave file (at + 1) (map edge_there (filter_map (entry_missing file) es))
    → Leave file line (map edge_there (filter_map (entry_missing file) (cons_option (entry_at names lead kind at) es)))
leave_with names file line at lead (Include by (Quoted name)) es le h = lead_leaves (header_of form.Quoted name) file line at lead es le h
leave_with names file line at lead (Include by (Angled name)) es le h = lead_leaves (header_of form.Angled name) file line at lead es le h
leave_with names file line at lead (Include by (ByName name)) es le h = named file line at (undefined_place names name) es le h
leave_with names file line at lead (Include by Computed) es le h = lower file line at es le h
leave_with names file line at lead (Other Foreign) es le h = lower file line at es le h
leave_with names file line at lead _ es le h = lower file line at es le h

leave_in : (names : List (List ℕ)) (layouts : ℕ → Layout) (starts : List Start) (file line : ℕ) (ds : List Directive) → AscendFrom line ds → Leave file line (map edge_there (filter_map (entry_missing file) (filter_map (entry_of names layouts starts file) ds)))
leave_in names layouts starts file line [] h = tt
leave_in names layouts starts file line (d ∷ ds) h =
    leave_with names file line d.line (leads layouts starts file d) d.kind (filter_map (entry_of names layouts starts file) ds) h.0 (leave_in names layouts starts file (d.line + 1) ds h.1)

leave_file : (setting : Setting) (listing : Listing) (starts : List Start) (file : ℕ) → Leave file 1 (map edge_there (missing_from setting listing starts file))
leave_file setting listing starts file =
    leave_in setting.undefined (layouts_of setting listing) starts file 1 (graph_directives setting listing file) (directives_ascend setting listing file)

---- those of all files

map_flat : (from : ℕ → List Missing) (files : List ℕ) → map edge_there (flat_map from files) ≡ flat_map (λ (f : ℕ). map edge_there (from f)) files
map_flat from [] = refl
map_flat from (f ∷ files) = map-append edge_there (from f) (flat_map from files) ∙ ap (λ (es : List Edge). map edge_there (from f) ++ es) (map_flat from files)

all_before : (d : Missing) (ds : List Missing) → list_all (is_edge_before (edge_there d)) (map edge_there ds) ≡ list_all (λ (e : Missing). is_before d e.file e.line) ds
unfolding edge_there
all_before d [] = refl
all_before d (e ∷ es) = ap (λ b. is_before d e.file e.line && b) (all_before d es)

in_order_there : (ds : List Missing) → are_ordered (map edge_there ds) ≡ are_in_order ds
unfolding edge_there
in_order_there [] = refl
in_order_there (d ∷ ds) =
    ap (λ b. b && are_ordered (map edge_there ds)) (all_before d ds) ∙ ap (λ b. list_all (λ (e : Missing). is_before d e.file e.line) ds && b) (in_order_there ds)

pub missing_in_order : (setting : Setting) (listing : Listing) (starts : ℕ → List Start) (headers : List ℕ)
    → are_in_order (flat_map (λ f. missing_from setting listing (starts f) f) (inner_files listing starts headers)) ≡ true
missing_in_order setting listing starts headers =
    let files : List ℕ = inner_files listing starts headers in
    let from : ℕ → List Missing = λ f. missing_from setting listing (starts f) f in
    let order : InOrder 0 (flat_map (λ (f : ℕ). map edge_there (from f)) files) =
    order_range (λ (f : ℕ). map edge_there (from f)) (λ f. is_found (starts f) && not (is_member f headers)) (λ f. leave_file setting listing (starts f) f) 0 (length listing.files) in
    sym (in_order_there (flat_map from files)) ∙ ap are_ordered (map_flat from files) ∙ order.ordered
