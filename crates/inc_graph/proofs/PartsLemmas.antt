-- The lists that are gathered are the parts of a graph.
use Rattle.std.proofs.Common.{◌≡◌, ℕ, ◌<◌, ◌≤◌, Bool, false, not, ◌&&◌, List, [], ◌∷◌, Result, Ok, Err, length, map, refl, ap, sym, subst, ◌∙◌, arith}
use Rattle.std.specs.Prelude.{filter_map, flat_map, nat_lt}
use Rattle.std.specs.List.{cons_option, All, list_any, range_with_len}
use Rattle.std.specs.List.Sorted.{IsNonDecreasing}
use Rattle.std.proofs.lemmas.Bool.{and_parts, not-true, ltb-false}
use Rattle.std.proofs.lemmas.List.Elements.{All-nil, All-cons, All-head, All-tail, All-append, All-filter, filter_passes}
use Rattle.std.proofs.lemmas.List.FromFn.{length-range_with_len, get_or-range_with_len}
use Rattle.inc_directive.specs.declared.files.FileFault.{FileFault}
use Rattle.inc_graph.specs.declared.building.Source.{Source}
use Rattle.inc_graph.specs.Members.{is_member}
use Rattle.inc_graph.specs.Settings.{Setting}
use Rattle.inc_graph.specs.MissingLists.{Missing}
use Rattle.inc_lookup.specs.Projects.{Listing}
use Rattle.inc_lookup.specs.declared.projects.DirectiveId.{DirectiveId}
use Rattle.inc_lookup.specs.declared.projects.TheConstants.{MOST_FILES}
use Rattle.inc_graph.specs.FileEntries.{Entry}
use Rattle.inc_graph.specs.declared.building.entries.Entry.TheVariants as entry
use Rattle.inc_graph.specs.declared.graphs.Blocker.{Blocker}
use Rattle.inc_graph.specs.declared.graphs.Edge as declared
use Rattle.inc_graph.specs.declared.graphs.Parts.{Parts}
use Rattle.inc_graph.specs.IncludeGraph.{Edge, Graph, IsInner, AreEnds, IsSound, entry_edge, edges_from, missing_from, blockers_from, definitions_from, is_found, inner_files, is_defined_in, most_directives, graph_of_files, Start, source_files}
use Rattle.inc_graph.specs.Entries.{file_entries}
use Rattle.inc_graph.specs.Views.{seen_edge, seen_parts, AreParts}
use Rattle.inc_graph.specs.ClosureSearch.{AreStates}
use Rattle.inc_graph.specs.GraphLists.{State, AreNumbered, state_defines, total, with_states}
use Rattle.inc_graph.proofs.EntryLemmas.{Leads, picked}
use Rattle.inc_graph.proofs.AnswerLemmas.{empty_graph, graph_is, edges_few}
use Rattle.inc_graph.proofs.DefinedNames.{flags_agree}
use Rattle.inc_graph.proofs.EdgeOrder.{InOrder, in_order}
use Rattle.inc_graph.proofs.MissingOrder.{missing_in_order}
use Rattle.inc_graph.proofs.EntryLemmas.{entries_lead_within, picked_edges, edges_leave, missing_stand, blockers_stand, definitions_stand}

---- the edges of one file

edge_leads : (P : ℕ → Type 0) (file : ℕ) (e : Entry) (es : List Edge) → Leads P e → All (λ (x : Edge). P x.to) es → All (λ (x : Edge). P x.to) (cons_option (entry_edge file e) es)
edge_leads P file (entry.Edge to line) es h t = All-cons (λ (x : Edge). P x.to) (record { from = file; to = to; line = line }) es h t
edge_leads P file (entry.Missing line header) es h t = t
edge_leads P file (entry.Blocker line why) es h t = t
edge_leads P file (entry.ByName name line) es h t = t
edge_leads P file (entry.Defines name line) es h t = t

edges_lead : (P : ℕ → Type 0) (file : ℕ) (es : List Entry) → All (Leads P) es → All (λ (x : Edge). P x.to) (filter_map (entry_edge file) es)
edges_lead P file [] h = All-nil (λ (x : Edge). P x.to)
edges_lead P file (e ∷ es) h = edge_leads P file e (filter_map (entry_edge file) es) (All-head (Leads P) e es h) (edges_lead P file es (All-tail (Leads P) e es h))

picked_lead : (P : ℕ → Type 0) (file : ℕ) (x : Result (List Entry) FileFault) → ((es : List Entry) → x ≡ Ok es → All (Leads P) es) → All (λ (e : Edge). P e.to) (picked entry_edge file x)
picked_lead P file (Ok es) h = edges_lead P file es (h es refl)
picked_lead P file (Err line) h = All-nil (λ (e : Edge). P e.to)

edges_within : (setting : Setting) (listing : Listing) (starts : List Start) (file : ℕ) → All (λ (e : Edge). e.to < length listing.files) (edges_from setting listing starts file)
edges_within setting listing starts file =
    subst (λ es. All (λ (e : Edge). e.to < length listing.files) es) (picked_edges setting listing starts file)
    (picked_lead (λ to. to < length listing.files) file (file_entries setting listing starts file) (λ es q. entries_lead_within setting listing starts file es q))

edges_inner : (setting : Setting) (listing : Listing) (headers : List ℕ) (starts : List Start) (file : ℕ) → file < length listing.files → is_member file headers ≡ false → All (IsInner (length listing.files) headers) (edges_from setting listing starts file)
edges_inner setting listing headers starts file low ne = λ k d h.
    let from = edges_leave setting listing starts file k d h in
    record {
      from_within = omega (arith, from);
      to_within = edges_within setting listing starts file k d h;
      before = ap (λ (f : ℕ). is_member f headers) from ∙ ne;
    }

---- the edges of all files

All-flat_map : {X Y : Type 0} (P : Y → Type 0) (Q : X → Type 0) (f : X → List Y) → ((x : X) → Q x → All P (f x)) → (xs : List X) → All Q xs → All P (flat_map f xs)
All-flat_map P Q f h [] q = All-nil P
All-flat_map P Q f h (x ∷ xs) q = All-append P (f x) (flat_map f xs) (h x (All-head Q x xs q)) (All-flat_map P Q f h xs (All-tail Q x xs q))

range_below : (n : ℕ) → All (λ f. f < n) (range_with_len 0 n)
range_below n = λ k d h.
    let low : k < n = omega (arith, length-range_with_len 0 n) in
    omega (arith, get_or-range_with_len 0 n k d low)

inner_within : (listing : Listing) (starts : ℕ → List Start) (headers : List ℕ) → All (λ f. (f < length listing.files) × (is_member f headers ≡ false)) (inner_files listing starts headers)
inner_within listing starts headers =
    let test : ℕ → Bool = λ f. is_found (starts f) && not (is_member f headers) in
    let n = length listing.files in
    λ k d h. (
      All-filter test (λ f. f < n) (range_with_len 0 n) (range_below n) k d h,
      not-true _ (and_parts _ _ (filter_passes test (range_with_len 0 n) k d h)).1,
    )

all_inner : (setting : Setting) (listing : Listing) (starts : ℕ → List Start) (headers : List ℕ) → All (IsInner (length listing.files) headers) (flat_map (λ f. edges_from setting listing (starts f) f) (inner_files listing starts headers))
all_inner setting listing starts headers =
    All-flat_map (IsInner (length listing.files) headers) (λ f. (f < length listing.files) × (is_member f headers ≡ false)) (λ f. edges_from setting listing (starts f) f)
    (λ f q. edges_inner setting listing headers (starts f) f q.0 q.1) (inner_files listing starts headers) (inner_within listing starts headers)

-- what is in a file of the closure is in a file of the project
all_within : {X : Type 0} (of : X → ℕ) (from : ℕ → List X) → ((f : ℕ) → All (λ x. of x ≡ f) (from f)) → (listing : Listing) (starts : ℕ → List Start) (headers : List ℕ)
    → All (λ x. of x < length listing.files) (flat_map from (inner_files listing starts headers))
all_within of from h listing starts headers =
    All-flat_map (λ x. of x < length listing.files) (λ f. (f < length listing.files) × (is_member f headers ≡ false)) from
    (λ f q. λ k d low. let at = h f k d low in omega (arith, at, q.0)) (inner_files listing starts headers) (inner_within listing starts headers)

pub from_seen : (items : List declared.Edge) → map (λ (e : declared.Edge). e.from) items ≡ map (λ (e : Edge). e.from) (map seen_edge items)
from_seen [] = refl
from_seen (e ∷ es) = ap (◌∷◌ e.from) (from_seen es)

---- the parts

sound_graph : (setting : Setting) (listing : Listing) (sources : List Source) (headers : List ℕ) (ss : List State) → (h : AreStates setting listing sources headers ss) → length listing.files ≤ MOST_FILES
    → AreEnds (length listing.files) (source_files sources) headers → total ss ≤ most_directives → IsSound (graph_of_files setting listing sources headers h.0 (inner_files listing h.0 headers))
sound_graph setting listing sources headers ss h few ends sized =
    let g = graph_of_files setting listing sources headers h.0 (inner_files listing h.0 headers) in
    let order : InOrder 0 g.edges = in_order setting listing h.0 headers in
    record {
      few = few;
      ends = ends;
      sized = omega (arith, edges_few setting listing h.0 headers ss h.2);
      inner = all_inner setting listing h.0 headers;
      lines = order.lines;
      ordered = order.ordered;
      missing_within = all_within (λ (d : Missing). d.file) (λ f. missing_from setting listing (h.0 f) f) (λ f. missing_stand setting listing (h.0 f) f) listing h.0 headers;
      missing_ordered = missing_in_order setting listing h.0 headers;
      blockers_within =
          all_within (λ (b : Blocker). b.file) (λ f. blockers_from setting listing (is_defined_in setting listing (inner_files listing h.0 headers)) (h.0 f) f)
          (λ f. blockers_stand setting listing (is_defined_in setting listing (inner_files listing h.0 headers)) (h.0 f) f) listing h.0 headers;
      definitions_within = all_within (λ (d : DirectiveId). d.file) (λ f. definitions_from setting listing f) (λ f. definitions_stand setting listing f) listing h.0 headers;
    }

pub are_parts : (setting : Setting) (listing : Listing) (sources : List Source) (headers : List ℕ) (ss : List State) (p : Parts) → AreStates setting listing sources headers ss → length listing.files ≤ MOST_FILES
    → AreEnds (length listing.files) (source_files sources) headers → nat_lt most_directives (total ss) ≡ false → AreNumbered p
    → (defined : ℕ → Bool) (count : ℕ) → count ≡ length setting.undefined → ((name : ℕ) → defined name ≡ (nat_lt name count && list_any (state_defines name) ss))
    → seen_parts p ≡ with_states defined (empty_graph (length listing.files) (source_files sources) headers) 0 ss → AreParts p
are_parts setting listing sources headers ss p h few ends sized numbered defined count count_is flags same =
    let g = graph_of_files setting listing sources headers h.0 (inner_files listing h.0 headers) in
    let is : seen_parts p ≡ g = same ∙ graph_is setting listing sources headers h.0 ss h.2 defined (flags_agree setting listing h.0 headers ss h.2 defined count count_is flags) in
    let rising : IsNonDecreasing (map (λ (e : Edge). e.from) g.edges) = (in_order setting listing h.0 headers).rising in
    let order : map (λ (e : declared.Edge). e.from) p.edges.items ≡ map (λ (e : Edge). e.from) g.edges = from_seen p.edges.items ∙ ap (λ (x : Graph). map (λ (e : Edge). e.from) x.edges) is in
    record {
      sound = subst IsSound (sym is) (sound_graph setting listing sources headers ss h few ends (ltb-false most_directives (total ss) sized));
      numbers = numbered.numbers;
      order = subst IsNonDecreasing (sym order) rising;
    }
