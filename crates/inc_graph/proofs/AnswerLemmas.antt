-- What the states of the files say of the graph, and of the refusal in its place.
use Rattle.std.proofs.Common.{◌≡◌, ℕ, zero, suc, ◌+◌, ◌≤◌, Bool, true, false, cond, not, ◌&&◌, List, [], ◌∷◌, ◌++◌, Option, Some, None, Result, Ok, Err, length, map, refl, ap, sym, ◌∙◌, append_assoc, arith}
use Rattle.std.specs.Prelude.{filter_map, filter, flat_map, option_to_list, nat_lt}
use Rattle.std.specs.List.{cons_option, list_any, range_with_len}
use Rattle.inc_text.specs.PhaseText.{phase_text}
use Rattle.std.proofs.lemmas.Bool.{cond-true, cond-false}
use Rattle.std.proofs.lemmas.List.{append-nil, length-append}
use Rattle.std.proofs.lemmas.List.FromFn.{length-map-range_with_len}
use Rattle.inc_graph.specs.declared.building.Source.{Source}
use Rattle.inc_graph.specs.Members.{is_member}
use Rattle.inc_graph.specs.Settings.{Setting, layouts_of}
use Rattle.inc_directive.specs.FileDirectives.{Directive}
use Rattle.inc_directive.specs.declared.files.FileFault.{FileFault}
use Rattle.inc_graph.specs.MissingLists.{Missing}
use Rattle.inc_lookup.specs.Projects.{Listing, bytes_at}
use Rattle.inc_lookup.specs.declared.projects.DirectiveId.{DirectiveId}
use Rattle.inc_graph.specs.FileEntries.{Definition, Entry}
use Rattle.inc_graph.specs.declared.building.entries.Entry.TheVariants as entry
use Rattle.inc_graph.specs.declared.building.GraphRefusal.{GraphRefusal}
use Rattle.inc_graph.specs.declared.building.GraphRefusal.TheVariants.{TooManyDirectives}
use Rattle.inc_graph.specs.declared.graphs.Blocker.{Blocker}
use Rattle.inc_graph.specs.declared.graphs.BlockerKind.TheVariants as kind
use Rattle.inc_graph.specs.declared.graphs.Edge as declared
use Rattle.inc_graph.specs.IncludeGraph.{Edge, read_directives, Graph, IsGraphAnswer, is_found, entry_edge, entry_missing, entry_blocker, entry_definition, definitions_from, entries_from, edges_from, missing_from, blockers_from, directive_count, entry_of, is_defined_in, source_files, Start, text_definitions, inner_files, bad_file, most_directives, sized_graph, graph_of_files, graph_or_bad}
use Rattle.inc_graph.specs.Entries.{entries_of, file_entries}
use Rattle.inc_graph.specs.Views.{seen_edge}
use Rattle.inc_graph.specs.ClosureSearch.{AreStates, state_of}
use Rattle.inc_graph.specs.GraphLists.{State, bad_state, bad_states, first_refusal, collected, is_include, size, state_defines, total, with_entry, with_entries, with_state, with_states}
use Rattle.inc_graph.proofs.DefinedNames.{flags_agree}
use Rattle.inc_graph.proofs.EntryLemmas.{included, picked_state, picked_edges, picked_missing, picked_blockers, picked_definitions, picked_included}
use Rattle.inc_graph.proofs.OneAnswer.{filter_map_agree, flat_map_agree}

---- what is added to a graph

graph_with : Graph → List Edge → List Missing → List Blocker → List DirectiveId → Graph
graph_with g es ms bs ds = record { files = g.files; sources = g.sources; headers = g.headers; edges = es; missing = ms; blockers = bs; definitions = ds }

with_more : Graph → List Edge → List Missing → List Blocker → List DirectiveId → Graph
with_more g es ms bs ds = graph_with g (g.edges ++ es) (g.missing ++ ms) (g.blockers ++ bs) (g.definitions ++ ds)

same_graph : (g : Graph) (es fs : List Edge) (ms ns : List Missing) (bs cs : List Blocker) (ds ts : List DirectiveId) → es ≡ fs → ms ≡ ns → bs ≡ cs → ds ≡ ts → graph_with g es ms bs ds ≡ graph_with g fs ns cs ts
same_graph g es fs ms ns bs cs ds ts e m b d =
    ap (λ x. graph_with g x ms bs ds) e ∙ ap (λ x. graph_with g fs x bs ds) m ∙ ap (λ x. graph_with g fs ns x ds) b ∙ ap (λ x. graph_with g fs ns cs x) d

with_none : (g : Graph) → with_more g [] [] [] [] ≡ g
unfolding graph_with with_more
with_none g = same_graph g _ g.edges _ g.missing _ g.blockers _ g.definitions (append-nil g.edges) (append-nil g.missing) (append-nil g.blockers) (append-nil g.definitions)

with_twice : (g : Graph) (es fs : List Edge) (ms ns : List Missing) (bs cs : List Blocker) (ds ts : List DirectiveId)
    → with_more (with_more g es ms bs ds) fs ns cs ts ≡ with_more g (es ++ fs) (ms ++ ns) (bs ++ cs) (ds ++ ts)
unfolding graph_with with_more
with_twice g es fs ms ns bs cs ds ts =
    same_graph g _ (g.edges ++ (es ++ fs)) _ (g.missing ++ (ms ++ ns)) _ (g.blockers ++ (bs ++ cs)) _ (g.definitions ++ (ds ++ ts))
    (append_assoc g.edges es fs) (append_assoc g.missing ms ns) (append_assoc g.blockers bs cs) (append_assoc g.definitions ds ts)

with_entry_is : (defined : ℕ → Bool) (file : ℕ) (g : Graph) (e : Entry)
    → with_entry defined file g e ≡ with_more g (option_to_list (entry_edge file e)) (option_to_list (entry_missing file e)) (option_to_list (entry_blocker defined file e)) (option_to_list (entry_definition file e))
unfolding graph_with with_more
with_entry_is defined file g (entry.Edge to line) = sym (same_graph g _ _ _ g.missing _ g.blockers _ g.definitions refl (append-nil g.missing) (append-nil g.blockers) (append-nil g.definitions))
with_entry_is defined file g (entry.Missing line header) = sym (same_graph g _ g.edges _ _ _ g.blockers _ g.definitions (append-nil g.edges) refl (append-nil g.blockers) (append-nil g.definitions))
with_entry_is defined file g (entry.Blocker line why) = sym (same_graph g _ g.edges _ g.missing _ _ _ g.definitions (append-nil g.edges) (append-nil g.missing) refl (append-nil g.definitions))
with_entry_is defined file g (entry.ByName name line) = by (defined name)
  where
    b : Blocker
    b = record { file = file; line = line; kind = kind.Computed }

    by : (x : Bool) → cond x (record g { blockers = g.blockers ++ b ∷ [] }) g ≡ with_more g [] [] (option_to_list (cond x (Some b) None)) []
    by true = sym (same_graph g _ g.edges _ g.missing _ _ _ g.definitions (append-nil g.edges) (append-nil g.missing) refl (append-nil g.definitions))
    by false = sym (with_none g)
with_entry_is defined file g (entry.Defines name line) = sym (same_graph g _ g.edges _ g.missing _ g.blockers _ _ (append-nil g.edges) (append-nil g.missing) (append-nil g.blockers) refl)

cons_option-list : {X : Type 0} (o : Option X) (xs : List X) → option_to_list o ++ xs ≡ cons_option o xs
cons_option-list None xs = refl
cons_option-list (Some x) xs = refl

same_more : (g : Graph) (es fs : List Edge) (ms ns : List Missing) (bs cs : List Blocker) (ds ts : List DirectiveId) → es ≡ fs → ms ≡ ns → bs ≡ cs → ds ≡ ts → with_more g es ms bs ds ≡ with_more g fs ns cs ts
same_more g es fs ms ns bs cs ds ts e m b d =
    ap (λ x. with_more g x ms bs ds) e ∙ ap (λ x. with_more g fs x bs ds) m ∙ ap (λ x. with_more g fs ns x ds) b ∙ ap (λ x. with_more g fs ns cs x) d

with_entries_is : (defined : ℕ → Bool) (file : ℕ) (g : Graph) (es : List Entry)
    → with_entries defined file g es ≡ with_more g (filter_map (entry_edge file) es) (filter_map (entry_missing file) es) (filter_map (entry_blocker defined file) es) (filter_map (entry_definition file) es)
with_entries_is defined file g [] = sym (with_none g)
with_entries_is defined file g (e ∷ es) =
    with_entries_is defined file (with_entry defined file g e) es
    ∙ ap (λ h. with_more h (filter_map (entry_edge file) es) (filter_map (entry_missing file) es) (filter_map (entry_blocker defined file) es) (filter_map (entry_definition file) es)) (with_entry_is defined file g e)
    ∙ with_twice g _ _ _ _ _ _ _ _
    ∙ same_more g _ _ _ _ _ _ _ _ (cons_option-list (entry_edge file e) _) (cons_option-list (entry_missing file e) _) (cons_option-list (entry_blocker defined file e) _) (cons_option-list (entry_definition file e) _)

with_state_is : (defined : ℕ → Bool) (file : ℕ) (g : Graph) (s : State)
    → with_state defined file g s ≡ with_more g (picked_state entry_edge file s) (picked_state entry_missing file s) (picked_state (entry_blocker defined) file s) (picked_state entry_definition file s)
with_state_is defined file g None = sym (with_none g)
with_state_is defined file g (Some (Ok es)) = with_entries_is defined file g es
with_state_is defined file g (Some (Err line)) = sym (with_none g)

with_states_is : (defined : ℕ → Bool) (g : Graph) (file : ℕ) (ss : List State)
    → with_states defined g file ss ≡ with_more g (collected (picked_state entry_edge) file ss) (collected (picked_state entry_missing) file ss) (collected (picked_state (entry_blocker defined)) file ss) (collected (picked_state entry_definition) file ss)
with_states_is defined g file [] = sym (with_none g)
with_states_is defined g file (s ∷ ss) =
    with_states_is defined (with_state defined file g s) (file + 1) ss
    ∙ ap (λ h. with_more h (collected (picked_state entry_edge) (file + 1) ss) (collected (picked_state entry_missing) (file + 1) ss) (collected (picked_state (entry_blocker defined)) (file + 1) ss) (collected (picked_state entry_definition) (file + 1) ss)) (with_state_is defined file g s)
    ∙ with_twice g _ _ _ _ _ _ _ _

---- how many there are

-- so many as are no definitions
included_entry : (e : Entry) (es : List Entry) → length (filter_map included es) ≡ length (filter is_include es) → length (filter_map included (e ∷ es)) ≡ length (filter is_include (e ∷ es))
included_entry (entry.Edge to line) es h = ap suc h
included_entry (entry.Missing line header) es h = ap suc h
included_entry (entry.Blocker line why) es h = ap suc h
included_entry (entry.ByName name line) es h = ap suc h
included_entry (entry.Defines name line) es h = h

included_entries : (es : List Entry) → length (filter_map included es) ≡ length (filter is_include es)
included_entries [] = refl
included_entries (e ∷ es) = included_entry e es (included_entries es)

included_state : (file : ℕ) (s : State) → length (picked_state (λ f. included) file s) ≡ size s
included_state file None = refl
included_state file (Some (Ok es)) = included_entries es
included_state file (Some (Err line)) = refl

included_states : (file : ℕ) (ss : List State) → length (collected (picked_state (λ f. included)) file ss) ≡ total ss
included_states file [] = refl
included_states file (s ∷ ss) =
    omega (arith, included_state file s, included_states (file + 1) ss, length-append (picked_state (λ f. included) file s) (collected (picked_state (λ f. included)) (file + 1) ss))

-- edges are some of them
edge_sizes : (file : ℕ) (e : Entry) (es : List Entry) → length (filter_map (entry_edge file) es) ≤ length (filter is_include es) → length (filter_map (entry_edge file) (e ∷ es)) ≤ length (filter is_include (e ∷ es))
edge_sizes file (entry.Edge to line) es h = omega arith
edge_sizes file (entry.Missing line header) es h = omega arith
edge_sizes file (entry.Blocker line why) es h = omega arith
edge_sizes file (entry.ByName name line) es h = omega arith
edge_sizes file (entry.Defines name line) es h = h

edges_sizes : (file : ℕ) (es : List Entry) → length (filter_map (entry_edge file) es) ≤ length (filter is_include es)
edges_sizes file [] = omega arith
edges_sizes file (e ∷ es) = edge_sizes file e es (edges_sizes file es)

edges_of_state : (file : ℕ) (s : State) → length (picked_state entry_edge file s) ≤ size s
edges_of_state file None = omega arith
edges_of_state file (Some (Ok es)) = edges_sizes file es
edges_of_state file (Some (Err line)) = omega arith

edges_of_states : (file : ℕ) (ss : List State) → length (collected (picked_state entry_edge) file ss) ≤ total ss
edges_of_states file [] = omega arith
edges_of_states file (s ∷ ss) =
    omega (arith, edges_of_state file s, edges_of_states (file + 1) ss, length-append (picked_state entry_edge file s) (collected (picked_state entry_edge) (file + 1) ss))

---- the files of the closure

collected_cond : {X : Type 0} (give : ℕ → State → List X) (from : ℕ → List X) (st : ℕ → State) (k : ℕ) (b : Bool) (later : List X) (rest : List ℕ)
    → (b ≡ true → give k (st k) ≡ from k) → (b ≡ false → give k (st k) ≡ []) → later ≡ flat_map from rest → give k (st k) ++ later ≡ flat_map from (cond b (k ∷ rest) rest)
collected_cond give from st k true later rest h n e = ap (λ x. x ++ later) (h refl) ∙ ap (λ x. from k ++ x) e
collected_cond give from st k false later rest h n e = ap (λ x. x ++ later) (n refl) ∙ e

collected_map : {X : Type 0} (give : ℕ → State → List X) (from : ℕ → List X) (st : ℕ → State) (test : ℕ → Bool)
    → ((f : ℕ) → test f ≡ true → give f (st f) ≡ from f) → ((f : ℕ) → test f ≡ false → give f (st f) ≡ [])
    → (k n : ℕ) → collected give k (map st (range_with_len k n)) ≡ flat_map from (filter test (range_with_len k n))
collected_map give from st test h none k zero = refl
collected_map give from st test h none k (suc n) =
    collected_cond give from st k (test k) _ (filter test (range_with_len (k + 1) n)) (h k) (none k) (collected_map give from st test h none (k + 1) n)

-- what each file that is read gives, in order
collected_files : {X : Type 0} (give : ℕ → State → List X) (from : ℕ → List X) (setting : Setting) (listing : Listing) (starts : ℕ → List Start) (headers : List ℕ)
    → ((f : ℕ) → give f (Some (file_entries setting listing (starts f) f)) ≡ from f) → ((f : ℕ) → give f None ≡ [])
    → collected give 0 (map (state_of setting listing starts headers) (range_with_len 0 (length listing.files))) ≡ flat_map from (inner_files listing starts headers)
collected_files give from setting listing starts headers h none =
    collected_map give from (state_of setting listing starts headers) (λ f. is_found (starts f) && not (is_member f headers))
    (λ f e. ap (give f) (cond-true (is_found (starts f) && not (is_member f headers)) _ _ e) ∙ h f)
    (λ f e. ap (give f) (cond-false (is_found (starts f) && not (is_member f headers)) _ _ e) ∙ none f)
    0 (length listing.files)

flat_map_options : {X Y : Type 0} (h : X → Option Y) (xs : List X) → flat_map (λ x. option_to_list (h x)) xs ≡ filter_map h xs
flat_map_options h [] = refl
flat_map_options h (x ∷ xs) = cons_option-list (h x) (flat_map (λ y. option_to_list (h y)) xs) ∙ ap (cons_option (h x)) (flat_map_options h xs)

bad_of_file : (what : Directive → Option Entry) (file : ℕ) (places : List Definition) (r : Result (List Directive) FileFault)
    → bad_state file (Some (entries_of what places r)) ≡ option_to_list (elim r [ Ok directives ↦ None | Err fault ↦ Some (file, fault) ])
bad_of_file what file places (Ok directives) = refl
bad_of_file what file places (Err fault) = refl

pub bads_are : (setting : Setting) (listing : Listing) (starts : ℕ → List Start) (headers : List ℕ) (ss : List State) → ss ≡ map (state_of setting listing starts headers) (range_with_len 0 (length listing.files))
    → bad_states 0 ss ≡ filter_map (bad_file setting listing) (inner_files listing starts headers)
bads_are setting listing starts headers ss e =
    ap (bad_states 0) e
    ∙ collected_files bad_state (λ f. option_to_list (bad_file setting listing f)) setting listing starts headers
    (λ f. bad_of_file (entry_of setting.undefined (layouts_of setting listing) (starts f) f) f (text_definitions setting (phase_text setting.language (bytes_at listing f))) (read_directives setting listing f)) (λ f. refl)
    ∙ flat_map_options (bad_file setting listing) (inner_files listing starts headers)

pub length_states : (setting : Setting) (listing : Listing) (sources : List Source) (headers : List ℕ) (ss : List State) → AreStates setting listing sources headers ss → length ss ≡ length listing.files
length_states setting listing sources headers ss h = ap length h.2 ∙ length-map-range_with_len (state_of setting listing h.0 headers) 0 (length listing.files)

-- a graph of no directives
abbrev pub empty_graph : (files : ℕ) (sources headers : List ℕ) → Graph
empty_graph files sources headers = record { files = files; sources = sources; headers = headers; edges = []; missing = []; blockers = []; definitions = [] }

-- where names are defined as flags say
blockers_agree : (setting : Setting) (listing : Listing) (a b : ℕ → Bool) (starts : List Start) (file : ℕ) → ((name : ℕ) → a name ≡ b name) → blockers_from setting listing a starts file ≡ blockers_from setting listing b starts file
blockers_agree setting listing a b starts file same = filter_map_agree (entry_blocker a file) (entry_blocker b file) one (entries_from setting listing starts file)
  where
    one : (e : Entry) → entry_blocker a file e ≡ entry_blocker b file e
    one (entry.Edge to line) = refl
    one (entry.Missing line header) = refl
    one (entry.Blocker line why) = refl
    one (entry.ByName name line) = ap (λ (x : Bool). cond x (Some (record { file = file; line = line; kind = kind.Computed })) None) (same name)
    one (entry.Defines name line) = refl

pub graph_is : (setting : Setting) (listing : Listing) (sources : List Source) (headers : List ℕ) (starts : ℕ → List Start) (ss : List State) → ss ≡ map (state_of setting listing starts headers) (range_with_len 0 (length listing.files))
    → (defined : ℕ → Bool) → ((name : ℕ) → defined name ≡ is_defined_in setting listing (inner_files listing starts headers) name)
    → with_states defined (empty_graph (length listing.files) (source_files sources) headers) 0 ss ≡ graph_of_files setting listing sources headers starts (inner_files listing starts headers)
unfolding graph_with with_more
graph_is setting listing sources headers starts ss e defined agree =
    let g = empty_graph (length listing.files) (source_files sources) headers in
    let st = map (state_of setting listing starts headers) (range_with_len 0 (length listing.files)) in
    let files = inner_files listing starts headers in
    ap (with_states defined g 0) e ∙ with_states_is defined g 0 st
    ∙ same_graph g _ _ _ _ _ _ _ _
    (collected_files (picked_state entry_edge) (λ f. edges_from setting listing (starts f) f) setting listing starts headers (λ f. picked_edges setting listing (starts f) f) (λ f. refl))
    (collected_files (picked_state entry_missing) (λ f. missing_from setting listing (starts f) f) setting listing starts headers (λ f. picked_missing setting listing (starts f) f) (λ f. refl))
    (collected_files (picked_state (entry_blocker defined)) (λ f. blockers_from setting listing defined (starts f) f) setting listing starts headers (λ f. picked_blockers setting listing defined (starts f) f) (λ f. refl)
    ∙ flat_map_agree (λ f. blockers_from setting listing defined (starts f) f) (λ f. blockers_from setting listing (is_defined_in setting listing files) (starts f) f)
    (λ f. blockers_agree setting listing defined (is_defined_in setting listing files) (starts f) f agree) files)
    (collected_files (picked_state entry_definition) (λ f. definitions_from setting listing f) setting listing starts headers (λ f. picked_definitions setting listing (starts f) f) (λ f. refl))

-- how many directives the files have
pub count_is : (setting : Setting) (listing : Listing) (starts : ℕ → List Start) (headers : List ℕ) (ss : List State) → ss ≡ map (state_of setting listing starts headers) (range_with_len 0 (length listing.files))
    → directive_count setting listing starts (inner_files listing starts headers) ≡ total ss
count_is setting listing starts headers ss e =
    ap length (sym (collected_files (picked_state (λ f. included)) (λ f. entries_from setting listing (starts f) f) setting listing starts headers (λ f. picked_included setting listing (starts f) f) (λ f. refl)))
    ∙ included_states 0 (map (state_of setting listing starts headers) (range_with_len 0 (length listing.files)))
    ∙ ap total (sym e)

-- the edges are no more
pub edges_few : (setting : Setting) (listing : Listing) (starts : ℕ → List Start) (headers : List ℕ) (ss : List State) → ss ≡ map (state_of setting listing starts headers) (range_with_len 0 (length listing.files))
    → length (flat_map (λ f. edges_from setting listing (starts f) f) (inner_files listing starts headers)) ≤ total ss
edges_few setting listing starts headers ss e =
    let st = map (state_of setting listing starts headers) (range_with_len 0 (length listing.files)) in
    let are = collected_files (picked_state entry_edge) (λ f. edges_from setting listing (starts f) f) setting listing starts headers (λ f. picked_edges setting listing (starts f) f) (λ f. refl) in
    let few = edges_of_states 0 st in
    omega (arith, few, ap length are, ap total e)

---- the answer

first_is_bad : (bads : List (ℕ × FileFault)) (count : ℕ) (g : Graph) (refusal : GraphRefusal) → first_refusal bads ≡ Some refusal → graph_or_bad bads count g ≡ Err refusal
first_is_bad [] count g refusal e = cc
first_is_bad (b ∷ bads) count g refusal e = cc

none_is_bad : (bads : List (ℕ × FileFault)) (count : ℕ) (g : Graph) → first_refusal bads ≡ None → graph_or_bad bads count g ≡ sized_graph count g
none_is_bad [] count g e = refl
none_is_bad (b ∷ bads) count g e = cc

pub bad_answer : (setting : Setting) (listing : Listing) (sources : List Source) (headers : List ℕ) (ss : List State) (refusal : GraphRefusal) → AreStates setting listing sources headers ss
    → first_refusal (bad_states 0 ss) ≡ Some refusal → IsGraphAnswer setting listing sources headers (Err refusal)
bad_answer setting listing sources headers ss refusal h e =
    (h.0, h.1, first_is_bad _ _ _ refusal (ap first_refusal (sym (bads_are setting listing h.0 headers ss h.2)) ∙ e))

sized_answer : (setting : Setting) (listing : Listing) (sources : List Source) (headers : List ℕ) (ss : List State) (answer : Result Graph GraphRefusal) → (h : AreStates setting listing sources headers ss)
    → first_refusal (bad_states 0 ss) ≡ None → sized_graph (total ss) (graph_of_files setting listing sources headers h.0 (inner_files listing h.0 headers)) ≡ answer → IsGraphAnswer setting listing sources headers answer
sized_answer setting listing sources headers ss answer h e a =
    let g = graph_of_files setting listing sources headers h.0 (inner_files listing h.0 headers) in (
      h.0,
      h.1,
      none_is_bad _ _ _ (ap first_refusal (sym (bads_are setting listing h.0 headers ss h.2)) ∙ e) ∙ ap (λ n. sized_graph n g) (count_is setting listing h.0 headers ss h.2) ∙ a,
    )

sized_by : (g : Graph) (n : ℕ) (b : Bool) → nat_lt most_directives n ≡ b → sized_graph n g ≡ cond b (Err TooManyDirectives) (Ok g)
sized_by g n b t = ap (λ c. cond c (Err TooManyDirectives) (Ok g)) t

pub many_answer : (setting : Setting) (listing : Listing) (sources : List Source) (headers : List ℕ) (ss : List State) → AreStates setting listing sources headers ss
    → first_refusal (bad_states 0 ss) ≡ None → nat_lt most_directives (total ss) ≡ true → IsGraphAnswer setting listing sources headers (Err TooManyDirectives)
many_answer setting listing sources headers ss h e t =
    let g = graph_of_files setting listing sources headers h.0 (inner_files listing h.0 headers) in
    sized_answer setting listing sources headers ss (Err TooManyDirectives) h e (sized_by g (total ss) true t)

pub whole_answer : (setting : Setting) (listing : Listing) (sources : List Source) (headers : List ℕ) (ss : List State) (graph : Graph) → AreStates setting listing sources headers ss
    → first_refusal (bad_states 0 ss) ≡ None → nat_lt most_directives (total ss) ≡ false
    → (defined : ℕ → Bool) (count : ℕ) → count ≡ length setting.undefined → ((name : ℕ) → defined name ≡ (nat_lt name count && list_any (state_defines name) ss))
    → graph ≡ with_states defined (empty_graph (length listing.files) (source_files sources) headers) 0 ss → IsGraphAnswer setting listing sources headers (Ok graph)
whole_answer setting listing sources headers ss graph h e t defined count count_is flags same =
    let g = graph_of_files setting listing sources headers h.0 (inner_files listing h.0 headers) in
    let agree = flags_agree setting listing h.0 headers ss h.2 defined count count_is flags in
    sized_answer setting listing sources headers ss (Ok graph) h e
    (sized_by g (total ss) false t ∙ ap Ok (sym (same ∙ graph_is setting listing sources headers h.0 ss h.2 defined agree)))

---- the code's lists

-- parts with no directives
pub empty_parts : (n files : ℕ) (ss sources hs headers : List ℕ) (es : List declared.Edge) (ms : List Missing) (bs : List Blocker) (ds : List DirectiveId) → n ≡ files → ss ≡ sources → hs ≡ headers → es ≡ [] → ms ≡ [] → bs ≡ [] → ds ≡ []
    → record { files = n; sources = ss; headers = hs; edges = map seen_edge es; missing = ms; blockers = bs; definitions = ds } ≡ empty_graph files sources headers
empty_parts n files ss sources hs headers es ms bs ds f s h e m b d = rw (f, s, h, e, m, b, d) refl
