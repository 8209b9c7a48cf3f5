-- A preprocessing without the directives of a separating set reads those files alone to which walks outside the set lead, and none of
-- these is a header. An include by a name that no build and none of these files defines leads nowhere.
use Rattle.std.proofs.Common.{◌≡◌, ◌≢◌, ℕ, ◌<◌, ◌≤◌, Bool, true, false, List, [], ◌∷◌, ◌++◌, Option, Some, None, Result, Ok, Err, IfOk, length, drop, inl, inr, refl, sym, ap, ◌∙◌, subst}
use Rattle.std.specs.Prelude.{◌⊎◌, ◌==◌, ◌&&◌, ◌||◌, slice_get, filter_map, flat_map, option_map, not, Contains, IfSome, IsTrue}
use Rattle.std.specs.List.{cons_option, list_any}
use Rattle.std.specs.Option.{option_map_or}
use Rattle.std.proofs.lemmas.Bool.{cond-true, and_from, or_cases, or_left, or_right, or_parts, or_from, cases_Bool, cases_lt, both_ways, eq-eqb, eqb-true, ne_eqb, not_from_false, not-true, false≢true}
use Rattle.std.proofs.lemmas.List.Elements.{Contains-append_cases, Contains-push_cases}
use Rattle.std.proofs.lemmas.List.Folds.{list_any-append}
use Rattle.inc_text.specs.PhaseText.{phase_text}
use Rattle.inc_token.specs.LineWalk.{lines_or_none}
use Rattle.inc_token.specs.TokenLines.{Tok, token_lines}
use Rattle.inc_token.specs.declared.kinds.IncludeName.{IncludeName}
use Rattle.inc_text.specs.declared.languages.Language.{Language}
use Rattle.inc_directive.specs.FileDirectives.{Directive, file_directives}
use Rattle.inc_directive.specs.Groups.{FileLine, Group, Empty, directive_line, lines_of}
use Rattle.inc_directive.specs.LineKinds.{LineKind, Include, Other, Target, Quoted, Angled, ByName, Computed, defined_name, line_of_tokens, search_after}
use Rattle.inc_directive.specs.declared.kinds.DirectiveKind.TheVariants.{Define}
use Rattle.inc_directive.specs.Removal.{stays, without, with_removed}
use Rattle.inc_directive.specs.declared.files.FileFault as declared
use Rattle.inc_lookup.specs.DirectiveLists.{is_listed}
use Rattle.inc_lookup.specs.declared.projects.DirectiveId.{DirectiveId}
use Rattle.inc_lookup.specs.declared.projects.Found.{Found}
use Rattle.inc_lookup.specs.Projects.{File, Listing, SearchPath, each_once, path_at, bytes_at, found_place}
use Rattle.inc_graph.specs.declared.graphs.Blocker.{Blocker}
use Rattle.inc_graph.specs.declared.graphs.BlockerKind.{BlockerKind}
use Rattle.inc_graph.specs.declared.graphs.BlockerKind.TheVariants as kind
use Rattle.inc_graph.specs.Settings.{Setting, layouts_of, listing_in}
use Rattle.inc_graph.specs.declared.building.Source.{Source}
use Rattle.inc_graph.specs.IncludeGraph.{Edge, Graph, Start, IsClosure, IsReached, Lead, Nowhere, Several, To, as_source, bad_file, blockers_from, defined_at, directive_count, edges_from, entries_from, entry_blocker, entry_of, file_definitions, found_by, graph_directives, graph_of_files, graph_or_bad, inner_files, is_defined_in, is_of, leads, name_entry, text_definitions, undefined_place}
use Rattle.inc_graph.specs.Between.{between}
use Rattle.inc_graph.specs.Chains.{IsShortestOrNone, is_chain, is_walk, leaves, target}
use Rattle.inc_graph.specs.Members.{is_member}
use Rattle.inc_graph.specs.Cuts.{Fixed, IsSeparating, directives_of, meets}
use Rattle.inc_graph.proofs.BetweenWalks.{chain_between}
use Rattle.inc_graph.proofs.ClosureLemmas.{reached_push, source_reached, start_at}
use Rattle.inc_graph.proofs.SourceLemmas.{source_among}
use Rattle.inc_graph.proofs.ClosureWalks.{contains_head, contains_none, some_contains, in_piece, kept, past_none, inner_file, inside_found, answer_is}
use Rattle.inc_graph.proofs.LeadLemmas.{blocker_there, edge_there}
use Rattle.inc_graph.proofs.LooplessWalks.{chain_of_walk}
use Rattle.inc_graph.proofs.Walks.{chain_parts, walk_push}
use Rattle.inc_cut.proofs.Links.{no_meeting}
use Rattle.inc_macro.specs.Macros.{Definition, Table, is_defined, no_macros, with_words}
use Rattle.inc_macro.proofs.UndefinedNames.{words_same}
use Rattle.inc_macro.specs.Results.{◌>>=◌}
use Rattle.inc_macro.specs.declared.faults.DefineFault.{DefineFault}
use Rattle.inc_pp.specs.Files.{FileFault, lines_or_fault, tree_of_lines, tree_of}
use Rattle.inc_pp.specs.Preprocessing.{Outcome, preprocessing}
use Rattle.inc_pp.specs.Settings.{Settings}
use Rattle.inc_pp.proofs.NamedIncludes.{BeginsWith}
use Rattle.inc_report.specs.Headline.{DefineNone, NeverReadAny, NeverReads}
use Rattle.inc_report.specs.KeptOut.{KeepsOut, CutKeepsHeadersOut, AnsweredCutKeepsHeadersOut, NothingUnreachedIsRead, NothingIsReadWithoutChain, UnreachedIsKeptOut}
use Rattle.inc_report.proofs.KeptLines.{Each, contains_more, each_both, each_weaker, IsLineOf, Stays, LineStays, directive_at, tree_lines, tree_stays}
use Rattle.inc_report.proofs.NamedLines.{any_there, begins_with, line_is_spelled, none_defined, none_once, place_there}
use Rattle.inc_report.proofs.ReadWalks.{AreAbsent, IsNearRead, LeadsNear, near_reads}

---- lists

contains_first : {X : Type 0} (o : Option X) (xs : List X) (x : X) → o ≡ Some x → Contains (cons_option o xs) x
contains_first o xs x is = subst (λ p. Contains (cons_option p xs) x) (sym is) (contains_head x xs)

-- what an element gives is given
given : {X Y : Type 0} (f : X → Option Y) (xs : List X) (x : X) (y : Y) → Contains xs x → f x ≡ Some y → Contains (filter_map f xs) y
given f [] x y c is = absurd (contains_none x c)
given f (z ∷ xs) x y c is =
    elim (Contains-append_cases (z ∷ []) xs x c) [
      | inl here ↦ elim (Contains-push_cases [] z x here) [
        | inl none ↦ absurd (contains_none x none)
        | inr same ↦ contains_first (f z) (filter_map f xs) y (ap f same ∙ is)
      ]
      | inr later ↦ contains_more (f z) (filter_map f xs) y (given f xs x y later is)
    ]

-- an empty list has no element
never_there : {X : Type 0} (xs : List X) (x : X) → xs ≡ [] → Contains xs x → ⊥
never_there xs x none c = contains_none x (subst (λ ys. Contains ys x) none c)

member_push_cases : (j k : ℕ) (ws : List ℕ) → is_member j (ws ++ k ∷ []) ≡ true → (is_member j ws ≡ true) ⊎ (k ≡ j)
member_push_cases j k ws m =
    elim (or_cases (is_member j ws) ((k == j) || false) (sym (list_any-append (λ n. n == j) ws (k ∷ [])) ∙ m)) [
      | inl before ↦ inl before
      | inr last ↦ elim (or_cases (k == j) false last) [ inl here ↦ inr (eqb-true k j here) | inr never ↦ absurd (false≢true never) ]
    ]

---- lists of directives

listed_in_neither : (a b : List DirectiveId) (file line : ℕ) → is_listed (a ++ b) file line ≡ false → (is_listed a file line ≡ false) × (is_listed b file line ≡ false)
listed_in_neither a b file line off =
    or_parts (is_listed a file line) (is_listed b file line) (sym (list_any-append (λ (d : DirectiveId). (d.file == file) && (d.line == line)) a b) ∙ off)

listed_more : (o : Option DirectiveId) (ds : List DirectiveId) (file line : ℕ) → is_listed ds file line ≡ true → is_listed (cons_option o ds) file line ≡ true
listed_more None ds file line on = on
listed_more (Some d) ds file line on = or_right ((d.file == file) && (d.line == line)) (is_listed ds file line) on

directive_id : Edge → DirectiveId
directive_id e = record { file = e.from; line = e.line }

listed_first : (o : Option Edge) (ds : List DirectiveId) (e : Edge) → o ≡ Some e → is_listed (cons_option (option_map directive_id o) ds) e.from e.line ≡ true
unfolding directive_id
listed_first o ds e is =
    ap (λ p. is_listed (cons_option (option_map directive_id p) ds) e.from e.line) is
    ∙ or_left ((e.from == e.from) && (e.line == e.line)) (is_listed ds e.from e.line) (and_from (e.from == e.from) (e.line == e.line) (eq-eqb e.from e.from refl) (eq-eqb e.line e.line refl))

-- the directives of a set have that of each edge of the set
listed_member : (g : Graph) (set : List ℕ) (k : ℕ) (e : Edge) → slice_get g.edges k ≡ Some e → is_member k set ≡ true → is_listed (directives_of g set) e.from e.line ≡ true
unfolding directive_id
listed_member g [] k e at m = absurd (false≢true m)
listed_member g (j ∷ js) k e at m =
    elim (or_cases (j == k) (is_member k js) m) [
      | inl here ↦ listed_first (slice_get g.edges j) (directives_of g js) e (ap (slice_get g.edges) (eqb-true j k here) ∙ at)
      | inr later ↦ listed_more (option_map directive_id (slice_get g.edges j)) (directives_of g js) e.from e.line (listed_member g js k e at later)
    ]

---- a file by its directives

abbrev edge_at : (file to line : ℕ) → Edge
edge_at file to line = record { from = file; to = to; line = line }

abbrev blocker_at_line : (file line : ℕ) (kind : BlockerKind) → Blocker
blocker_at_line file line kind = record { file = file; line = line; kind = kind }

module _ (setting : Setting) (listing : Listing) (file : ℕ) (ds : List Directive) (are : file_directives setting.language (phase_text setting.language (bytes_at listing file)) ≡ Ok ds) where
  -- an include directive that is not taken as removed is one that the graph sees
  seen : (by : IncludeName) (target : Target) (line : ℕ) → Contains ds (directive_at (Include by target) line) → is_listed setting.removed file line ≡ false
      → Contains (graph_directives setting listing file) (directive_at (Include by target) line)
  seen by target line there off =
      subst (λ (r : Result (List Directive) declared.FileFault). Contains (elim (without (is_listed setting.removed file) r) [ Ok directives ↦ directives | Err fault ↦ [] ]) (directive_at (Include by target) line)) (sym are)
      (kept (stays (is_listed setting.removed file)) ds (directive_at (Include by target) line) there (not_from_false (is_listed setting.removed file line) off))

  computed_blocker : (defined : ℕ → Bool) (starts : List Start) (by : IncludeName) (line : ℕ) → Contains ds (directive_at (Include by Computed) line)
      → is_listed setting.removed file line ≡ false → Contains (blockers_from setting listing defined starts file) (blocker_at_line file line kind.Computed)
  computed_blocker defined starts by line there off =
      given (entry_blocker defined file) (entries_from setting listing starts file) _ (blocker_at_line file line kind.Computed)
      (given (entry_of setting.undefined (layouts_of setting listing) starts file) (graph_directives setting listing file) (directive_at (Include by Computed) line) _ (seen by Computed line there off) refl)
      refl

  -- an include by a name is one where its entry is
  named_blocker : (defined : ℕ → Bool) (starts : List Start) (by : IncludeName) (name : List ℕ) (line : ℕ) → Contains ds (directive_at (Include by (ByName name)) line)
      → is_listed setting.removed file line ≡ false → entry_blocker defined file (name_entry (undefined_place setting.undefined name) line) ≡ Some (blocker_at_line file line kind.Computed)
      → Contains (blockers_from setting listing defined starts file) (blocker_at_line file line kind.Computed)
  named_blocker defined starts by name line there off stops =
      given (entry_blocker defined file) (entries_from setting listing starts file) (name_entry (undefined_place setting.undefined name) line) (blocker_at_line file line kind.Computed)
      (given (entry_of setting.undefined (layouts_of setting listing) starts file) (graph_directives setting listing file) (directive_at (Include by (ByName name)) line)
      (name_entry (undefined_place setting.undefined name) line) (seen by (ByName name) line there off) refl)
      stops

  -- so it is where the name has no place among those that no build defines
  unknown_blocker : (defined : ℕ → Bool) (starts : List Start) (by : IncludeName) (name : List ℕ) (line : ℕ) → Contains ds (directive_at (Include by (ByName name)) line)
      → is_listed setting.removed file line ≡ false → undefined_place setting.undefined name ≡ None
      → Contains (blockers_from setting listing defined starts file) (blocker_at_line file line kind.Computed)
  unknown_blocker defined starts by name line there off none =
      named_blocker defined starts by name line there off (ap (λ (o : Option ℕ). entry_blocker defined file (name_entry o line)) none)

  -- and where a file defines it
  defined_blocker : (defined : ℕ → Bool) (starts : List Start) (by : IncludeName) (name : List ℕ) (k line : ℕ) → Contains ds (directive_at (Include by (ByName name)) line)
      → is_listed setting.removed file line ≡ false → undefined_place setting.undefined name ≡ Some k → defined k ≡ true
      → Contains (blockers_from setting listing defined starts file) (blocker_at_line file line kind.Computed)
  defined_blocker defined starts by name k line there off is on =
      named_blocker defined starts by name line there off (ap (λ (o : Option ℕ). entry_blocker defined file (name_entry o line)) is ∙ cond-true _ _ _ on)

  -- a name that a line of the file defines is one of the definitions of the file
  definition_there : (l : FileLine) (name : List ℕ) (k : ℕ) → IsLineOf setting.language (lines_or_none (token_lines setting.language (phase_text setting.language (bytes_at listing file)))) l
      → defined_name l.kind l.tokens ≡ Some name → undefined_place setting.undefined name ≡ Some k → Contains (file_definitions setting listing file) (defined_at (line_of_tokens l.tokens) k)
  definition_there l name k line defines is =
      subst (λ (r : Result (List Directive) declared.FileFault). Contains (elim (without (is_listed setting.removed file) r) [ Ok directives ↦ text_definitions setting (phase_text setting.language (bytes_at listing file)) | Err fault ↦ [] ]) (defined_at (line_of_tokens l.tokens) k)) (sym are)
      (place_there setting.language setting.undefined (lines_or_none (token_lines setting.language (phase_text setting.language (bytes_at listing file)))) l name k line defines is)

-- a file whose directives have a fault is bad
fault_is_bad : (setting : Setting) (listing : Listing) (file : ℕ) (fault : declared.FileFault) → file_directives setting.language (phase_text setting.language (bytes_at listing file)) ≡ Err fault
    → bad_file setting listing file ≡ Some (file, fault)
fault_is_bad setting listing file fault is =
    ap (λ (r : Result (List Directive) declared.FileFault). elim (without (is_listed setting.removed file) r) [ Ok directives ↦ None | Err f ↦ Some (file, f) ]) is

-- the tree of a text
abbrev tree_in : Language → (removed : ℕ → Bool) → List ℕ → Result Group FileFault
tree_in language removed bytes = lines_or_fault (token_lines language (phase_text language bytes)) >>= λ ls. tree_of_lines language (with_removed language removed ls)

same_lines : (r : Result Group FileFault) (a b : Group) → r ≡ Ok a → r ≡ Ok b → lines_of b ≡ lines_of a
same_lines r a b p q = let same : b ≡ a = cc in ap lines_of same

-- a file that is none of the list has no line
no_lines : (language : Language) (listing : Listing) (removed : List DirectiveId) (file : ℕ) (tree : Group) → length listing.files ≤ file → tree_of language listing removed file ≡ Ok tree → lines_of tree ≡ []
no_lines language listing removed file tree high is =
    let bytes : bytes_at listing file ≡ [] = ap (λ (o : Option File). option_map_or (λ (x : File). x.bytes) o []) (past_none listing.files file high) in
    let empty : tree_of language listing removed file ≡ Ok Empty = ap (tree_in language (is_listed removed file)) bytes in
    same_lines (tree_of language listing removed file) Empty tree empty is

---- the files that are read

-- a lead to several files, or not
is_several : (lead : Lead) → (lead ≡ Several) ⊎ (lead ≢ Several)
is_several Nowhere = inr (λ e. cc)
is_several (To file) = inr (λ e. cc)
is_several Several = inl refl

module _ (setting : Setting) (listing : Listing) (sources : List Source) (headers : List ℕ) (starts : ℕ → List Start) (closure : IsClosure setting listing sources headers starts)
    (good : filter_map (bad_file setting listing) (inner_files listing starts headers) ≡ [])
    (clear : flat_map (λ f. blockers_from setting listing (is_defined_in setting listing (inner_files listing starts headers)) (starts f) f) (inner_files listing starts headers) ≡ [])
    (fixed : Fixed) (set : List ℕ) (separates : IsSeparating (graph_of_files setting listing sources headers starts (inner_files listing starts headers)) fixed set)
    (source : Source) (begins : Contains sources source) where
  abbrev files : List ℕ
  files = inner_files listing starts headers

  abbrev graph : Graph
  graph = graph_of_files setting listing sources headers starts files

  abbrev cut : List DirectiveId
  cut = directives_of graph set ++ setting.removed

  -- some file of the graph defines the name at this place
  abbrev defined : ℕ → Bool
  defined = is_defined_in setting listing files

  -- the blockers of a file
  abbrev blockers : ℕ → List Blocker
  blockers f = blockers_from setting listing defined (starts f) f

  -- no build defines the name, and no file of the graph does
  abbrev Absent : List ℕ → Type 0
  Absent name = (k : ℕ) × (undefined_place setting.undefined name ≡ Some k) × (defined k ≡ false)

  -- a file that is reached as it was found, and to which a walk from the source leads that misses the set
  record IsApart (at : Found) : Type 0 where
    within : IsReached setting listing sources headers source.path at
    walk : List ℕ
    real : is_walk graph source.file walk at.file ≡ true
    apart : (i : ℕ) → is_member i walk ≡ true → is_member i set ≡ false

  source_apart : IsApart (as_source source.file)
  source_apart = record { within = source_reached setting listing sources headers source.path source.file begins; walk = []; real = eq-eqb source.file source.file refl; apart = λ i m. absurd (false≢true m) }

  -- no such file is a header
  not_end : (at : Found) → IsApart at → is_member at.file headers ≡ false
  not_end at a =
      elim (cases_Bool (is_member at.file headers)) [
        | inl ends ↦
            let chain = chain_of_walk graph source.file at.file a.walk (source_among sources source.file source.path begins) ends a.real in
            absurd (both_ways (meets chain.0 set) (no_meeting chain.0 set (λ i m. a.apart i (chain.2 i m))) (separates.met chain.0 chain.1))
        | inr other ↦ other
      ]

  -- it is one of the files of the graph
  inner : (at : Found) → IsApart at → at.file < length listing.files → Contains files at.file
  inner at a low =
      inner_file listing starts headers at.file low
      (inside_found setting listing sources headers starts closure at.file (record { start = start_at source.path at; reached = a.within })) (not_end at a)

  -- the same of what a directive finds that is not removed
  next_apart : (at b : Found) (d : Directive) → IsApart at → at.file < length listing.files → Contains (graph_directives setting listing at.file) d
      → found_by (layouts_of setting listing source.path) at d ≡ Some b → is_listed (directives_of graph set) at.file d.line ≡ false → IsApart b
  next_apart at b d a low there found off =
      let start : Start = start_at source.path at in
      let way : Contains (starts at.file) start = (closure at.file start).1 a.within in
      let one : leads (layouts_of setting listing) (starts at.file) at.file d ≢ Several =
      λ several. never_there (flat_map blockers files) (blocker_at_line at.file d.line kind.Several) clear
      (in_piece blockers files at.file _ (inner at a low) (blocker_there setting listing defined (starts at.file) at.file d start b there found several)) in
      let e : Edge = edge_at at.file b.file d.line in
      let edge : Contains (edges_from setting listing (starts at.file) at.file) e = edge_there setting listing (starts at.file) at.file d start b way there found one in
      let other : is_member at.file headers ≡ false = not_end at a in
      let place = some_contains graph.edges e (in_piece (λ f. edges_from setting listing (starts f) f) files at.file e (inner at a low) edge) in
      let leaving : leaves graph at.file place.0 ≡ true = ap (λ (o : Option Edge). option_map_or (λ (x : Edge). x.from == at.file) o false) place.1 ∙ eq-eqb at.file at.file refl in
      let to : target graph place.0 ≡ b.file = ap (λ (o : Option Edge). option_map_or (λ (x : Edge). x.to) o 0) place.1 in
      let not_cut : is_member place.0 set ≡ false = not_in_set e place.0 place.1 off in
      record {
        within = reached_push setting listing sources headers source.path at b a.within (record { directive = d; there = there; leads = found; before = other });
        walk = a.walk ++ place.0 ∷ [];
        real = ap (λ (x : ℕ). is_walk graph source.file (a.walk ++ place.0 ∷ []) x) (sym to) ∙ walk_push graph source.file a.walk at.file place.0 a.real leaving;
        apart = λ i m. elim (member_push_cases i place.0 a.walk m) [ inl before ↦ a.apart i before | inr last ↦ ap (λ (k : ℕ). is_member k set) (sym last) ∙ not_cut ];
      }
    where
      not_in_set : (e : Edge) (k : ℕ) → slice_get graph.edges k ≡ Some e → is_listed (directives_of graph set) e.from e.line ≡ false → is_member k set ≡ false
      not_in_set e k is off =
          elim (cases_Bool (is_member k set)) [
            | inl m ↦ absurd (both_ways (is_listed (directives_of graph set) e.from e.line) off (listed_member graph set k e is m))
            | inr n ↦ n
          ]

  ---- the lines of such a file

  abbrev KindLeads : Found → LineKind → List Tok → Type 0
  KindLeads at k ts = LeadsNear IsApart Absent (λ by form name. found_place (layouts_of setting listing source.path) (path_at (layouts_of setting listing source.path) at.file) form (search_after by at.next) name) k ts

  abbrev LineLeads : Found → FileLine → Type 0
  LineLeads at l = KindLeads at l.kind l.tokens

  module _ (at : Found) (a : IsApart at) (low : at.file < length listing.files) where
    found_apart : (d : Directive) → Contains (graph_directives setting listing at.file) d → is_listed (directives_of graph set) at.file d.line ≡ false
        → (o : Option Found) → found_by (layouts_of setting listing source.path) at d ≡ o → IfSome o IsApart
    found_apart d there off None is = tt
    found_apart d there off (Some b) is = next_apart at b d a low there is off

    -- there is no such blocker
    no_blocker : (line : ℕ) → Contains (blockers at.file) (blocker_at_line at.file line kind.Computed) → ⊥
    no_blocker line there =
        never_there (flat_map blockers files) (blocker_at_line at.file line kind.Computed) clear (in_piece blockers files at.file _ (inner at a low) there)

    -- of the token lines of the file
    abbrev IsOf : FileLine → Type 0
    IsOf l = IsLineOf setting.language (lines_or_none (token_lines setting.language (phase_text setting.language (bytes_at listing at.file)))) l

    module _ (ds : List Directive) (are : file_directives setting.language (phase_text setting.language (bytes_at listing at.file)) ≡ Ok ds) where
      -- an include by a name that is not removed
      absent_name : (by : IncludeName) (name : List ℕ) (line : ℕ) → Contains ds (directive_at (Include by (ByName name)) line) → is_listed setting.removed at.file line ≡ false → Absent name
      absent_name by name line there off = by_place (undefined_place setting.undefined name) refl
        where
          by_definition : (k : ℕ) (b : Bool) → undefined_place setting.undefined name ≡ Some k → defined k ≡ b → Absent name
          by_definition k true is on = absurd (no_blocker line (defined_blocker setting listing at.file ds are defined (starts at.file) by name k line there off is on))
          by_definition k false is never = (k, is, never)

          by_place : (o : Option ℕ) → undefined_place setting.undefined name ≡ o → Absent name
          by_place (Some k) is = by_definition k (defined k) is refl
          by_place None is = absurd (no_blocker line (unknown_blocker setting listing at.file ds are defined (starts at.file) by name line there off is))

      -- a line defines none of these names
      defines_other : (l : FileLine) → IsOf l → (name : List ℕ) → Absent name → defined_name l.kind l.tokens ≢ Some name
      defines_other l line name absent defines =
          both_ways (defined absent.0) absent.2
          (any_there (λ f. list_any (is_of absent.0) (file_definitions setting listing f)) files at.file (inner at a low)
          (any_there (is_of absent.0) (file_definitions setting listing at.file) (defined_at (line_of_tokens l.tokens) absent.0)
          (definition_there setting listing at.file ds are l name absent.0 line defines absent.1) (eq-eqb absent.0 absent.0 refl)))

      line_leads : (k : LineKind) (ts : List Tok) (line : ℕ) → Stays (is_listed cut at.file) ds k line
          → ((by : IncludeName) (name : List ℕ) → k ≡ Include by (ByName name) → BeginsWith name (drop 2 ts))
          → ((name : List ℕ) → Absent name → defined_name k ts ≢ Some name) → KindLeads at k ts
      line_leads (Include by (Quoted name)) ts line s begins other =
          let off = listed_in_neither (directives_of graph set) setting.removed at.file line s.1 in
          found_apart (directive_at (Include by (Quoted name)) line) (seen setting listing at.file ds are by (Quoted name) line s.0 off.1) off.0 _ refl
      line_leads (Include by (Angled name)) ts line s begins other =
          let off = listed_in_neither (directives_of graph set) setting.removed at.file line s.1 in
          found_apart (directive_at (Include by (Angled name)) line) (seen setting listing at.file ds are by (Angled name) line s.0 off.1) off.0 _ refl
      line_leads (Include by (ByName name)) ts line s begins other =
          let off = listed_in_neither (directives_of graph set) setting.removed at.file line s.1 in
          (absent_name by name line s.0 off.1, begins by name refl)
      line_leads (Include by Computed) ts line s begins other =
          let off = listed_in_neither (directives_of graph set) setting.removed at.file line s.1 in
          no_blocker line (computed_blocker setting listing at.file ds are defined (starts at.file) by line s.0 off.1)
      line_leads (Other Define) ts line s begins other = other
      line_leads k ts line s begins other = tt

      file_line_leads : (l : FileLine) → LineStays (is_listed cut at.file) ds l × IsOf l → LineLeads at l
      file_line_leads l h =
          line_leads l.kind l.tokens (directive_line l) h.0
          (λ by name is. begins_with setting.language by name l.tokens (sym h.1.0 ∙ is) (line_is_spelled setting.language (phase_text setting.language (bytes_at listing at.file)) l h.1))
          (defines_other l h.1)

    leads_by : (r : Result (List Directive) declared.FileFault) → file_directives setting.language (phase_text setting.language (bytes_at listing at.file)) ≡ r → (tree : Group) → tree_of setting.language listing cut at.file ≡ Ok tree
        → Each (LineLeads at) (lines_of tree)
    leads_by (Ok ds) are tree is =
        let lines = token_lines setting.language (phase_text setting.language (bytes_at listing at.file)) in
        each_weaker (λ l. LineStays (is_listed cut at.file) ds l × IsOf l) (LineLeads at) (file_line_leads ds are) (lines_of tree)
        (each_both (LineStays (is_listed cut at.file) ds) IsOf (lines_of tree)
        (tree_stays setting.language (is_listed cut at.file) lines tree ds is are)
        (tree_lines setting.language (is_listed cut at.file) lines tree is))
    leads_by (Err fault) are tree is =
        absurd (never_there (filter_map (bad_file setting listing) files) (at.file, fault) good
        (given (bad_file setting listing) files at.file (at.file, fault) (inner at a low) (fault_is_bad setting listing at.file fault are)))

  lines_lead : (at : Found) → IsApart at → (tree : Group) → tree_of setting.language listing cut at.file ≡ Ok tree → Each (LineLeads at) (lines_of tree)
  lines_lead at a tree is =
      elim (cases_lt at.file (length listing.files)) [
        | inl low ↦ leads_by at a low (file_directives setting.language (phase_text setting.language (bytes_at listing at.file))) refl tree is
        | inr high ↦ subst (λ ls. Each (LineLeads at) ls) (sym (no_lines setting.language listing cut at.file tree high is)) tt
      ]

  -- after the words no absent name is defined
  words_define_none : (r : Result Table (ℕ × DefineFault)) → IfOk r (λ table. IsTrue (not (list_any (λ name. is_defined name table) setting.undefined)))
      → IfOk r (λ table. table.aside ≡ λ name. []) → IfOk r (AreAbsent IsApart Absent)
  words_define_none (Ok table) none aside = λ name absent.
      none_defined setting.undefined name absent.0 table absent.1 none (ap (λ (a : List ℕ → List (Option Definition)). a name) aside)
  words_define_none (Err fault) none aside = tt

  -- what is read is such a file
  reads_apart : (words : List (List ℕ)) (settings : Settings) (outcome : Outcome) → settings.language ≡ setting.language → DefineNone setting.language words setting.undefined
      → preprocessing (listing_in setting.others listing source.path) source.file words settings cut ≡ Ok outcome → Each (IsNearRead IsApart Absent) outcome.reads
  reads_apart words settings outcome same none is =
      near_reads IsApart Absent (listing_in setting.others listing source.path) source.file words settings cut outcome source_apart
      (λ at a tree t. lines_lead at a tree (ap (λ (language : Language). tree_of language listing cut at.file) (sym same) ∙ t))
      (words_define_none (with_words 0 words (no_macros settings.language))
      (subst (λ (language : Language). DefineNone language words setting.undefined) (sym same) none) (words_same 0 words (no_macros settings.language))) is

  never_among : (file : ℕ) → ((at : Found) → IsApart at → at.file ≢ file) → (reads : List ℕ) → Each (IsNearRead IsApart Absent) reads → is_member file reads ≡ false
  never_among file never [] each = refl
  never_among file never (f ∷ fs) each =
      or_from (f == file) (is_member file fs) (ne_eqb f file (never (record { file = f; next = each.0.0 }) each.0.1)) (never_among file never fs each.1)

  never_reads : (file : ℕ) → ((at : Found) → IsApart at → at.file ≢ file) → NeverReads (listing_in setting.others listing source.path) setting.language setting.undefined source.file file cut
  never_reads file never words settings outcome same none is =
      not_from_false (is_member file outcome.reads) (never_among file never outcome.reads (reads_apart words settings outcome same none is))

  keeps_out : (header : ℕ) → is_member header headers ≡ true → NeverReads (listing_in setting.others listing source.path) setting.language setting.undefined source.file header cut
  keeps_out header ends =
      never_reads header (λ at a same. both_ways (is_member header headers) (ap (λ (x : ℕ). is_member x headers) (sym same) ∙ not_end at a) ends)

  -- nor is a file read to which no walk leads
  unwalked_unread : (file : ℕ) → ((walk : List ℕ) → is_walk graph source.file walk file ≡ false)
      → NeverReads (listing_in setting.others listing source.path) setting.language setting.undefined source.file file cut
  unwalked_unread file never =
      never_reads file (λ at a same. both_ways (is_walk graph source.file a.walk file) (never a.walk) (ap (is_walk graph source.file a.walk) (sym same) ∙ a.real))

pub cut_keeps_headers_out : CutKeepsHeadersOut
cut_keeps_headers_out setting listing sources headers starts closure good clear fixed set separates source header begins ends =
    keeps_out setting listing sources headers starts closure good clear fixed set separates source begins header ends

---- of a graph that is answered

no_bad : (bads : List (ℕ × declared.FileFault)) (count : ℕ) (h g : Graph) → graph_or_bad bads count h ≡ Ok g → bads ≡ []
no_bad [] count h g is = refl
no_bad (bad ∷ more) count h g is = cc

pub answered_cut_keeps_headers_out : AnsweredCutKeepsHeadersOut
answered_cut_keeps_headers_out setting listing sources headers g answer clear fixed set separates =
    let starts : ℕ → List Start = answer.0 in
    let files : List ℕ = inner_files listing starts headers in
    let bads = filter_map (bad_file setting listing) files in
    let h : Graph = graph_of_files setting listing sources headers starts files in
    let count : ℕ = directive_count setting listing starts files in
    let same : h ≡ g = answer_is bads count h g answer.2 in
    subst (λ (x : Graph). x.blockers ≡ [] → IsSeparating x fixed set → KeepsOut setting listing sources headers x set) same
    (λ none met. cut_keeps_headers_out setting listing sources headers starts answer.1 (no_bad bads count h g answer.2) none fixed set met)
    clear separates

---- what no chain reaches

-- nothing need be removed
none_separates : (g : Graph) (fixed : Fixed) → IsShortestOrNone g None → IsSeparating g fixed []
none_separates g fixed none = record {
  editable = refl;
  once = refl;
  met = λ chain is. absurd (both_ways (is_chain g chain) (not-true (is_chain g chain) (none chain)) is);
}

pub unreached_is_kept_out : UnreachedIsKeptOut
unreached_is_kept_out setting listing sources headers g answer clear none =
    answered_cut_keeps_headers_out setting listing sources headers g answer clear (λ i. false) [] (none_separates g (λ i. false) none)

---- what no walk reaches

-- without headers there is no chain
nothing_separates : (g : Graph) (fixed : Fixed) → g.headers ≡ [] → IsSeparating g fixed []
nothing_separates g fixed none = record {
  editable = refl;
  once = refl;
  met = λ chain is. let parts = chain_parts g chain is in absurd (false≢true (sym (ap (is_member parts.header) none) ∙ parts.ends));
}

pub nothing_unreached_is_read : NothingUnreachedIsRead
nothing_unreached_is_read setting listing sources g answer clear source begins file never =
    let starts : ℕ → List Start = answer.0 in
    let files : List ℕ = inner_files listing starts [] in
    let bads = filter_map (bad_file setting listing) files in
    let h : Graph = graph_of_files setting listing sources [] starts files in
    let count : ℕ = directive_count setting listing starts files in
    let same : h ≡ g = answer_is bads count h g answer.2 in
    subst (λ (x : Graph). x.blockers ≡ [] → ((walk : List ℕ) → IsTrue (not (is_walk x source.file walk file)))
    → NeverReads (listing_in setting.others listing source.path) setting.language setting.undefined source.file file setting.removed) same
    (λ none unwalked. unwalked_unread setting listing sources [] starts answer.1 (no_bad bads count h g answer.2) none (λ i. false) [] (nothing_separates h (λ i. false) refl) source begins file
    (λ walk. not-true (is_walk h source.file walk file) (unwalked walk)))
    clear never

pub nothing_is_read_without_a_chain : NothingIsReadWithoutChain
nothing_is_read_without_a_chain setting listing sources g answer clear from to none source begins among file ends =
    nothing_unreached_is_read setting listing sources g answer clear source begins file
    (λ walk. elim (cases_Bool (is_walk g source.file walk file)) [
      | inl real ↦
          let chain = chain_between g from to source.file file walk among ends real in
          absurd (both_ways (is_chain (between from to g) chain.0) (not-true (is_chain (between from to g) chain.0) (none chain.0)) chain.1)
      | inr other ↦ not_from_false (is_walk g source.file walk file) other
    ])

---- names that are given more than once

pub once_define_none : (language : Language) (words names : List (List ℕ)) → DefineNone language words names → DefineNone language words (each_once names)
once_define_none language words names none = by (with_words 0 words (no_macros language)) none
  where
    by : (r : Result Table (ℕ × DefineFault)) → IfOk r (λ table. IsTrue (not (list_any (λ name. is_defined name table) names)))
        → IfOk r (λ table. IsTrue (not (list_any (λ name. is_defined name table) (each_once names))))
    by (Ok table) h = none_once names table h
    by (Err fault) h = tt

-- what holds of names of which each is there once holds of the names
pub of_names_once : (others : List SearchPath) (listing : Listing) (language : Language) (names : List (List ℕ)) (sources : List Source) (headers : List ℕ) (removed : List DirectiveId)
    → NeverReadAny others listing language (each_once names) sources headers removed → NeverReadAny others listing language names sources headers removed
of_names_once others listing language names sources headers removed never source header begins ends words settings outcome same none is =
    never source header begins ends words settings outcome same (once_define_none language words names none) is
