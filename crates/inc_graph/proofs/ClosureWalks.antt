-- Of a graph that is answered, the walks by the numbers of its edges reach the files of the closure, and no others.
use Rattle.std.proofs.Common.{◌≡◌, ◌≢◌, ℕ, zero, suc, ◌<◌, ◌≤◌, Bool, true, false, List, [], ◌∷◌, Option, Some, None, Result, Ok, Err, length, inl, inr, refl, sym, ap, ◌∙◌, subst, cond, zero-add, arith}
use Rattle.std.specs.Prelude.{not, ◌&&◌, ◌==◌, ◌↔◌, slice_get, filter, flat_map, filter_map, Contains, nat_lt}
use Rattle.std.specs.List.{range_with_len}
use Rattle.std.specs.Option.{option_map_or}
use Rattle.std.proofs.lemmas.Bool.{and_parts, and_from, cases_lt, eq-eqb, eqb-true, not-true, not_from_false, cond-true, false≢true}
use Rattle.std.proofs.lemmas.List.Elements.{All-contains, filter_passes, Contains-append_cases, Contains-append_left, Contains-append_right, Contains-push_cases}
use Rattle.std.proofs.lemmas.List.FromFn.{get_or-range_with_len, length-range_with_len}
use Rattle.std.proofs.lemmas.Option.{slice_get_within, slice_get-get_or, get_or_from_slice_get}
use Rattle.inc_directive.specs.declared.files.FileFault.{FileFault}
use Rattle.inc_graph.specs.declared.building.Source.{Source}
use Rattle.inc_graph.specs.Members.{is_member}
use Rattle.inc_graph.specs.Settings.{Setting, layouts_of}
use Rattle.inc_directive.specs.FileDirectives.{Directive}
use Rattle.inc_lookup.specs.declared.projects.Found.{Found}
use Rattle.inc_lookup.specs.Projects.{Listing, bytes_at, File}
use Rattle.inc_graph.specs.declared.graphs.Blocker.{Blocker}
use Rattle.inc_graph.specs.declared.graphs.BlockerKind.TheVariants as kind
use Rattle.inc_graph.specs.declared.building.GraphRefusal.{GraphRefusal}
use Rattle.inc_graph.specs.declared.building.GraphRefusal.TheVariants.{TooManyDirectives}
use Rattle.inc_text.specs.PhaseText.{phase_text}
use Rattle.inc_graph.specs.IncludeGraph.{Start, found_so, source_files, text_directives, graph_directives, Edge, Graph, Several, leads, entry_of, entry_edge, edges_from, blockers_from, is_defined_in, directive_count, as_source, IsStep, IsTour, IsReached, InClosure, IsClosure, is_found, inner_files, most_directives, bad_file, graph_of_files, graph_or_bad, IsGraphAnswer, LeadsToOne}
use Rattle.inc_graph.specs.Chains.{target, leaves, is_walk, IsWalkedTo}
use Rattle.inc_graph.proofs.EntryLemmas.{edges_leave}
use Rattle.inc_graph.proofs.ClosureLemmas.{reached_push, source_reached}
use Rattle.inc_graph.proofs.LeadLemmas.{edge_there, blocker_there, edge_by}
use Rattle.inc_graph.proofs.SourceLemmas.{source_among, among_source}
use Rattle.inc_graph.proofs.Walks.{leaving_edge}

---- elements of lists

pub contains_head : {X : Type 0} (x : X) (xs : List X) → Contains (x ∷ xs) x
contains_head x xs = (0, omega arith, refl)

pub contains_tail : {X : Type 0} (y : X) (xs : List X) (x : X) → Contains xs x → Contains (y ∷ xs) x
contains_tail y xs x c = Contains-append_right (y ∷ []) xs x c

pub contains_none : {X : Type 0} (x : X) → Contains [] x → ⊥
contains_none x c = let low = c.1 in omega arith

pub contains_some : {X : Type 0} (xs : List X) (k : ℕ) (x : X) → slice_get xs k ≡ Some x → Contains xs x
contains_some xs k x e = (k, slice_get_within xs k x e, get_or_from_slice_get xs k x x e)

pub some_contains : {X : Type 0} (xs : List X) (x : X) → Contains xs x → (k : ℕ) × (slice_get xs k ≡ Some x)
some_contains xs x c = (c.0, slice_get-get_or xs c.0 x c.1 ∙ ap Some c.2)

-- an element of the pieces is one of a piece
piece_of : {X A : Type 0} (f : X → List A) (xs : List X) (y : A) → Contains (flat_map f xs) y → (x : X) × Contains xs x × Contains (f x) y
piece_of f [] y c = absurd (contains_none y c)
piece_of f (x ∷ xs) y c =
    elim (Contains-append_cases (f x) (flat_map f xs) y c) [
      | inl here ↦ (x, contains_head x xs, here)
      | inr later ↦ let rest = piece_of f xs y later in (rest.0, contains_tail x xs rest.0 rest.1, rest.2)
    ]

pub in_piece : {X A : Type 0} (f : X → List A) (xs : List X) (x : X) (y : A) → Contains xs x → Contains (f x) y → Contains (flat_map f xs) y
in_piece f [] x y c d = absurd (contains_none x c)
in_piece f (z ∷ xs) x y c d =
    elim (Contains-append_cases (z ∷ []) xs x c) [
      | inl here ↦ elim (Contains-push_cases [] z x here) [
        | inl none ↦ absurd (contains_none x none)
        | inr is ↦ Contains-append_left (f z) (flat_map f xs) y (subst (λ w. Contains (f w) y) (sym is) d)
      ]
      | inr later ↦ Contains-append_right (f z) (flat_map f xs) y (in_piece f xs x y later d)
    ]

kept_if : {X : Type 0} (b : Bool) (x z : X) (kept : List X) → (z ≡ x) → b ≡ true → Contains (cond b (z ∷ kept) kept) x
kept_if b x z kept is passes = subst (λ l. Contains l x) (sym (cond-true b (z ∷ kept) kept passes)) (subst (λ w. Contains (w ∷ kept) x) (sym is) (contains_head x kept))

kept_later : {X : Type 0} (b : Bool) (x z : X) (kept : List X) → Contains kept x → Contains (cond b (z ∷ kept) kept) x
kept_later true x z kept c = contains_tail z kept x c
kept_later false x z kept c = c

-- an element that passes is kept
pub kept : {X : Type 0} (p : X → Bool) (xs : List X) (x : X) → Contains xs x → p x ≡ true → Contains (filter p xs) x
kept p [] x c passes = absurd (contains_none x c)
kept p (z ∷ xs) x c passes =
    elim (Contains-append_cases (z ∷ []) xs x c) [
      | inl here ↦ elim (Contains-push_cases [] z x here) [
        | inl none ↦ absurd (contains_none x none)
        | inr is ↦ kept_if (p z) x z (filter p xs) is (ap p is ∙ passes)
      ]
      | inr later ↦ kept_later (p z) x z (filter p xs) (kept p xs x later passes)
    ]

in_range : (n f : ℕ) → f < n → Contains (range_with_len 0 n) f
in_range n f low = (f, omega (arith, length-range_with_len 0 n), get_or-range_with_len 0 n f f low ∙ zero-add f)

---- the files of a graph

-- a file that is none of the list has no edges
none_in_no_text : (setting : Setting) (f : ℕ) → text_directives setting f (phase_text setting.language []) ≡ Ok []
none_in_no_text setting f = refl

pub past_none : (files : List File) (f : ℕ) → length files ≤ f → slice_get files f ≡ None
past_none [] f low = refl
past_none (x ∷ xs) zero low = absurd (omega arith)
past_none (x ∷ xs) (suc f) low = past_none xs f (omega arith)

-- a file without text has none
no_text_no_edges : (setting : Setting) (listing : Listing) (starts : List Start) (f : ℕ) → bytes_at listing f ≡ [] → edges_from setting listing starts f ≡ []
no_text_no_edges setting listing starts f bytes =
    ap (λ r. filter_map (entry_edge f) (filter_map (entry_of setting.undefined (layouts_of setting listing) starts f) (elim r [ Ok directives ↦ directives | Err fault ↦ [] ])))
    (ap (λ (bs : List ℕ). text_directives setting f (phase_text setting.language bs)) bytes ∙ none_in_no_text setting f)

no_edges : (setting : Setting) (listing : Listing) (starts : List Start) (f : ℕ) → length listing.files ≤ f → edges_from setting listing starts f ≡ []
no_edges setting listing starts f low =
    no_text_no_edges setting listing starts f (ap (λ (o : Option File). option_map_or (λ (x : File). x.bytes) o []) (past_none listing.files f low))

pub edge_within : (setting : Setting) (listing : Listing) (starts : List Start) (f : ℕ) (e : Edge) → Contains (edges_from setting listing starts f) e → f < length listing.files
edge_within setting listing starts f e c =
    elim (cases_lt f (length listing.files)) [
      | inl low ↦ low
      | inr high ↦ absurd (contains_none e (subst (λ es. Contains es e) (no_edges setting listing starts f high) c))
    ]

-- a directive is in a file of the list
pub directive_within : (setting : Setting) (listing : Listing) (f : ℕ) (d : Directive) → Contains (graph_directives setting listing f) d → f < length listing.files
directive_within setting listing f d c =
    elim (cases_lt f (length listing.files)) [
      | inl low ↦ low
      | inr high ↦
          let bytes : bytes_at listing f ≡ [] = ap (λ (o : Option File). option_map_or (λ (x : File). x.bytes) o []) (past_none listing.files f high) in
          let none : graph_directives setting listing f ≡ [] =
          ap (λ r. elim r [ Ok directives ↦ directives | Err fault ↦ [] ]) (ap (λ (bs : List ℕ). text_directives setting f (phase_text setting.language bs)) bytes ∙ none_in_no_text setting f) in
          absurd (contains_none d (subst (λ ds. Contains ds d) none c))
    ]

pub inner_file : (listing : Listing) (starts : ℕ → List Start) (headers : List ℕ) (f : ℕ) → f < length listing.files → is_found (starts f) ≡ true → is_member f headers ≡ false → Contains (inner_files listing starts headers) f
inner_file listing starts headers f low here other =
    kept (λ x. is_found (starts x) && not (is_member x headers)) (range_with_len 0 (length listing.files)) f (in_range (length listing.files) f low)
    (and_from (is_found (starts f)) (not (is_member f headers)) here (not_from_false (is_member f headers) other))

inner_is : (listing : Listing) (starts : ℕ → List Start) (headers : List ℕ) (f : ℕ) → Contains (inner_files listing starts headers) f → (is_found (starts f) ≡ true) × (is_member f headers ≡ false)
inner_is listing starts headers f c =
    let passes = All-contains (λ x. (is_found (starts x) && not (is_member x headers)) ≡ true) (inner_files listing starts headers) f (filter_passes (λ x. is_found (starts x) && not (is_member x headers)) (range_with_len 0 (length listing.files))) c in
    let parts = and_parts (is_found (starts f)) (not (is_member f headers)) passes in
    (parts.0, not-true (is_member f headers) parts.1)

---- the files that are found

pub some_start : (starts : List Start) → is_found starts ≡ true → (start : Start) × Contains starts start
some_start [] is = absurd (false≢true is)
some_start (n ∷ ns) is = (n, contains_head n ns)

pub start_found : (starts : List Start) (start : Start) → Contains starts start → is_found starts ≡ true
start_found [] start c = absurd (contains_none start c)
start_found (n ∷ ns) start c = refl

-- they are the files of the closure
pub found_inside : (setting : Setting) (listing : Listing) (sources : List Source) (headers : List ℕ) (starts : ℕ → List Start) → IsClosure setting listing sources headers starts
    → (f : ℕ) → is_found (starts f) ≡ true → InClosure setting listing sources headers f
found_inside setting listing sources headers starts closure f found =
    let s = some_start (starts f) found in
    record { start = s.0; reached = (closure f s.0).0 s.1 }

pub inside_found : (setting : Setting) (listing : Listing) (sources : List Source) (headers : List ℕ) (starts : ℕ → List Start) → IsClosure setting listing sources headers starts
    → (f : ℕ) → InClosure setting listing sources headers f → is_found (starts f) ≡ true
inside_found setting listing sources headers starts closure f w = start_found (starts f) w.start ((closure f w.start).1 w.reached)

---- the graph that is answered

sized_is : (b : Bool) (h g : Graph) → cond {A = Result Graph GraphRefusal} b (Err TooManyDirectives) (Ok h) ≡ Ok g → h ≡ g
sized_is true h g e = cc
sized_is false h g e = cc

pub answer_is : (bads : List (ℕ × FileFault)) (count : ℕ) (h g : Graph) → graph_or_bad bads count h ≡ Ok g → h ≡ g
answer_is [] count h g e = sized_is (nat_lt most_directives count) h g e
answer_is (b ∷ bads) count h g e = cc

---- walks by edges and steps

module _ (setting : Setting) (listing : Listing) (sources : List Source) (headers : List ℕ) (starts : ℕ → List Start) (closure : IsClosure setting listing sources headers starts) where
  -- the edges of the graph are those of the files that are found, but the headers
  pub record IsOfFiles (g : Graph) : Type 0 where
    pub known : (k : ℕ) (e : Edge) → slice_get g.edges k ≡ Some e → Contains (edges_from setting listing (starts e.from) e.from) e × (is_found (starts e.from) ≡ true) × (is_member e.from headers ≡ false)
    pub numbered : (e : Edge) → Contains (edges_from setting listing (starts e.from) e.from) e → is_found (starts e.from) ≡ true → is_member e.from headers ≡ false → (k : ℕ) × (slice_get g.edges k ≡ Some e)
    pub stopped : (b : Blocker) → Contains (blockers_from setting listing (is_defined_in setting listing (inner_files listing starts headers)) (starts b.file) b.file) b → b.file < length listing.files → is_found (starts b.file) ≡ true → is_member b.file headers ≡ false → Contains g.blockers b

  of_files : IsOfFiles (graph_of_files setting listing sources headers starts (inner_files listing starts headers))
  of_files =
      let list : List ℕ = inner_files listing starts headers in
      let from : ℕ → List Edge = λ f. edges_from setting listing (starts f) f in
      let stops : ℕ → List Blocker = λ f. blockers_from setting listing (is_defined_in setting listing list) (starts f) f in
      record {
        known = λ k e at.
            let piece = piece_of from list e (contains_some (flat_map from list) k e at) in
            let same : e.from ≡ piece.0 = All-contains (λ (x : Edge). x.from ≡ piece.0) (from piece.0) e (edges_leave setting listing (starts piece.0) piece.0) piece.2 in
            let inner = inner_is listing starts headers piece.0 piece.1 in (
              subst (λ f. Contains (from f) e) (sym same) piece.2,
              ap (λ (f : ℕ). is_found (starts f)) same ∙ inner.0,
              ap (λ (f : ℕ). is_member f headers) same ∙ inner.1,
            );
        numbered = λ e there found before.
            some_contains (flat_map from list) e
            (in_piece from list e.from e (inner_file listing starts headers e.from (edge_within setting listing (starts e.from) e.from e there) found before) there);
        stopped = λ b there low found before. in_piece stops list b.file b (inner_file listing starts headers b.file low found before) there;
      }

  module _ (g : Graph) (of : IsOfFiles g) where
    -- an edge leads from a file of the closure to one
    edge_inside : (k : ℕ) (e : Edge) → slice_get g.edges k ≡ Some e → InClosure setting listing sources headers e.to
    edge_inside k e at =
        let edge = of.known k e at in
        let d = edge_by setting listing (starts e.from) e.from e edge.0 in
        let s : Start = d.2.0 in
        record {
          start = record { path = s.path; next = d.2.2.0 };
          reached = reached_push setting listing sources headers s.path (found_so e.from s) (record { file = e.to; next = d.2.2.0 }) ((closure e.from s).0 d.2.1)
              (record { directive = d.0; there = d.1; leads = d.2.2.1; before = edge.2 });
        }

    walk_inside : (w : List ℕ) (a b : ℕ) → InClosure setting listing sources headers a → is_walk g a w b ≡ true → InClosure setting listing sources headers b
    walk_inside [] a b inside walk = subst (InClosure setting listing sources headers) (eqb-true a b walk) inside
    walk_inside (i ∷ is) a b inside walk =
        let steps = and_parts (leaves g a i) (is_walk g (target g i) is b) walk in
        let e = leaving_edge g a i _ refl steps.0 in
        let to : target g i ≡ e.0.to = ap (λ (o : Option Edge). option_map_or (λ (x : Edge). x.to) o 0) e.1 in
        walk_inside is (target g i) b (subst (InClosure setting listing sources headers) (sym to) (edge_inside i e.0 e.1)) steps.1

    -- a step is an edge, where no directive leads to several files
    step_numbered : LeadsToOne g → (path : ℕ) (a b : Found) → IsReached setting listing sources headers path a → IsStep setting listing headers path a b
        → (k : ℕ) × ((e : Edge) × (slice_get g.edges k ≡ Some e) × (e.from ≡ a.file) × (e.to ≡ b.file))
    step_numbered one path a b reached step =
        let start : Start = record { path = path; next = a.next } in
        let way : Contains (starts a.file) start = (closure a.file start).1 reached in
        let found : is_found (starts a.file) ≡ true = start_found (starts a.file) start way in
        let single : leads (layouts_of setting listing) (starts a.file) a.file step.directive ≢ Several = λ several.
        let stop : Blocker = record { file = a.file; line = step.directive.line; kind = kind.Several } in
        All-contains (λ (x : Blocker). x.kind ≢ kind.Several) g.blockers stop one
        (of.stopped stop (blocker_there setting listing (is_defined_in setting listing (inner_files listing starts headers)) (starts a.file) a.file step.directive start b step.there step.leads several)
        (directive_within setting listing a.file step.directive step.there) found step.before) refl in
        let e : Edge = record { from = a.file; to = b.file; line = step.directive.line } in
        let k = of.numbered e (edge_there setting listing (starts a.file) a.file step.directive start b way step.there step.leads single) found step.before in
        (k.0, (e, k.1, refl, refl))

    tour_numbered : LeadsToOne g → (path : ℕ) (tour : List Found) (a b : Found) → IsReached setting listing sources headers path a → IsTour setting listing headers path a tour b → (w : List ℕ) × (is_walk g a.file w b.file ≡ true)
    tour_numbered one path [] a b reached at = ([], eq-eqb a.file b.file (ap (λ (x : Found). x.file) at))
    tour_numbered one path (c ∷ cs) a b reached tour =
        let at = step_numbered one path a c reached tour.0 in
        let rest = tour_numbered one path cs c b (reached_push setting listing sources headers path a c reached tour.0) tour.1 in
        let leaving : leaves g a.file at.0 ≡ true = ap (λ (o : Option Edge). option_map_or (λ (x : Edge). x.from == a.file) o false) at.1.1 ∙ eq-eqb at.1.0.from a.file at.1.2 in
        let to : target g at.0 ≡ c.file = ap (λ (o : Option Edge). option_map_or (λ (x : Edge). x.to) o 0) at.1.1 ∙ at.1.3 in
        (at.0 ∷ rest.0, and_from (leaves g a.file at.0) (is_walk g (target g at.0) rest.0 b.file) leaving (ap (λ f. is_walk g f rest.0 b.file) to ∙ rest.1))

    closure_walks : source_files sources ≡ g.sources → LeadsToOne g → (f : ℕ) → InClosure setting listing sources headers f ↔ IsWalkedTo g f
    closure_walks start one f = (
      λ c.
          let r = c.reached in
          let w = tour_numbered one c.start.path r.tour (as_source r.source) (found_so f c.start) (source_reached setting listing sources headers c.start.path r.source r.among) r.real in
          record { source = r.source; among = ap (is_member r.source) (sym start) ∙ source_among sources r.source c.start.path r.among; walk = w.0; real = w.1 },
      λ w.
          let s = among_source sources w.source (ap (is_member w.source) start ∙ w.among) in
          let inside : InClosure setting listing sources headers w.source = record { start = record { path = s.0; next = None }; reached = source_reached setting listing sources headers s.0 w.source s.1 } in
          walk_inside w.walk w.source f inside w.real,
    )

module _ (setting : Setting) (listing : Listing) (sources : List Source) (headers : List ℕ) (g : Graph) (h : IsGraphAnswer setting listing sources headers (Ok g)) where
  pub answer_files : graph_of_files setting listing sources headers h.0 (inner_files listing h.0 headers) ≡ g
  answer_files =
      let files = inner_files listing h.0 headers in
      answer_is (filter_map (bad_file setting listing) files) (directive_count setting listing h.0 files) (graph_of_files setting listing sources headers h.0 files) g h.2

  pub answer_of : IsOfFiles setting listing sources headers h.0 h.1 g
  answer_of = subst (IsOfFiles setting listing sources headers h.0 h.1) answer_files (of_files setting listing sources headers h.0 h.1)

pub closure_by_walks : (setting : Setting) (listing : Listing) (sources : List Source) (headers : List ℕ) (g : Graph) → IsGraphAnswer setting listing sources headers (Ok g) → LeadsToOne g
    → (f : ℕ) → InClosure setting listing sources headers f ↔ IsWalkedTo g f
closure_by_walks setting listing sources headers g h one f =
    closure_walks setting listing sources headers h.0 h.1 g (answer_of setting listing sources headers g h)
    (ap (λ (x : Graph). x.sources) (answer_files setting listing sources headers g h)) one f

-- an edge of the graph leaves from a file of the closure
pub edge_in_closure : (setting : Setting) (listing : Listing) (sources : List Source) (headers : List ℕ) (g : Graph) → IsGraphAnswer setting listing sources headers (Ok g)
    → (k : ℕ) (e : Edge) → slice_get g.edges k ≡ Some e → InClosure setting listing sources headers e.from
edge_in_closure setting listing sources headers g h k e at =
    found_inside setting listing sources headers h.0 h.1 e.from ((answer_of setting listing sources headers g h).known k e at).1

-- and from one with a text
pub edge_in_text : (setting : Setting) (listing : Listing) (sources : List Source) (headers : List ℕ) (g : Graph) → IsGraphAnswer setting listing sources headers (Ok g)
    → (k : ℕ) (e : Edge) → slice_get g.edges k ≡ Some e → bytes_at listing e.from ≡ [] → ⊥
edge_in_text setting listing sources headers g h k e at none =
    let edge = (answer_of setting listing sources headers g h).known k e at in
    contains_none e (subst (λ es. Contains es e) (no_text_no_edges setting listing (h.0 e.from) e.from none) edge.0)
