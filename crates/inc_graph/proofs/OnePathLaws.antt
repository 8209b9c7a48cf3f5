-- What one include path has in a graph of several.
use Rattle.std.proofs.Common.{◌≡◌, ◌≢◌, ℕ, zero, suc, ◌<◌, ◌==◌, Bool, true, false, cond, ◌⊎◌, List, [], ◌∷◌, ◌++◌, Option, Some, Ok, length, get_or, map, inl, inr, refl, ap, sym, ◌∙◌, subst, arith, length-append}
use Rattle.std.specs.Prelude.{Contains, ◌↔◌, fold, slice_get}
use Rattle.std.specs.List.{All}
use Rattle.std.specs.List.Sorted.{IsStrictlyIncreasing}
use Rattle.std.specs.Option.{option_map_or}
use Rattle.std.proofs.lemmas.Bool.{and_from, and_parts, eq-eqb, eqb-true, false≢true, or_cases, or_left, or_right}
use Rattle.std.proofs.lemmas.List.{append-nil, append_assoc, get_or_append_left}
use Rattle.std.proofs.Math.Seq.{get_or-append_seam}
use Rattle.std.proofs.lemmas.List.Elements.{All-contains}
use Rattle.std.proofs.lemmas.List.Kept.{AllPairs-from_increasing}
use Rattle.inc_directive.specs.FileDirectives.{Directive}
use Rattle.inc_lookup.specs.declared.projects.Found.{Found}
use Rattle.inc_lookup.specs.Projects.{Listing}
use Rattle.inc_graph.specs.Chains.{is_walk, leaves, target}
use Rattle.inc_graph.specs.Cuts.{Fixed, IsSeparating, meets}
use Rattle.inc_graph.specs.IncludeGraph.{Edge, Graph, InClosure, IsFoundSo, IsGraphAnswer, IsReached, IsStep, IsTour, Lead, LeadsToOne, Nowhere, Several, Start, To, as_source, edges_from, found_by, found_so, graph_directives, inner_files, is_defined_in, leads, source_files, with_source}
use Rattle.inc_graph.specs.Members.{is_member}
use Rattle.inc_graph.specs.OnePath.{SeparatesIn, listing_alone, path_sources, setting_alone, sources_alone}
use Rattle.inc_graph.specs.Settings.{Setting, layouts_of}
use Rattle.inc_graph.specs.declared.building.Source.{Source}
use Rattle.inc_graph.specs.declared.graphs.Blocker.{Blocker}
use Rattle.inc_graph.specs.declared.graphs.BlockerKind.TheVariants as kind
use Rattle.inc_graph.proofs.ClosureWalks.{IsOfFiles, answer_files, answer_of, contains_some, directive_within, some_contains, start_found}
use Rattle.inc_graph.proofs.LeadLemmas.{blocker_there, contains_cases, contains_first, contains_later, contains_nothing, edge_at, edge_there}
use Rattle.inc_graph.proofs.LooplessWalks.{chain_of_walk}
use Rattle.inc_graph.proofs.SourceLemmas.{among_path_source, among_source, path_source_among, source_among}
use Rattle.inc_graph.proofs.Walks.{chain_parts, leaving_edge}

---- the sources of an include path

abbrev own_source : ℕ → Source
own_source f = record { file = f; path = 0 }

own_there : (fs : List ℕ) (f : ℕ) → Contains fs f → Contains (map own_source fs) (own_source f)
own_there [] f c = absurd (contains_nothing f c)
own_there (x ∷ xs) f c = elim (contains_cases x xs f c) [
  | inl is ↦ subst (λ (y : ℕ). Contains (own_source x ∷ map own_source xs) (own_source y)) is (contains_first (own_source x) (map own_source xs))
  | inr later ↦ contains_later (own_source x) (map own_source xs) (own_source f) (own_there xs f later)
]

own_from : (fs : List ℕ) (s : Source) → Contains (map own_source fs) s → (s.path ≡ 0) × Contains fs s.file
own_from [] s c = absurd (contains_nothing s c)
own_from (x ∷ xs) s c = elim (contains_cases (own_source x) (map own_source xs) s c) [
  | inl is ↦ (ap (λ (y : Source). y.path) (sym is), subst (λ (y : ℕ). Contains (x ∷ xs) y) (ap (λ (y : Source). y.file) is) (contains_first x xs))
  | inr later ↦ let rest = own_from xs s later in (rest.0, contains_later x xs s.file rest.1)
]

alone_there : (path f : ℕ) (sources : List Source) → Contains sources (record { file = f; path = path }) → Contains (sources_alone path sources) (own_source f)
alone_there path f sources c = own_there (path_sources path sources) f (path_source_among path f sources c)

alone_from : (path : ℕ) (sources : List Source) (s : Source) → Contains (sources_alone path sources) s → (s.path ≡ 0) × Contains sources (record { file = s.file; path = path })
alone_from path sources s c = let own = own_from (path_sources path sources) s c in (own.0, among_path_source path s.file sources own.1)

---- what is reached

-- files are looked for in the same places
alone_layout : (setting : Setting) (listing : Listing) (path : ℕ) → layouts_of (setting_alone setting) (listing_alone setting listing path) 0 ≡ layouts_of setting listing path
alone_layout setting listing path = refl

module _ (setting : Setting) (listing : Listing) (sources : List Source) (headers : List ℕ) (path : ℕ) where
  step_alone : (a b : Found) → IsStep setting listing headers path a b → IsStep (setting_alone setting) (listing_alone setting listing path) headers 0 a b
  step_alone a b step = record {
    directive = step.directive;
    there = step.there;
    leads = ap (λ l. found_by l a step.directive) (alone_layout setting listing path) ∙ step.leads;
    before = step.before;
  }

  step_back : (a b : Found) → IsStep (setting_alone setting) (listing_alone setting listing path) headers 0 a b → IsStep setting listing headers path a b
  step_back a b step = record {
    directive = step.directive;
    there = step.there;
    leads = ap (λ l. found_by l a step.directive) (sym (alone_layout setting listing path)) ∙ step.leads;
    before = step.before;
  }

  tour_alone : (tour : List Found) (a b : Found) → IsTour setting listing headers path a tour b → IsTour (setting_alone setting) (listing_alone setting listing path) headers 0 a tour b
  tour_alone [] a b at = at
  tour_alone (c ∷ cs) a b tour = (step_alone a c tour.0, tour_alone cs c b tour.1)

  tour_back : (tour : List Found) (a b : Found) → IsTour (setting_alone setting) (listing_alone setting listing path) headers 0 a tour b → IsTour setting listing headers path a tour b
  tour_back [] a b at = at
  tour_back (c ∷ cs) a b tour = (step_back a c tour.0, tour_back cs c b tour.1)

  pub reached_alone : (at : Found) → IsReached setting listing sources headers path at ↔ IsReached (setting_alone setting) (listing_alone setting listing path) (sources_alone path sources) headers 0 at
  reached_alone at = (
    λ r. record { source = r.source; among = alone_there path r.source sources r.among; tour = r.tour; real = tour_alone r.tour (as_source r.source) at r.real },
    λ r. record { source = r.source; among = (alone_from path sources (own_source r.source) r.among).1; tour = r.tour; real = tour_back r.tour (as_source r.source) at r.real },
  )

  -- alone files are found in the own include path
  own_path : (file : ℕ) (start : Start) → IsFoundSo (setting_alone setting) (listing_alone setting listing path) (sources_alone path sources) headers file start → start.path ≡ 0
  own_path file start r = (alone_from path sources (record { file = r.source; path = start.path }) r.among).0

  -- a way in which a file is found alone is one of the union
  found_back : (file : ℕ) (start : Start) → IsFoundSo (setting_alone setting) (listing_alone setting listing path) (sources_alone path sources) headers file start
      → IsReached setting listing sources headers path (found_so file start)
  found_back file start r =
      (reached_alone (found_so file start)).1
      (subst (λ (p : ℕ). IsReached (setting_alone setting) (listing_alone setting listing path) (sources_alone path sources) headers p (found_so file start)) (own_path file start r) r)

pub closure_alone : (setting : Setting) (listing : Listing) (sources : List Source) (headers : List ℕ) (file : ℕ)
    → InClosure setting listing sources headers file ↔ ((path : ℕ) × InClosure (setting_alone setting) (listing_alone setting listing path) (sources_alone path sources) headers file)
closure_alone setting listing sources headers file = (
  λ c. (c.start.path, record { start = record { path = 0; next = c.start.next }; reached = (reached_alone setting listing sources headers c.start.path (found_so file c.start)).0 c.reached }),
  λ w. record { start = record { path = w.0; next = w.1.start.next }; reached = found_back setting listing sources headers w.0 file w.1.start w.1.reached },
)

---- edges and cuts

module _ (setting : Setting) (listing : Listing) (sources : List Source) (headers : List ℕ) (path : ℕ) (whole part : Graph) (h : IsGraphAnswer setting listing sources headers (Ok whole))
    (k : IsGraphAnswer (setting_alone setting) (listing_alone setting listing path) (sources_alone path sources) headers (Ok part)) where
  of_whole : IsOfFiles setting listing sources headers h.0 h.1 whole
  of_whole = answer_of setting listing sources headers whole h

  of_part : IsOfFiles (setting_alone setting) (listing_alone setting listing path) (sources_alone path sources) headers k.0 k.1 part
  of_part = answer_of (setting_alone setting) (listing_alone setting listing path) (sources_alone path sources) headers part k

  nowhere_apart : Nowhere ≡ Several → ⊥
  nowhere_apart e = cc

  to_apart : (f : ℕ) → To f ≡ Several → ⊥
  to_apart f e = cc

  as_edge : (e : Edge) (d : Directive) → Contains (graph_directives setting listing e.from) d → d.line ≡ e.line → (start : Start) (found : Found) → found.file ≡ e.to → Contains (h.0 e.from) start
      → found_by (layouts_of setting listing start.path) (found_so e.from start) d ≡ Some found → is_member e.from headers ≡ false → leads (layouts_of setting listing) (h.0 e.from) e.from d ≢ Several
      → Contains whole.edges e ⊎ Contains whole.blockers (record { file = e.from; line = e.line; kind = kind.Several })
  as_edge e d there line start found to way finds before one =
      let edge = edge_there setting listing (h.0 e.from) e.from d start found way there finds one in
      let same : record { from = e.from; to = found.file; line = d.line } ≡ e = ap (λ (n : ℕ). record { from = e.from; to = n; line = d.line }) to ∙ ap (λ (n : ℕ). record { from = e.from; to = e.to; line = n }) line in
      let numbered = of_whole.numbered e (subst (λ (x : Edge). Contains (edges_from setting listing (h.0 e.from) e.from) x) same edge) (start_found (h.0 e.from) start way) before in
      inl (contains_some whole.edges numbered.0 e numbered.1)

  pub edge_in_whole : (e : Edge) → Contains part.edges e → Contains whole.edges e ⊎ Contains whole.blockers (record { file = e.from; line = e.line; kind = kind.Several })
  edge_in_whole e c =
      let at = some_contains part.edges e c in
      let known = of_part.known at.0 e at.1 in
      let d = edge_at (setting_alone setting) (listing_alone setting listing path) (k.0 e.from) e.from e known.0 in
      let s : Start = d.3.0 in
      let found = (k.1 e.from s).0 d.3.1 in
      let same = own_path setting listing sources headers path e.from s found in
      let start : Start = record { path = path; next = s.next } in
      let way : Contains (h.0 e.from) start = (h.1 e.from start).1 (found_back setting listing sources headers path e.from s found) in
      let finds : found_by (layouts_of setting listing path) (found_so e.from s) d.0 ≡ Some (record { file = e.to; next = d.3.2.0 }) =
      ap (λ l. found_by l (found_so e.from s) d.0) (sym (alone_layout setting listing path))
      ∙ ap (λ (p : ℕ). found_by (layouts_of (setting_alone setting) (listing_alone setting listing path) p) (found_so e.from s) d.0) (sym same)
      ∙ d.3.2.1 in
      by_lead e d.0 d.1 d.2 start (record { file = e.to; next = d.3.2.0 }) refl way finds known.2 (leads (layouts_of setting listing) (h.0 e.from) e.from d.0) refl
    where
      by_lead : (e : Edge) (d : Directive) → Contains (graph_directives setting listing e.from) d → d.line ≡ e.line → (start : Start) (found : Found) → found.file ≡ e.to → Contains (h.0 e.from) start
          → found_by (layouts_of setting listing start.path) (found_so e.from start) d ≡ Some found → is_member e.from headers ≡ false → (lead : Lead) → leads (layouts_of setting listing) (h.0 e.from) e.from d ≡ lead
          → Contains whole.edges e ⊎ Contains whole.blockers (record { file = e.from; line = e.line; kind = kind.Several })
      by_lead e d there line start found to way finds before Several is =
          let stop : Blocker = record { file = e.from; line = d.line; kind = kind.Several } in
          let stops = of_whole.stopped stop (blocker_there setting listing (is_defined_in setting listing (inner_files listing h.0 headers)) (h.0 e.from) e.from d start found there finds is)
          (directive_within setting listing e.from d there) (start_found (h.0 e.from) start way) before in
          inr (subst (λ (n : ℕ). Contains whole.blockers (record { file = e.from; line = n; kind = kind.Several })) line stops)
      by_lead e d there line start found to way finds before Nowhere is = as_edge e d there line start found to way finds before (λ several. nowhere_apart (sym is ∙ several))
      by_lead e d there line start found to way finds before (To f) is = as_edge e d there line start found to way finds before (λ several. to_apart f (sym is ∙ several))

  -- so where no directive leads to several files it is an edge of the union
  pub edge_of_whole : LeadsToOne whole → (e : Edge) → Contains part.edges e → Contains whole.edges e
  edge_of_whole one e c = elim (edge_in_whole e c) [
    | inl edge ↦ edge
    | inr stop ↦ absurd (All-contains (λ (b : Blocker). b.kind ≢ kind.Several) whole.blockers (record { file = e.from; line = e.line; kind = kind.Several }) one stop refl)
  ]

  -- an edge of one walk is one of the other
  abbrev IsMatched : (w v : List ℕ) → Type 0
  IsMatched w v = (j : ℕ) → is_member j v ≡ true → (e : Edge) × ((i : ℕ) × (is_member i w ≡ true) × (slice_get part.edges i ≡ Some e)) × (slice_get whole.edges j ≡ Some e)

  matched_more : (i j : ℕ) (e : Edge) (is v : List ℕ) → slice_get part.edges i ≡ Some e → slice_get whole.edges j ≡ Some e → IsMatched is v → IsMatched (i ∷ is) (j ∷ v)
  matched_more i j e is v here there rest n m = elim (or_cases (j == n) (is_member n v) m) [
    | inl same ↦ (e, (i, or_left (i == i) (is_member i is) (eq-eqb i i refl), here), ap (slice_get whole.edges) (sym (eqb-true j n same)) ∙ there)
    | inr later ↦ let r = rest n later in (r.0, (r.1.0, or_right (i == r.1.0) (is_member r.1.0 is) r.1.1, r.1.2), r.2)
  ]

  -- so a walk is one of the union
  walk_of_whole : LeadsToOne whole → (w : List ℕ) (a b : ℕ) → is_walk part a w b ≡ true → (v : List ℕ) × (is_walk whole a v b ≡ true) × IsMatched w v
  walk_of_whole one [] a b walk = ([], walk, λ j m. absurd (false≢true m))
  walk_of_whole one (i ∷ is) a b walk =
      let steps = and_parts (leaves part a i) (is_walk part (target part i) is b) walk in
      let e = leaving_edge part a i _ refl steps.0 in
      let j = some_contains whole.edges e.0 (edge_of_whole one e.0 (contains_some part.edges i e.0 e.1)) in
      let to : target part i ≡ target whole j.0 = ap (λ (o : Option Edge). option_map_or (λ (x : Edge). x.to) o 0) (e.1 ∙ sym j.1) in
      let leaving : leaves whole a j.0 ≡ true = ap (λ (o : Option Edge). option_map_or (λ (x : Edge). x.from == a) o false) (j.1 ∙ sym e.1) ∙ steps.0 in
      let rest = walk_of_whole one is (target part i) b steps.1 in (
        j.0 ∷ rest.0,
        and_from (leaves whole a j.0) (is_walk whole (target whole j.0) rest.0 b) leaving (ap (λ (f : ℕ). is_walk whole f rest.0 b) (sym to) ∙ rest.1),
        matched_more i j.0 e.0 is rest.0 e.1 j.1 rest.2,
      )

  -- its sources are some of those of the union
  source_of_whole : (s : ℕ) → is_member s part.sources ≡ true → is_member s whole.sources ≡ true
  source_of_whole s m =
      let own : is_member s (source_files (sources_alone path sources)) ≡ true =
      ap (is_member s) (ap (λ (g : Graph). g.sources) (answer_files (setting_alone setting) (listing_alone setting listing path) (sources_alone path sources) headers part k)) ∙ m in
      let from = among_source (sources_alone path sources) s own in
      ap (is_member s) (sym (ap (λ (g : Graph). g.sources) (answer_files setting listing sources headers whole h)))
      ∙ source_among sources s path (alone_from path sources (record { file = s; path = from.0 }) from.1).1

  -- and its headers are the same
  same_headers : part.headers ≡ whole.headers
  same_headers =
      sym (ap (λ (g : Graph). g.headers) (answer_files (setting_alone setting) (listing_alone setting listing path) (sources_alone path sources) headers part k))
      ∙ ap (λ (g : Graph). g.headers) (answer_files setting listing sources headers whole h)

  any_member : (xs set : List ℕ) → meets xs set ≡ true → (j : ℕ) × (is_member j xs ≡ true) × (is_member j set ≡ true)
  any_member [] set m = absurd (false≢true m)
  any_member (x ∷ xs) set m = elim (or_cases (is_member x set) (meets xs set) m) [
    | inl here ↦ (x, or_left (x == x) (is_member x xs) (eq-eqb x x refl), here)
    | inr later ↦ let r = any_member xs set later in (r.0, or_right (x == r.0) (is_member r.0 xs) r.1, r.2)
  ]

  pub cut_of_whole : LeadsToOne whole → (fixed : Fixed) (set : List ℕ) → IsSeparating whole fixed set → SeparatesIn whole set part
  cut_of_whole one fixed set separates chain real =
      let c = chain_parts part chain real in
      let w = walk_of_whole one chain c.source c.header c.walk in
      let found = chain_of_walk whole c.source c.header w.0 (source_of_whole c.source c.begins) (ap (is_member c.header) (sym same_headers) ∙ c.ends) w.1 in
      let both = any_member found.0 set (separates.met found.0 found.1) in
      let m = w.2 both.0 (found.2 both.0 both.1) in
      (m.0, m.1, (both.0, both.2, m.2))

---- where there is one include path

pub only_path : (setting : Setting) (listing : Listing) (sources : List Source) (headers : List ℕ) → All (λ (s : Source). s.path ≡ 0) sources → (path : ℕ) (at : Found) → IsReached setting listing sources headers path at → path ≡ 0
only_path setting listing sources headers all path at r = All-contains (λ (s : Source). s.path ≡ 0) sources (record { file = r.source; path = path }) all r.among

-- a member has a place
member_place : (xs : List ℕ) (f : ℕ) → is_member f xs ≡ true → (k : ℕ) × (k < length xs) × (get_or xs k f ≡ f)
member_place [] f m = absurd (false≢true m)
member_place (x ∷ xs) f m = elim (or_cases (x == f) (is_member f xs) m) [
  | inl here ↦ (0, omega arith, eqb-true x f here)
  | inr later ↦ let r = member_place xs f later in (suc r.0, omega (arith, r.1), r.2)
]

not_before : (fs rest : List ℕ) (f : ℕ) → IsStrictlyIncreasing (fs ++ f ∷ rest) → is_member f fs ≡ false
not_before fs rest f up = by_test (is_member f fs) refl
  where
    by_test : (b : Bool) → is_member f fs ≡ b → is_member f fs ≡ false
    by_test false e = e
    by_test true e =
        let at = member_place fs f e in
        let long = length-append fs (f ∷ rest) in
        let less = AllPairs-from_increasing (fs ++ f ∷ rest) up at.0 (length fs) f at.1 (omega arith) in
        let here : get_or (fs ++ f ∷ rest) at.0 f ≡ f = get_or_append_left fs (f ∷ rest) f at.0 at.1 ∙ at.2 in
        let there : get_or (fs ++ f ∷ rest) (length fs) f ≡ f = get_or-append_seam fs f rest f in
        absurd (omega (arith, less, here, there))

once : (fs rest : List ℕ) → IsStrictlyIncreasing (fs ++ rest) → fold with_source fs (map own_source rest) ≡ fs ++ rest
once fs [] up = sym (append-nil fs)
once fs (f ∷ rest) up =
    let next : (fs ++ f ∷ []) ++ rest ≡ fs ++ f ∷ rest = append_assoc fs (f ∷ []) rest in
    ap (λ (l : List ℕ). fold with_source l (map own_source rest)) (ap (λ (b : Bool). cond b fs (fs ++ f ∷ [])) (not_before fs rest f up))
    ∙ once (fs ++ f ∷ []) rest (subst IsStrictlyIncreasing (sym next) up)
    ∙ next

pub own_files : (files : List ℕ) → IsStrictlyIncreasing files → source_files (map own_source files) ≡ files
own_files files up = once [] files up
