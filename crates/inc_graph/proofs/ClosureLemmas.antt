-- The search of one include path for the files of the closure: what is known on its way, and what it has found at its end.
use Rattle.std.proofs.Common.{◌≡◌, ◌≢◌, ℕ, zero, suc, ◌+◌, ◌<◌, ◌≤◌, ◌==◌, Bool, true, false, cond, not, ◌&&◌, ◌⊎◌, List, [], ◌∷◌, ◌++◌, Option, Some, None, Result, Ok, Err, length, get_or, set, replicate, refl, ap, sym, subst, ◌∙◌, inl, inr, arith, get_or-set_same, get_or-set_other, length-set}
use Rattle.std.specs.List.{All}
use Rattle.std.specs.Prelude.{slice_get, is_some, Contains, map}
use Rattle.std.proofs.lemmas.Bool.{cases_eq, cases_lt, false≢true, eq-eqb, eqb-true, ne_eqb}
use Rattle.std.proofs.lemmas.List.{append-nil, length-replicate, get_or-replicate, get_or_past}
use Rattle.std.proofs.lemmas.List.Elements.{All-contains, Contains-append_cases, Contains-append_left}
use Rattle.std.proofs.lemmas.List.FromFn.{fill_by_all}
use Rattle.std.proofs.lemmas.Option.{none-some, same_Some, slice_get_within, slice_get-get_or, get_or_from_slice_get}
use Rattle.inc_graph.specs.Members.{is_member}
use Rattle.inc_graph.specs.Settings.{Setting, layouts_of}
use Rattle.inc_directive.specs.FileDirectives.{Directive}
use Rattle.inc_directive.specs.declared.files.FileFault.{FileFault}
use Rattle.inc_lookup.specs.declared.projects.Found.{Found}
use Rattle.inc_text.specs.PhaseText.{phase_text}
use Rattle.inc_lookup.specs.Projects.{Layout, Listing, bytes_at}
use Rattle.inc_graph.specs.FileEntries.{Entry}
use Rattle.inc_graph.specs.IncludeGraph.{Start, found_so, read_directives, text_definitions, found_by, IsStep, IsTour, as_source, IsReached, IsFoundSo, InClosure, is_found}
use Rattle.inc_graph.specs.Entries.{directives_found, file_entries}
use Rattle.inc_graph.specs.ClosureSearch.{state_of, AreStates, file_directs, AreSeveral, AreDirects, AreSearched}
use Rattle.inc_graph.specs.GraphLists.{State}
use Rattle.inc_graph.specs.Nexts.{Direct, Next, directs_found, nexts_among, nexts_of, nexts_found, with_directs, with_nexts}
use Rattle.inc_graph.specs.OnePath.{path_sources}
use Rattle.inc_graph.specs.Places.{Reaches}
use Rattle.inc_graph.specs.declared.building.Source.{Source}
use Rattle.inc_graph.proofs.FurtherLemmas.{directs_find, entries_further, nexts_are_among}
use Rattle.inc_graph.proofs.LeadLemmas.{contains_first, contains_later, contains_cases, contains_nothing, contains_kept, contains_from}
use Rattle.inc_graph.proofs.NextLemmas.{entries_more, nexts_find, nexts_within, next_or_same}
use Rattle.inc_graph.proofs.SourceLemmas.{among_path_source, path_source_among}

---- steps

tour_push : (setting : Setting) (listing : Listing) (headers : List ℕ) (path : ℕ) (a b c : Found) (tour : List Found) → IsTour setting listing headers path a tour b → IsStep setting listing headers path b c
    → IsTour setting listing headers path a (tour ++ c ∷ []) c
tour_push setting listing headers path a b c [] at step = (subst (λ (x : Found). IsStep setting listing headers path x c) (sym at) step, refl)
tour_push setting listing headers path a b c (x ∷ xs) tour step = (tour.0, tour_push setting listing headers path x b c xs tour.1 step)

-- a step from what is reached leads to what is reached
pub reached_push : (setting : Setting) (listing : Listing) (sources : List Source) (headers : List ℕ) (path : ℕ) (a b : Found) → IsReached setting listing sources headers path a → IsStep setting listing headers path a b
    → IsReached setting listing sources headers path b
reached_push setting listing sources headers path a b r step = record {
  source = r.source;
  among = r.among;
  tour = r.tour ++ b ∷ [];
  real = tour_push setting listing headers path (as_source r.source) a b r.tour r.real step;
}

pub source_reached : (setting : Setting) (listing : Listing) (sources : List Source) (headers : List ℕ) (path f : ℕ) → Contains sources (record { file = f; path = path }) → IsReached setting listing sources headers path (as_source f)
source_reached setting listing sources headers path f is = record { source = f; among = is; tour = []; real = refl }

---- what a reading finds

-- what the directives find is what steps lead to
found_step : (setting : Setting) (listing : Listing) (headers : List ℕ) (path : ℕ) (at b : Found) → is_member at.file headers ≡ false
    → Contains (directives_found (layouts_of setting listing path) at (read_directives setting listing at.file)) b → IsStep setting listing headers path at b
found_step setting listing headers path at b other c =
    let d = by_result (read_directives setting listing at.file) c in
    record { directive = d.0; there = d.1; leads = d.2; before = other }
  where
    by_result : (r : Result (List Directive) FileFault) → Contains (directives_found (layouts_of setting listing path) at r) b
        → (d : Directive) × Contains (elim r [ Ok directives ↦ directives | Err fault ↦ [] ]) d × (found_by (layouts_of setting listing path) at d ≡ Some b)
    by_result (Ok ds) c = contains_from (found_by (layouts_of setting listing path) at) ds b c
    by_result (Err fault) c = absurd (contains_nothing b c)

step_found : (setting : Setting) (listing : Listing) (headers : List ℕ) (path : ℕ) (at b : Found) → IsStep setting listing headers path at b
    → Contains (directives_found (layouts_of setting listing path) at (read_directives setting listing at.file)) b
step_found setting listing headers path at b step = by_result (read_directives setting listing at.file) step.there
  where
    by_result : (r : Result (List Directive) FileFault) → Contains (elim r [ Ok directives ↦ directives | Err fault ↦ [] ]) step.directive
        → Contains (directives_found (layouts_of setting listing path) at r) b
    by_result (Ok ds) c = contains_kept (found_by (layouts_of setting listing path) at) ds step.directive b c step.leads
    by_result (Err fault) c = absurd (contains_nothing step.directive c)

---- places that are reached

pub reaches_old : (old tried new : List Found) → Reaches old tried new → (at : Found) → Contains old at → Contains new at
reaches_old old tried new r at c = subst (λ l. Contains l at) (sym r.grown) (Contains-append_left old r.more at c)

pub reaches_cases : (old tried new : List Found) → Reaches old tried new → (at : Found) → Contains new at → Contains old at ⊎ Contains tried at
reaches_cases old tried new r at c =
    elim (Contains-append_cases old r.more at (subst (λ l. Contains l at) r.grown c)) [
      | inl old_one ↦ inl old_one
      | inr new_one ↦ inr (r.from at new_one)
    ]

get_left : (xs ys : List Found) (k : ℕ) (x : Found) → slice_get xs k ≡ Some x → slice_get (xs ++ ys) k ≡ Some x
get_left [] ys k x e = absurd (none-some x e)
get_left (z ∷ xs) ys zero x e = e
get_left (z ∷ xs) ys (suc k) x e = get_left xs ys k x e

get_back : (xs ys : List Found) (k : ℕ) (x : Found) → k < length xs → slice_get (xs ++ ys) k ≡ Some x → slice_get xs k ≡ Some x
get_back [] ys k x low e = absurd (omega arith)
get_back (z ∷ xs) ys zero x low e = e
get_back (z ∷ xs) ys (suc k) x low e = get_back xs ys k x (omega arith) e

some_contained : (xs : List Found) (k : ℕ) (x : Found) → slice_get xs k ≡ Some x → Contains xs x
some_contained xs k x e = (k, slice_get_within xs k x e, get_or_from_slice_get xs k x x e)

contained_some : (xs : List Found) (x : Found) → Contains xs x → (k : ℕ) × (slice_get xs k ≡ Some x)
contained_some xs x c = (c.0, slice_get-get_or xs c.0 x c.1 ∙ ap Some c.2)

-- what sources are found as
mapped_from : (ss : List ℕ) (at : Found) → Contains (map as_source ss) at → (s : ℕ) × Contains ss s × (as_source s ≡ at)
mapped_from [] at c = absurd (contains_nothing at c)
mapped_from (s ∷ ss) at c = elim (contains_cases (as_source s) (map as_source ss) at c) [
  | inl is ↦ (s, contains_first s ss, is)
  | inr later ↦ let rest = mapped_from ss at later in (rest.0, contains_later s ss rest.0 rest.1, rest.2)
]

mapped_there : (ss : List ℕ) (s : ℕ) → Contains ss s → Contains (map as_source ss) (as_source s)
mapped_there [] s c = absurd (contains_nothing s c)
mapped_there (x ∷ xs) s c = elim (contains_cases x xs s c) [
  | inl is ↦ subst (λ (y : ℕ). Contains (as_source x ∷ map as_source xs) (as_source y)) is (contains_first (as_source x) (map as_source xs))
  | inr later ↦ contains_later (as_source x) (map as_source xs) (as_source s) (mapped_there xs s later)
]

---- the search

-- what is kept of the #include_next directives of a file in an include path
abbrev pub file_nexts : Setting → Listing → (path : ℕ) → ℕ → List Next
file_nexts setting listing path f = nexts_of (layouts_of setting listing path) f (read_directives setting listing f)

-- how a file is found in an include path
abbrev pub start_at : (path : ℕ) → Found → Start
start_at path at = record { path = path; next = at.next }

-- the ways in which files are found, with one more
abbrev pub one_more : (path : ℕ) → Found → (ℕ → List Start) → ℕ → List Start
one_more path at starts f = cond (f == at.file) (start_at path at ∷ starts f) (starts f)

-- a file is found so in an include path before this one
abbrev pub IsEarlier : Setting → Listing → (sources : List Source) → (headers : List ℕ) → (path : ℕ) → (file : ℕ) → Start → Type 0
IsEarlier setting listing sources headers path file start = (start.path < path) × IsFoundSo setting listing sources headers file start

-- it was taken so from the queue of this one
abbrev pub IsTakenSo : (path : ℕ) → (places : List Found) → (taken : ℕ) → (file : ℕ) → Start → Type 0
IsTakenSo path places taken file start = (start.path ≡ path) × ((k : ℕ) × (k < taken) × (slice_get places k ≡ Some (found_so file start)))

-- the include paths before this one are searched, and so many places of its queue are done; in them all files are found in these ways, and
-- nothing is read but them
pub record IsClosureSearch (setting : Setting) (listing : Listing) (sources : List Source) (headers : List ℕ) (path : ℕ) (places : List Found) (states : List State) (directs : List (List Direct)) (nexts : List (Option (List Next))) (taken : ℕ) (starts : ℕ → List Start) : Type 0 where
  -- each place is reached
  pub reached : (at : Found) → Contains places at → IsReached setting listing sources headers path at
  -- the sources are among them
  pub begun : (f : ℕ) → Contains sources (record { file = f; path = path }) → Contains places (as_source f)
  -- each step from a place that was taken leads to one of them
  pub closed : (k : ℕ) (at b : Found) → k < taken → slice_get places k ≡ Some at → IsStep setting listing headers path at b → Contains places b
  -- what was taken is a way in which its file is found
  pub found : (k : ℕ) (at : Found) → k < taken → slice_get places k ≡ Some at → Contains (starts at.file) (start_at path at)
  -- and so is each way of the include paths before
  pub earlier : (f : ℕ) (start : Start) → start.path < path → IsFoundSo setting listing sources headers f start → Contains (starts f) start
  -- there are no others
  pub real : (f : ℕ) (start : Start) → Contains (starts f) start → IsEarlier setting listing sources headers path f start ⊎ IsTakenSo path places taken f start
  -- something is known of each file
  pub wide : length states ≡ length listing.files
  -- namely what it is in these ways
  pub known : (f : ℕ) → get_or states f None ≡ state_of setting listing starts headers f
  -- where there are several include paths, its direct include directives are kept
  pub held : AreSeveral setting → AreDirects setting listing headers starts directs
  -- its #include_next directives are kept, if it was taken
  pub long : length nexts ≡ length listing.files
  pub own : (f : ℕ) (next : Option ℕ) → Contains (starts f) (record { path = path; next = next }) → is_member f headers ≡ false → get_or nexts f None ≡ Some (file_nexts setting listing path f)
  -- and of no other file
  pub only : (f : ℕ) (l : List Next) → get_or nexts f None ≡ Some l → (next : Option ℕ) × Contains (starts f) (record { path = path; next = next })

-- before the first place
pub search_from : (setting : Setting) (listing : Listing) (sources : List Source) (headers : List ℕ) (path : ℕ) (m : ℕ) (places : List Found) (states : List State) (directs : List (List Direct)) (nexts : List (Option (List Next))) (starts : ℕ → List Start)
    → AreSearched setting listing sources headers path starts states directs → m ≡ length listing.files
    → Reaches [] (map as_source (path_sources path sources)) places → nexts ≡ replicate m None → IsClosureSearch setting listing sources headers path places states directs nexts 0 starts
search_from setting listing sources headers path m places states directs nexts starts s m_is r f =
    let no_nexts : Option (List Next) = None in
    record {
      reached = λ at c. elim (reaches_cases [] (map as_source (path_sources path sources)) places r at c) [
        | inl none ↦ absurd (contains_nothing at none)
        | inr tried ↦
            let x = mapped_from (path_sources path sources) at tried in
            subst (IsReached setting listing sources headers path) x.2 (source_reached setting listing sources headers path x.0 (among_path_source path x.0 sources x.1))
      ];
      begun = λ g is. r.there (as_source g) (mapped_there (path_sources path sources) g (path_source_among path g sources is));
      closed = λ k at b low. absurd (omega arith);
      found = λ k at low. absurd (omega arith);
      earlier = λ g start low found. (s.ways g start).1 (low, found);
      real = λ g start c. inl ((s.ways g start).0 c);
      wide = s.wide;
      known = s.known;
      held = s.held;
      long = ap (λ (l : List (Option (List Next))). length l) f ∙ length-replicate {A = Option (List Next)} m None ∙ m_is;
      own = λ g next c other. let low = ((s.ways g (record { path = path; next = next })).0 c).0 in absurd (omega arith);
      only = λ g l e. absurd (none-some l (sym (none_there g) ∙ e));
    }
  where
    none_there : (g : ℕ) → get_or nexts g None ≡ None
    none_there g =
        let none : Option (List Next) = None in
        ap (λ (l : List (Option (List Next))). get_or l g None) f ∙ elim (cases_lt g m) [
          | inl low ↦ get_or-replicate m g none none low
          | inr high ↦ get_or_past (replicate m none) g none (omega (arith, high, length-replicate {A = Option (List Next)} m None))
        ]

-- a file that is found in one way is found
pub found_some : (starts : List Start) (start : Start) → Contains starts start → is_found starts ≡ true
found_some [] start c = absurd (contains_nothing start c)
found_some (x ∷ xs) start c = refl

module _ (setting : Setting) (listing : Listing) (sources : List Source) (headers : List ℕ) (path : ℕ) (places : List Found) (states : List State) (directs : List (List Direct)) (nexts : List (Option (List Next))) (taken : ℕ) (starts : ℕ → List Start)
    (s : IsClosureSearch setting listing sources headers path places states directs nexts taken starts) where
  -- each way is real
  real_so : (f : ℕ) (start : Start) → Contains (starts f) start → IsFoundSo setting listing sources headers f start
  real_so f start c = elim (s.real f start c) [
    | inl before ↦ before.1
    | inr now ↦ subst (λ (p : ℕ). IsReached setting listing sources headers p (found_so f start)) (sym now.0) (s.reached (found_so f start) (some_contained places now.1.0 (found_so f start) now.1.2))
  ]

  -- so a file that was found is in the closure
  pub found_in_closure : (f : ℕ) → is_found (starts f) ≡ true → InClosure setting listing sources headers f
  found_in_closure f found = by_starts (starts f) refl found
    where
      by_starts : (l : List Start) → starts f ≡ l → is_found l ≡ true → InClosure setting listing sources headers f
      by_starts [] e is = absurd (false≢true is)
      by_starts (n ∷ ns) e is = record { start = n; reached = real_so f n (subst (λ (l : List Start). Contains l n) (sym e) (contains_first n ns)) }

  -- and so is a place of the queue
  pub in_closure : (at : Found) → Contains places at → InClosure setting listing sources headers at.file
  in_closure at c = record { start = start_at path at; reached = s.reached at c }

  module _ (at : Found) (here : slice_get places taken ≡ Some at) where
    at_reached : IsReached setting listing sources headers path at
    at_reached = s.reached at (some_contained places taken at here)

    -- one more place is taken
    taken_cases : (new : List Found) (k : ℕ) (b : Found) → (more : List Found) → new ≡ places ++ more → k < taken + 1 → slice_get new k ≡ Some b
        → ((k < taken) × (slice_get places k ≡ Some b)) ⊎ (at ≡ b)
    taken_cases new k b more grown low is =
        let was : slice_get (places ++ more) k ≡ Some b = ap (λ (l : List Found). slice_get l k) (sym grown) ∙ is in
        let room : taken < length places = slice_get_within places taken at here in
        elim (cases_lt k taken) [
          | inl less ↦ inl (less, get_back places more k b (omega arith) was)
          | inr not_less ↦
              let last : k ≡ taken = omega arith in
              inr (same_Some at b (sym here ∙ ap (λ (j : ℕ). slice_get places j) (sym last) ∙ get_back places more k b (omega arith) was))
        ]

    more_here : (g : ℕ) (start : Start) → Contains (starts g) start → Contains (one_more path at starts g) start
    more_here g start c = put (g == at.file) where
      put : (b : Bool) → Contains (cond b (start_at path at ∷ starts g) (starts g)) start
      put true = contains_later (start_at path at) (starts g) start c
      put false = c

    new_here : Contains (one_more path at starts at.file) (start_at path at)
    new_here =
        subst (λ (b : Bool). Contains (cond b (start_at path at ∷ starts at.file) (starts at.file)) (start_at path at)) (sym (eq-eqb at.file at.file refl))
        (contains_first (start_at path at) (starts at.file))

    other_starts : (g : ℕ) → g ≢ at.file → one_more path at starts g ≡ starts g
    other_starts g differ = ap (λ (b : Bool). cond b (start_at path at ∷ starts g) (starts g)) (ne_eqb g at.file differ)

    starts_here : one_more path at starts at.file ≡ start_at path at ∷ starts at.file
    starts_here = ap (λ (b : Bool). cond b (start_at path at ∷ starts at.file) (starts at.file)) (eq-eqb at.file at.file refl)

    found_more : (new : List Found) (more : List Found) → new ≡ places ++ more → (k : ℕ) (b : Found) → k < taken + 1 → slice_get new k ≡ Some b → Contains (one_more path at starts b.file) (start_at path b)
    found_more new more grown k b low is = elim (taken_cases new k b more grown low is) [
      | inl old ↦ more_here b.file (start_at path b) (s.found k b old.0 old.1)
      | inr same ↦ subst (λ (x : Found). Contains (one_more path at starts x.file) (start_at path x)) same new_here
    ]

    real_more : (new : List Found) (more : List Found) → new ≡ places ++ more → (g : ℕ) (start : Start) → Contains (one_more path at starts g) start
        → IsEarlier setting listing sources headers path g start ⊎ IsTakenSo path new (taken + 1) g start
    real_more new more grown g start c = by_file (g == at.file) refl c where
      old : Contains (starts g) start → IsEarlier setting listing sources headers path g start ⊎ IsTakenSo path new (taken + 1) g start
      old d = elim (s.real g start d) [
        | inl before ↦ inl before
        | inr now ↦ inr (now.0, (now.1.0, omega (arith, now.1.1), ap (λ (l : List Found). slice_get l now.1.0) grown ∙ get_left places more now.1.0 (found_so g start) now.1.2))
      ]

      by_file : (b : Bool) → (g == at.file) ≡ b → Contains (cond b (start_at path at ∷ starts g) (starts g)) start → IsEarlier setting listing sources headers path g start ⊎ IsTakenSo path new (taken + 1) g start
      by_file false e d = old d
      by_file true e d = elim (contains_cases (start_at path at) (starts g) start d) [
        | inl is ↦ inr (
          sym (ap (λ (x : Start). x.path) is),
          (
            taken,
            omega arith,
            ap (λ (l : List Found). slice_get l taken) grown ∙ get_left places more taken at here
                ∙ ap (λ (x : Start). Some (record { file = at.file; next = x.next })) is ∙ ap (λ (f : ℕ). Some (record { file = f; next = start.next })) (sym (eqb-true g at.file e)),
          ),
        )
        | inr later ↦ old later
      ]

    -- the states of the other files are those of before
    other_state : (g : ℕ) → g ≢ at.file → state_of setting listing (one_more path at starts) headers g ≡ state_of setting listing starts headers g
    other_state g other = ap (λ (l : List Start). cond (is_found l && not (is_member g headers)) (Some (file_entries setting listing l g)) None) (other_starts g other)

    state_here : is_member at.file headers ≡ false → state_of setting listing (one_more path at starts) headers at.file ≡ Some (file_entries setting listing (start_at path at ∷ starts at.file) at.file)
    state_here other =
        ap (λ (l : List Start). cond (is_found l && not (is_member at.file headers)) (Some (file_entries setting listing l at.file)) None) starts_here
        ∙ ap (λ (b : Bool). cond (true && not b) (Some (file_entries setting listing (start_at path at ∷ starts at.file) at.file)) None) other

    header_state : (l : List Start) → is_member at.file headers ≡ true → cond (is_found l && not (is_member at.file headers)) (Some (file_entries setting listing l at.file)) None ≡ None
    header_state [] is = refl
    header_state (n ∷ ns) is = ap (λ (b : Bool). cond (true && not b) (Some (file_entries setting listing (n ∷ ns) at.file)) None) is

    -- a header is passed over
    pub search_past : is_member at.file headers ≡ true → IsClosureSearch setting listing sources headers path places states directs nexts (taken + 1) (one_more path at starts)
    search_past is = record {
      reached = s.reached;
      begun = s.begun;
      closed = λ k b c low there step. elim (taken_cases places k b [] (sym (append-nil places)) low there) [
        | inl old ↦ s.closed k b c old.0 old.1 step
        | inr same ↦ absurd (false≢true (sym step.before ∙ ap (λ (x : Found). is_member x.file headers) (sym same) ∙ is))
      ];
      found = found_more places [] (sym (append-nil places));
      earlier = λ g start low found. more_here g start (s.earlier g start low found);
      real = real_more places [] (sym (append-nil places));
      wide = s.wide;
      known = λ g. elim (cases_eq g at.file) [
        | inl same ↦ subst (λ (f : ℕ). get_or states f None ≡ state_of setting listing (one_more path at starts) headers f) (sym same)
            (s.known at.file ∙ header_state (starts at.file) is ∙ sym (header_state (one_more path at starts at.file) is))
        | inr other ↦ s.known g ∙ sym (other_state g other)
      ];
      held = λ several. record {
        long = (s.held several).long;
        kept = λ g found other. (s.held several).kept g (ap is_found (sym (other_starts g (no_header g other))) ∙ found) other;
      };
      long = s.long;
      own = λ g next c other. s.own g next (subst (λ (l : List Start). Contains l (record { path = path; next = next })) (other_starts g (no_header g other)) c) other;
      only = λ g l e. let there = s.only g l e in (there.0, more_here g _ there.1);
    }
      where
        no_header : (g : ℕ) → is_member g headers ≡ false → g ≢ at.file
        no_header g other same = false≢true (sym other ∙ ap (λ (f : ℕ). is_member f headers) same ∙ is)

    -- a place is taken of which this was tried: just what steps from it lead to, and of the other files nothing changes
    search_step : (new tried : List Found) (x : State) (after : List (Option (List Next))) (lists : List (List Direct)) → Reaches places tried new → is_member at.file headers ≡ false
        → ((b : Found) → Contains tried b → IsStep setting listing headers path at b) → ((b : Found) → IsStep setting listing headers path at b → Contains new b)
        → x ≡ Some (file_entries setting listing (start_at path at ∷ starts at.file) at.file) → at.file < length listing.files
        → (AreSeveral setting → AreDirects setting listing headers (one_more path at starts) lists)
        → length after ≡ length nexts → get_or after at.file None ≡ Some (file_nexts setting listing path at.file) → ((g : ℕ) → g ≢ at.file → get_or after g None ≡ get_or nexts g None)
        → IsClosureSearch setting listing sources headers path new (set states at.file x) lists after (taken + 1) (one_more path at starts)
    search_step new tried x after lists r other each whole x_is low kept long own_here own_others = record {
      reached = λ b c. elim (reaches_cases places tried new r b c) [
        | inl old ↦ s.reached b old
        | inr more ↦ reached_push setting listing sources headers path at b at_reached (each b more)
      ];
      begun = λ f is. reaches_old places tried new r (as_source f) (s.begun f is);
      closed = λ k b c less there step. elim (taken_cases new k b r.more r.grown less there) [
        | inl old ↦ reaches_old places tried new r c (s.closed k b c old.0 old.1 step)
        | inr same ↦ whole c (subst (λ (y : Found). IsStep setting listing headers path y c) (sym same) step)
      ];
      found = found_more new r.more r.grown;
      earlier = λ g start less found. more_here g start (s.earlier g start less found);
      real = real_more new r.more r.grown;
      wide = length-set states at.file x ∙ s.wide;
      known = λ g. elim (cases_eq g at.file) [
        | inl same ↦ subst (λ (f : ℕ). get_or (set states at.file x) f None ≡ state_of setting listing (one_more path at starts) headers f) (sym same)
            (get_or-set_same states at.file x None (omega (arith, s.wide, low)) ∙ x_is ∙ sym (state_here other))
        | inr differ ↦ get_or-set_other states at.file g x None differ ∙ s.known g ∙ sym (other_state g differ)
      ];
      held = kept;
      long = long ∙ s.long;
      own = λ g next c no_header. elim (cases_eq g at.file) [
        | inl same ↦ subst (λ (f : ℕ). get_or after f None ≡ Some (file_nexts setting listing path f)) (sym same) own_here
        | inr differ ↦ own_others g differ ∙ s.own g next (subst (λ (l : List Start). Contains l (record { path = path; next = next })) (other_starts g differ) c) no_header
      ];
      only = λ g l e. elim (cases_eq g at.file) [
        | inl same ↦ (at.next, subst (λ (f : ℕ). Contains (one_more path at starts f) (start_at path at)) (sym same) new_here)
        | inr differ ↦ let there = s.only g l (sym (own_others g differ) ∙ e) in (there.0, more_here g _ there.1)
      ];
    }

    not_found : (l : List Start) (x : Result (List Entry) FileFault) (b : Bool) → b ≡ false → cond (is_found l && not b) (Some x) None ≡ None → l ≡ []
    not_found [] x b other none = refl
    not_found (n ∷ ns) x true other none = absurd (false≢true (sym other))
    not_found (n ∷ ns) x false other none = absurd (none-some x (sym none))

    some_found : (l : List Start) (x : Result (List Entry) FileFault) (b : Bool) → is_some (cond (is_found l && not b) (Some x) None) ≡ true → (n : Start) × Contains l n
    some_found [] x b is = absurd (false≢true is)
    some_found (n ∷ ns) x b is = (n, contains_first n ns)

    -- a file that is not read is not found yet
    pub not_yet : is_member at.file headers ≡ false → get_or states at.file None ≡ None → starts at.file ≡ []
    not_yet other none = not_found (starts at.file) (file_entries setting listing (starts at.file) at.file) (is_member at.file headers) other (sym (s.known at.file) ∙ none)

    -- one that is found is read
    found_state : is_member at.file headers ≡ false → is_found (starts at.file) ≡ true → get_or states at.file None ≡ Some (file_entries setting listing (starts at.file) at.file)
    found_state other found =
        s.known at.file
        ∙ ap (λ (b : Bool). cond (b && not (is_member at.file headers)) (Some (file_entries setting listing (starts at.file) at.file)) None) found
        ∙ ap (λ (b : Bool). cond (true && not b) (Some (file_entries setting listing (starts at.file) at.file)) None) other

    -- its direct include directives stay
    same_directs : is_found (starts at.file) ≡ true → AreSeveral setting → AreDirects setting listing headers (one_more path at starts) directs
    same_directs here_found several = record {
      long = (s.held several).long;
      kept = λ g found other. elim (cases_eq g at.file) [
        | inl same ↦ (s.held several).kept g (ap (λ (f : ℕ). is_found (starts f)) same ∙ here_found) other
        | inr differ ↦ (s.held several).kept g (ap is_found (sym (other_starts g differ)) ∙ found) other
      ];
    }

    -- a file is read
    pub search_read : (new : List Found) (lists : List (List Direct)) → Reaches places (directives_found (layouts_of setting listing path) at (read_directives setting listing at.file)) new → is_member at.file headers ≡ false → at.file < length listing.files
        → get_or states at.file None ≡ None → (AreSeveral setting → lists ≡ set directs at.file (file_directs setting listing at.file))
        → IsClosureSearch setting listing sources headers path new (set states at.file (Some (file_entries setting listing (start_at path at ∷ []) at.file))) lists
        (set nexts at.file (Some (file_nexts setting listing path at.file))) (taken + 1) (one_more path at starts)
    search_read new lists r other low none lists_are =
        let own : Option (List Next) = Some (file_nexts setting listing path at.file) in
        search_step new _ _ _ lists r other (λ b c. found_step setting listing headers path at b other c) (λ b step. r.there b (step_found setting listing headers path at b step))
        (ap (λ (l : List Start). Some (file_entries setting listing (start_at path at ∷ l) at.file)) (sym (not_yet other none))) low kept_now
        (length-set nexts at.file own)
        (get_or-set_same nexts at.file own None (omega (arith, s.long, low)))
        (λ g differ. get_or-set_other nexts at.file g own None differ)
      where
        kept_now : AreSeveral setting → AreDirects setting listing headers (one_more path at starts) lists
        kept_now several =
            let now : List Direct = file_directs setting listing at.file in
            let was = s.held several in
            subst (λ (l : List (List Direct)). AreDirects setting listing headers (one_more path at starts) l) (sym (lists_are several)) (record {
              long = length-set directs at.file now ∙ was.long;
              kept = λ g found no_header. elim (cases_eq g at.file) [
                | inl same ↦ subst (λ (f : ℕ). get_or (set directs at.file now) f [] ≡ file_directs setting listing f) (sym same) (get_or-set_same directs at.file now [] (omega (arith, was.long, low)))
                | inr differ ↦ get_or-set_other directs at.file g now [] differ ∙ was.kept g (ap is_found (sym (other_starts g differ)) ∙ found) no_header
              ];
            })

    -- the #include_next directives of a file that was taken are those that it has
    own_nexts : (l : List Next) → is_member at.file headers ≡ false → get_or nexts at.file None ≡ Some l → l ≡ file_nexts setting listing path at.file
    own_nexts l other is = let there = s.only at.file l is in same_Some l (file_nexts setting listing path at.file) (sym is ∙ s.own at.file there.0 there.1 other)

    -- so what they find are files of the project
    pub again_within : (l : List Next) → is_member at.file headers ≡ false → get_or nexts at.file None ≡ Some l → All (λ (f : Found). f.file < length (layouts_of setting listing path).paths) (nexts_found at.next l)
    again_within l other is =
        subst (λ (l : List Next). All (λ (f : Found). f.file < length (layouts_of setting listing path).paths) (nexts_found at.next l)) (sym (own_nexts l other is))
        (nexts_within (layouts_of setting listing path) at (read_directives setting listing at.file))

    -- a file that was taken is found in another way
    pub search_again : (new : List Found) (l : List Next) → get_or nexts at.file None ≡ Some l → Reaches places (nexts_found at.next l) new → is_member at.file headers ≡ false → at.file < length listing.files
        → IsClosureSearch setting listing sources headers path new (set states at.file (with_nexts at.next (get_or states at.file None) l)) directs nexts (taken + 1) (one_more path at starts)
    search_again new l is r other low =
        let there = s.only at.file l is in
        let found : is_found (starts at.file) ≡ true = found_some (starts at.file) (record { path = path; next = there.0 }) there.1 in
        let own : l ≡ file_nexts setting listing path at.file = own_nexts l other is in
        search_step new _ _ _ directs r other
        (λ b c. found_step setting listing headers path at b other (nexts_find (layouts_of setting listing path) at (read_directives setting listing at.file) b (subst (λ (l : List Next). Contains (nexts_found at.next l) b) own c)))
        (λ b step. elim (next_there b step (read_directives setting listing at.file) step.there) [
          | inl next ↦ r.there b (subst (λ (l : List Next). Contains (nexts_found at.next l) b) (sym own) next)
          | inr always ↦ reaches_old places (nexts_found at.next l) new r b (from_before there.0 b step always (s.real at.file (record { path = path; next = there.0 }) there.1))
        ])
        (ap (λ (o : State). with_nexts at.next o l) (found_state other found)
        ∙ ap (λ (l : List Next). with_nexts at.next (Some (file_entries setting listing (starts at.file) at.file)) l) own
        ∙ entries_more setting.undefined (layouts_of setting listing) at.file (start_at path at) (starts at.file) there.0 there.1 (text_definitions setting (phase_text setting.language (bytes_at listing at.file))) (read_directives setting listing at.file))
        low (same_directs found) refl (s.own at.file there.0 there.1 other) (λ g differ. refl)
      where
        next_there : (b : Found) (step : IsStep setting listing headers path at b) (x : Result (List Directive) FileFault) → Contains (elim x [ Ok directives ↦ directives | Err fault ↦ [] ]) step.directive
            → Contains (nexts_found at.next (nexts_of (layouts_of setting listing path) at.file x)) b ⊎ ((next : Option ℕ) → found_by (layouts_of setting listing path) (record { file = at.file; next = next }) step.directive ≡ Some b)
        next_there b step (Ok ds) c = next_or_same (layouts_of setting listing path) at ds 0 step.directive b c step.leads
        next_there b step (Err fault) c = absurd (contains_nothing step.directive c)

        from_before : (next : Option ℕ) (b : Found) (step : IsStep setting listing headers path at b) → ((after : Option ℕ) → found_by (layouts_of setting listing path) (record { file = at.file; next = after }) step.directive ≡ Some b)
            → IsEarlier setting listing sources headers path at.file (record { path = path; next = next }) ⊎ IsTakenSo path places taken at.file (record { path = path; next = next }) → Contains places b
        from_before next b step always (inl before) = let less = before.0 in absurd (omega arith)
        from_before next b step always (inr now) =
            s.closed now.1.0 (record { file = at.file; next = next }) b now.1.1 now.1.2 (record { directive = step.directive; there = step.there; leads = always next; before = step.before })

    -- a file that was not taken is read only where an include path before this one has found it
    was_several : path ≤ length setting.others → is_member at.file headers ≡ false → get_or nexts at.file None ≡ None → (n : Start) → Contains (starts at.file) n → AreSeveral setting
    was_several within other none n c = by_way (s.real at.file n c)
      where
        by_way : IsEarlier setting listing sources headers path at.file n ⊎ IsTakenSo path places taken at.file n → AreSeveral setting
        by_way (inl before) = let less = before.0 in omega arith
        by_way (inr now) =
            let here_too : Contains (starts at.file) (record { path = path; next = n.next }) = subst (λ (p : ℕ). Contains (starts at.file) (record { path = p; next = n.next })) now.0 c in
            absurd (none-some (file_nexts setting listing path at.file) (sym none ∙ s.own at.file n.next here_too other))

    pub read_several : path ≤ length setting.others → is_member at.file headers ≡ false → get_or nexts at.file None ≡ None → is_some (get_or states at.file None) ≡ true → AreSeveral setting
    read_several within other none is =
        let front = some_found (starts at.file) (file_entries setting listing (starts at.file) at.file) (is_member at.file headers) (ap is_some (sym (s.known at.file)) ∙ is) in
        was_several within other none front.0 front.1

    -- a file that is read is found in a further include path
    pub search_further : (new : List Found) (own : List Next) → path ≤ length setting.others → get_or nexts at.file None ≡ None → is_some (get_or states at.file None) ≡ true
        → is_member at.file headers ≡ false → at.file < length listing.files → Reaches places (directs_found (layouts_of setting listing path) at (get_or directs at.file [])) new
        → own ≡ nexts_among (layouts_of setting listing path) at.file (get_or directs at.file [])
        → IsClosureSearch setting listing sources headers path new (set states at.file (with_directs (layouts_of setting listing path) at (get_or states at.file None) (get_or directs at.file []))) directs
        (set nexts at.file (Some own)) (taken + 1) (one_more path at starts)
    search_further new own within none is other low r own_is =
        let layout : Layout = layouts_of setting listing path in
        let front = some_found (starts at.file) (file_entries setting listing (starts at.file) at.file) (is_member at.file headers) (ap is_some (sym (s.known at.file)) ∙ is) in
        let found : is_found (starts at.file) ≡ true = found_some (starts at.file) front.0 front.1 in
        let several : AreSeveral setting = was_several within other none front.0 front.1 in
        let kept : get_or directs at.file [] ≡ file_directs setting listing at.file = (s.held several).kept at.file found other in
        let tried : directs_found layout at (get_or directs at.file []) ≡ directives_found layout at (read_directives setting listing at.file) = ap (directs_found layout at) kept ∙ directs_find layout at (read_directives setting listing at.file) in
        let own_here : own ≡ file_nexts setting listing path at.file = own_is ∙ ap (nexts_among layout at.file) kept ∙ nexts_are_among layout at.file (read_directives setting listing at.file) in
        search_step new _ _ _ directs r other
        (λ b c. found_step setting listing headers path at b other (subst (λ (l : List Found). Contains l b) tried c))
        (λ b step. r.there b (subst (λ (l : List Found). Contains l b) (sym tried) (step_found setting listing headers path at b step)))
        (ap (λ (o : State). with_directs layout at o (get_or directs at.file [])) (found_state other found)
        ∙ ap (λ (l : List Direct). with_directs layout at (Some (file_entries setting listing (starts at.file) at.file)) l) kept
        ∙ entries_further setting.undefined (layouts_of setting listing) at.file (start_at path at) (starts at.file) (text_definitions setting (phase_text setting.language (bytes_at listing at.file))) (read_directives setting listing at.file))
        low (same_directs found)
        (length-set nexts at.file (Some own))
        (get_or-set_same nexts at.file (Some own) None (omega (arith, s.long, low)) ∙ ap Some own_here)
        (λ g differ. get_or-set_other nexts at.file g (Some own) None differ)

  ---- the end of the search

  -- steps do not leave what is reached
  tour_stays : length places ≤ taken → (tour : List Found) (a b : Found) → Contains places a → IsTour setting listing headers path a tour b → Contains places b
  tour_stays h [] a b c at = subst (λ (x : Found). Contains places x) at c
  tour_stays h (x ∷ xs) a b c tour =
      let k = contained_some places a c in
      tour_stays h xs x b (s.closed k.0 a x (omega (arith, h, slice_get_within places k.0 a k.1)) k.1 tour.0) tour.1

  -- this include path is searched too
  pub search_end : length places ≤ taken → AreSearched setting listing sources headers (suc path) starts states directs
  search_end h = record {
    ways = λ f start. (
      λ c. (way_low f start (s.real f start c), real_so f start c),
      λ w. elim (cases_lt start.path path) [
        | inl less ↦ s.earlier f start less w.1
        | inr more ↦ let low = w.0 in taken_way f start (omega arith) w.1
      ],
    );
    wide = s.wide;
    known = s.known;
    held = s.held;
  }
    where
      way_low : (f : ℕ) (start : Start) → IsEarlier setting listing sources headers path f start ⊎ IsTakenSo path places taken f start → start.path < suc path
      way_low f start (inl before) = let less = before.0 in omega arith
      way_low f start (inr now) = let same = now.0 in omega arith

      taken_way : (f : ℕ) (start : Start) → start.path ≡ path → IsFoundSo setting listing sources headers f start → Contains (starts f) start
      taken_way f start same found =
          let r : IsReached setting listing sources headers path (found_so f start) = subst (λ (p : ℕ). IsReached setting listing sources headers p (found_so f start)) same found in
          let k = contained_some places (found_so f start) (tour_stays h r.tour (as_source r.source) (found_so f start) (s.begun r.source r.among) r.real) in
          subst (λ (p : ℕ). Contains (starts f) (record { path = p; next = start.next })) (sym same)
          (s.found k.0 (found_so f start) (omega (arith, h, slice_get_within places k.0 (found_so f start) k.1)) k.1)

-- before the first include path nothing is found
pub none_searched : (setting : Setting) (listing : Listing) (sources : List Source) (headers : List ℕ) (n : ℕ) (states : List State) (directs : List (List Direct)) → n ≡ length listing.files → states ≡ replicate n None
    → (AreSeveral setting → directs ≡ replicate n []) → AreSearched setting listing sources headers 0 (λ f. []) states directs
none_searched setting listing sources headers n states directs n_is e d =
    let no_state : State = None in
    record {
      ways = λ f start. (λ c. absurd (contains_nothing start c), λ w. let low = w.0 in absurd (omega arith));
      wide = ap (λ (l : List State). length l) e ∙ length-replicate {A = State} n None ∙ n_is;
      known = λ g. ap (λ (l : List State). get_or l g None) e ∙ elim (cases_lt g n) [
        | inl low ↦ get_or-replicate n g no_state no_state low
        | inr high ↦ get_or_past (replicate n no_state) g no_state (omega (arith, high, length-replicate {A = State} n None))
      ];
      held = λ several. record {
        long = ap (λ (l : List (List Direct)). length l) (d several) ∙ length-replicate {A = List Direct} n [] ∙ n_is;
        kept = λ f found. absurd (false≢true found);
      };
    }

-- once all include paths are searched the ways are those of the closure
pub all_searched : (setting : Setting) (listing : Listing) (sources : List Source) (headers : List ℕ) (paths : ℕ) (starts : ℕ → List Start) (states : List State) (directs : List (List Direct)) → All (λ (s : Source). s.path < paths) sources
    → AreSearched setting listing sources headers paths starts states directs → AreStates setting listing sources headers states
all_searched setting listing sources headers paths starts states directs within s = (
  starts,
  λ f start. (
    λ c. ((s.ways f start).0 c).1,
    λ r. (s.ways f start).1 (All-contains (λ (x : Source). x.path < paths) sources (record { file = r.source; path = start.path }) within r.among, r),
  ),
  fill_by_all (state_of setting listing starts headers) states (length listing.files) None s.wide (λ k low. s.known k),
)

-- a file that is found is in the closure
pub searched_in_closure : (setting : Setting) (listing : Listing) (sources : List Source) (headers : List ℕ) (paths : ℕ) (starts : ℕ → List Start) (states : List State) (directs : List (List Direct))
    → AreSearched setting listing sources headers paths starts states directs → (f : ℕ) → is_found (starts f) ≡ true → InClosure setting listing sources headers f
searched_in_closure setting listing sources headers paths starts states directs s f found = by_starts (starts f) refl found
  where
    by_starts : (l : List Start) → starts f ≡ l → is_found l ≡ true → InClosure setting listing sources headers f
    by_starts [] e is = absurd (false≢true is)
    by_starts (n ∷ ns) e is = record { start = n; reached = ((s.ways f n).0 (subst (λ (l : List Start). Contains l n) (sym e) (contains_first n ns))).1 }
