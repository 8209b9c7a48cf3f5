-- What a further way in which a file is found makes of its include directives, by those of them that are #include_next.
use Rattle.std.proofs.Common.{◌≡◌, ℕ, zero, suc, ◌+◌, ◌==◌, Bool, true, false, cond, ◌<◌, List, [], ◌∷◌, ◌++◌, Option, Some, None, Result, Ok, Err, length, get_or, map, set, refl, ap, sym, arith, length-append, ◌∙◌, subst, inl, inr, ◌⊎◌}
use Rattle.std.specs.Prelude.{Contains, filter_map, fold, slice_get}
use Rattle.std.specs.List.{cons_option, All}
use Rattle.std.specs.Option.{option_map_or}
use Rattle.std.proofs.lemmas.List.{append_assoc, get_or_default}
use Rattle.std.proofs.lemmas.List.Elements.{filter_map-append, Contains-append_cases, Contains-append_left, Contains-append_right}
use Rattle.std.proofs.lemmas.Option.{none-some}
use Rattle.inc_token.specs.declared.kinds.IncludeName.TheVariants as by
use Rattle.inc_directive.specs.LineKinds.{LineKind, Include, Other, Text, Quoted, Angled, ByName, Computed, Nothing}
use Rattle.inc_directive.specs.declared.kinds.DirectiveKind.TheVariants.{Foreign}
use Rattle.inc_directive.specs.FileDirectives.{Directive}
use Rattle.inc_directive.specs.declared.files.FileFault.{FileFault}
use Rattle.inc_lookup.specs.declared.projects.Form.TheVariants as form
use Rattle.inc_lookup.specs.declared.projects.Found.{Found}
use Rattle.inc_lookup.specs.Projects.{Layout}
use Rattle.inc_graph.specs.FileEntries.{Definition, Entry, definition_entry}
use Rattle.inc_graph.specs.declared.building.entries.Entry.TheVariants as entry
use Rattle.inc_graph.specs.declared.graphs.BlockerKind.TheVariants as kind
use Rattle.inc_graph.specs.HeaderNames.{HeaderName, header_of}
use Rattle.inc_graph.specs.IncludeGraph.{Named, Lead, Nowhere, Start, found_so, To, Several, direct_header, named_place, found_by, with_target, with_found, leads, lead_entry, name_entry, undefined_place, entry_of}
use Rattle.inc_graph.specs.Entries.{entries_of, directives_found}
use Rattle.inc_graph.specs.Nexts.{Next, next_found, next_of, entry_count, nexts_from, nexts_of, led_entry, led_at, led_state, with_nexts, nexts_found}
use Rattle.inc_graph.proofs.EntryLemmas.{named_within}
use Rattle.inc_graph.proofs.HitLemmas.{hits_find}
use Rattle.inc_graph.proofs.LeadLemmas.{contains_first, contains_later, contains_cases, contains_nothing, contains_from, leads_steady}

---- what they find

-- what a directive finds, an #include_next finds, or each way in which the file is found gives
directive_cases : (layout : Layout) (at : Found) (k : LineKind) (line : ℕ) (b : Found) → found_by layout at (record { kind = k; line = line }) ≡ Some b
    → ((i : ℕ) → Contains (nexts_found at.next (next_of layout at.file i k)) b) ⊎ ((next : Option ℕ) → found_by layout (record { file = at.file; next = next }) (record { kind = k; line = line }) ≡ Some b)
directive_cases layout at (Include by.IncludeNext (Quoted name)) line b e =
    inl (λ i. subst (λ o. Contains (cons_option o []) b) (sym (hits_find layout at.file i form.Quoted name at.next ∙ e)) (contains_first b []))
directive_cases layout at (Include by.IncludeNext (Angled name)) line b e =
    inl (λ i. subst (λ o. Contains (cons_option o []) b) (sym (hits_find layout at.file i form.Angled name at.next ∙ e)) (contains_first b []))
directive_cases layout at (Include by.Include (Quoted name)) line b e = inr (λ next. e)
directive_cases layout at (Include by.Include (Angled name)) line b e = inr (λ next. e)
directive_cases layout at (Include by.Import (Quoted name)) line b e = inr (λ next. e)
directive_cases layout at (Include by.Import (Angled name)) line b e = inr (λ next. e)
directive_cases layout at (Include how (ByName name)) line b e = absurd (none-some b e)
directive_cases layout at (Include how Computed) line b e = absurd (none-some b e)
directive_cases layout at (Include how Nothing) line b e = absurd (none-some b e)
directive_cases layout at (Other what) line b e = absurd (none-some b e)
directive_cases layout at Text line b e = absurd (none-some b e)

found_append : (next : Option ℕ) (xs ys : List Next) → nexts_found next (xs ++ ys) ≡ nexts_found next xs ++ nexts_found next ys
found_append next xs ys = filter_map-append (λ (n : Next). next_found n next) xs ys

pub next_or_same : (layout : Layout) (at : Found) (ds : List Directive) (i : ℕ) (d : Directive) (b : Found) → Contains ds d → found_by layout at d ≡ Some b
    → Contains (nexts_found at.next (nexts_from layout at.file i ds)) b ⊎ ((next : Option ℕ) → found_by layout (record { file = at.file; next = next }) d ≡ Some b)
next_or_same layout at [] i d b c e = absurd (contains_nothing d c)
next_or_same layout at (x ∷ xs) i d b c e =
    elim (contains_cases x xs d c) [
      | inl same ↦ elim (directive_cases layout at d.kind d.line b e) [
        | inl next ↦ inl (subst (λ (y : Directive). Contains (nexts_found at.next (next_of layout at.file i y.kind ++ nexts_from layout at.file (i + entry_count y.kind) xs)) b) (sym same)
            (subst (λ l. Contains l b) (sym (found_append at.next (next_of layout at.file i d.kind) (nexts_from layout at.file (i + entry_count d.kind) xs)))
            (Contains-append_left (nexts_found at.next (next_of layout at.file i d.kind)) (nexts_found at.next (nexts_from layout at.file (i + entry_count d.kind) xs)) b (next i))))
        | inr always ↦ inr always
      ]
      | inr later ↦ elim (next_or_same layout at xs (i + entry_count x.kind) d b later e) [
        | inl there ↦ inl (subst (λ l. Contains l b) (sym (found_append at.next (next_of layout at.file i x.kind) (nexts_from layout at.file (i + entry_count x.kind) xs)))
            (Contains-append_right (nexts_found at.next (next_of layout at.file i x.kind)) (nexts_found at.next (nexts_from layout at.file (i + entry_count x.kind) xs)) b there))
        | inr always ↦ inr always
      ]
    ]

one : (o : Option Found) (rest : List Found) (b : Found) → Contains (cons_option o []) b → Contains (cons_option o rest) b
one None rest b c = absurd (contains_nothing b c)
one (Some f) rest b c = elim (contains_cases f [] b c) [
  | inl is ↦ subst (λ (x : Found). Contains (f ∷ rest) x) is (contains_first f rest)
  | inr none ↦ absurd (contains_nothing b none)
]

cons_later : (o : Option Found) (rest : List Found) (b : Found) → Contains rest b → Contains (cons_option o rest) b
cons_later None rest b c = c
cons_later (Some f) rest b c = contains_later f rest b c

-- what they find, their directives find
next_is : (layout : Layout) (at : Found) (i : ℕ) (k : LineKind) (line : ℕ) (b : Found) (rest : List Found) → Contains (nexts_found at.next (next_of layout at.file i k)) b
    → Contains (cons_option (found_by layout at (record { kind = k; line = line })) rest) b
next_is layout at i (Include by.IncludeNext (Quoted name)) line b rest c =
    one (found_by layout at (record { kind = Include by.IncludeNext (Quoted name); line = line })) rest b (subst (λ o. Contains (cons_option o []) b) (hits_find layout at.file i form.Quoted name at.next) c)
next_is layout at i (Include by.IncludeNext (Angled name)) line b rest c =
    one (found_by layout at (record { kind = Include by.IncludeNext (Angled name); line = line })) rest b (subst (λ o. Contains (cons_option o []) b) (hits_find layout at.file i form.Angled name at.next) c)
next_is layout at i (Include by.Include (Quoted name)) line b rest c = absurd (contains_nothing b c)
next_is layout at i (Include by.Include (Angled name)) line b rest c = absurd (contains_nothing b c)
next_is layout at i (Include by.Import (Quoted name)) line b rest c = absurd (contains_nothing b c)
next_is layout at i (Include by.Import (Angled name)) line b rest c = absurd (contains_nothing b c)
next_is layout at i (Include how (ByName name)) line b rest c = absurd (contains_nothing b c)
next_is layout at i (Include how Computed) line b rest c = absurd (contains_nothing b c)
next_is layout at i (Include how Nothing) line b rest c = absurd (contains_nothing b c)
next_is layout at i (Other what) line b rest c = absurd (contains_nothing b c)
next_is layout at i Text line b rest c = absurd (contains_nothing b c)

nexts_are : (layout : Layout) (at : Found) (ds : List Directive) (i : ℕ) (b : Found) → Contains (nexts_found at.next (nexts_from layout at.file i ds)) b → Contains (filter_map (found_by layout at) ds) b
nexts_are layout at [] i b c = absurd (contains_nothing b c)
nexts_are layout at (d ∷ ds) i b c =
    elim (Contains-append_cases (nexts_found at.next (next_of layout at.file i d.kind)) (nexts_found at.next (nexts_from layout at.file (i + entry_count d.kind) ds)) b
    (subst (λ l. Contains l b) (found_append at.next (next_of layout at.file i d.kind) (nexts_from layout at.file (i + entry_count d.kind) ds)) c)) [
      | inl here ↦ next_is layout at i d.kind d.line b (filter_map (found_by layout at) ds) here
      | inr later ↦ cons_later (found_by layout at d) (filter_map (found_by layout at) ds) b (nexts_are layout at ds (i + entry_count d.kind) b later)
    ]

pub nexts_find : (layout : Layout) (at : Found) (r : Result (List Directive) FileFault) (b : Found) → Contains (nexts_found at.next (nexts_of layout at.file r)) b → Contains (directives_found layout at r) b
nexts_find layout at (Ok ds) b c = nexts_are layout at ds 0 b c
nexts_find layout at (Err fault) b c = absurd (contains_nothing b c)

-- so these are files of the project
found_within : (layout : Layout) (at : Found) (r : Result (List Directive) FileFault) (b : Found) → Contains (directives_found layout at r) b → b.file < length layout.paths
found_within layout at (Ok ds) b c = let e = contains_from (found_by layout at) ds b c in named_within layout at (direct_header e.0.kind) b e.2
found_within layout at (Err fault) b c = absurd (contains_nothing b c)

pub nexts_within : (layout : Layout) (at : Found) (r : Result (List Directive) FileFault) → All (λ (f : Found). f.file < length layout.paths) (nexts_found at.next (nexts_of layout at.file r))
nexts_within layout at r k d low =
    let fs = nexts_found at.next (nexts_of layout at.file r) in
    let b : Found = get_or fs k d in
    found_within layout at r b (nexts_find layout at r b (k, low, get_or_default fs k b d low))

---- what becomes of the entries

-- a directive that leads to one file more
pub led_lead : (hn : HeaderName) (lead : Lead) (f line : ℕ) → led_entry f (lead_entry lead line hn) ≡ lead_entry (with_target lead f) line hn
led_lead hn Nowhere f line = refl
led_lead hn (To g) f line = by_test (g == f) where
  by_test : (b : Bool) → cond b (entry.Edge g line) (entry.Blocker line kind.Several) ≡ lead_entry (cond b (To g) Several) line hn
  by_test true = refl
  by_test false = refl
led_lead hn Several f line = refl

abbrev led_by : Option ℕ → List Entry → Next → List Entry
led_by next es n = option_map_or (λ (f : Found). led_at n.index f.file es) (next_found n next) es

get_seam : (pre : List Entry) (e : Entry) (es : List Entry) → slice_get (pre ++ e ∷ es) (length pre) ≡ Some e
get_seam [] e es = refl
get_seam (x ∷ pre) e es = get_seam pre e es

set_seam : (pre : List Entry) (e y : Entry) (es : List Entry) → set (pre ++ e ∷ es) (length pre) y ≡ pre ++ y ∷ es
set_seam [] e y es = refl
set_seam (x ∷ pre) e y es = ap (◌∷◌ x) (set_seam pre e y es)

led_seam : (pre : List Entry) (f : ℕ) (e : Entry) (es : List Entry) → led_at (length pre) f (pre ++ e ∷ es) ≡ pre ++ led_entry f e ∷ es
led_seam pre f e es =
    ap (λ (o : Option Entry). elim o [ Some x ↦ set (pre ++ e ∷ es) (length pre) (led_entry f x) | None ↦ pre ++ e ∷ es ]) (get_seam pre e es)
    ∙ set_seam pre e (led_entry f e) es

pub found_seam : (hn : HeaderName) (pre : List Entry) (lead : Lead) (line : ℕ) (es : List Entry) (o : Option Found)
    → option_map_or (λ (f : Found). led_at (length pre) f.file (pre ++ lead_entry lead line hn ∷ es)) o (pre ++ lead_entry lead line hn ∷ es) ≡ pre ++ lead_entry (with_found o lead) line hn ∷ es
found_seam hn pre lead line es None = refl
found_seam hn pre lead line es (Some f) = led_seam pre f.file (lead_entry lead line hn) es ∙ ap (λ (e : Entry). pre ++ e ∷ es) (led_lead hn lead f.file line)

-- the entries of directives, in these ways
abbrev pub entries_in : List (List ℕ) → (layouts : ℕ → Layout) → List Start → ℕ → List Directive → List Entry
entries_in names layouts starts file ds = filter_map (entry_of names layouts starts file) ds

-- the definitions of a file
abbrev defined : List Definition → List Entry
defined ks = map definition_entry ks

-- an entry that leads to one file more, before them
led_defined : (f : ℕ) (ks : List Definition) (i : ℕ) → led_at i f (defined ks) ≡ defined ks
led_defined f [] i = refl
led_defined f (k ∷ ks) zero = refl
led_defined f (k ∷ ks) (suc i) = one (slice_get (defined ks) i) (led_defined f ks i)
  where
    one : (o : Option Entry) → (elim o [ Some x ↦ set (defined ks) i (led_entry f x) | None ↦ defined ks ]) ≡ defined ks
        → (elim o [ Some x ↦ definition_entry k ∷ set (defined ks) i (led_entry f x) | None ↦ definition_entry k ∷ defined ks ]) ≡ definition_entry k ∷ defined ks
    one None e = refl
    one (Some x) e = ap (λ (l : List Entry). definition_entry k ∷ l) e

pub led_ahead : (ks : List Definition) (f : ℕ) (es : List Entry) (i : ℕ) → led_at i f (es ++ defined ks) ≡ led_at i f es ++ defined ks
led_ahead ks f [] i = led_defined f ks i
led_ahead ks f (e ∷ es) zero = refl
led_ahead ks f (e ∷ es) (suc i) = one (slice_get (es ++ defined ks) i) (slice_get es i) (led_ahead ks f es i)
  where
    one : (o p : Option Entry)
        → (elim o [ Some x ↦ set (es ++ defined ks) i (led_entry f x) | None ↦ es ++ defined ks ]) ≡ (elim p [ Some x ↦ set es i (led_entry f x) | None ↦ es ]) ++ defined ks
        → (elim o [ Some x ↦ e ∷ set (es ++ defined ks) i (led_entry f x) | None ↦ e ∷ es ++ defined ks ])
        ≡ (elim p [ Some x ↦ e ∷ set es i (led_entry f x) | None ↦ e ∷ es ]) ++ defined ks
    one None None h = ap (λ (l : List Entry). e ∷ l) h
    one None (Some x) h = ap (λ (l : List Entry). e ∷ l) h
    one (Some x) None h = ap (λ (l : List Entry). e ∷ l) h
    one (Some x) (Some y) h = ap (λ (l : List Entry). e ∷ l) h

module _ (names : List (List ℕ)) (layouts : ℕ → Layout) (file : ℕ) (s : Start) (starts : List Start) (u : Option ℕ) (there : Contains starts (record { path = s.path; next = u })) where
  -- those of directives that come after others, with one way more
  abbrev Grow : List Entry → List Directive → Type 0
  Grow pre ds = fold (led_by s.next) (pre ++ entries_in names layouts starts file ds) (nexts_from (layouts s.path) file (length pre) ds) ≡ pre ++ entries_in names layouts (s ∷ starts) file ds

  -- an entry that stays
  past : (pre : List Entry) (e : Entry) (ds : List Directive) → Grow (pre ++ e ∷ []) ds
      → fold (led_by s.next) (pre ++ e ∷ entries_in names layouts starts file ds) (nexts_from (layouts s.path) file (length pre + 1) ds) ≡ pre ++ e ∷ entries_in names layouts (s ∷ starts) file ds
  past pre e ds grow =
      let f = led_by s.next in
      let len : length (pre ++ e ∷ []) ≡ length pre + 1 = omega (arith, length-append pre (e ∷ [])) in
      ap (λ (l : List Entry). fold f l (nexts_from (layouts s.path) file (length pre + 1) ds)) (sym (append_assoc pre (e ∷ []) (entries_in names layouts starts file ds)))
      ∙ ap (λ (n : ℕ). fold f ((pre ++ e ∷ []) ++ entries_in names layouts starts file ds) (nexts_from (layouts s.path) file n ds)) (sym len)
      ∙ grow
      ∙ append_assoc pre (e ∷ []) (entries_in names layouts (s ∷ starts) file ds)

  -- an #include_next with this header
  next_step : (hn : HeaderName) (pre : List Entry) (lead : Lead) (line : ℕ) (header : Named) (ds : List Directive) → ((more : List Entry) → Grow more ds)
      → fold (led_by s.next)
      (option_map_or (λ (f : Found). led_at (length pre) f.file (pre ++ lead_entry lead line hn ∷ entries_in names layouts starts file ds)) (named_place (layouts s.path) (found_so file s) header)
      (pre ++ lead_entry lead line hn ∷ entries_in names layouts starts file ds)) (nexts_from (layouts s.path) file (length pre + 1) ds)
      ≡ pre ++ lead_entry (with_found (named_place (layouts s.path) (found_so file s) header) lead) line hn ∷ entries_in names layouts (s ∷ starts) file ds
  next_step hn pre lead line header ds grow =
      let f = led_by s.next in
      let o = named_place (layouts s.path) (found_so file s) header in
      ap (λ (l : List Entry). fold f l (nexts_from (layouts s.path) file (length pre + 1) ds)) (found_seam hn pre lead line (entries_in names layouts starts file ds) o)
      ∙ past pre (lead_entry (with_found o lead) line hn) ds (grow (pre ++ lead_entry (with_found o lead) line hn ∷ []))

  -- what it finds
  next_found_as : (hn : HeaderName) (pre : List Entry) (lead : Lead) (line : ℕ) (ds : List Directive) {o p : Option Found} → o ≡ p
      → fold (led_by s.next) (option_map_or (λ (f : Found). led_at (length pre) f.file (pre ++ lead_entry lead line hn ∷ entries_in names layouts starts file ds)) o (pre ++ lead_entry lead line hn ∷ entries_in names layouts starts file ds))
      (nexts_from (layouts s.path) file (length pre + 1) ds)
      ≡ fold (led_by s.next) (option_map_or (λ (f : Found). led_at (length pre) f.file (pre ++ lead_entry lead line hn ∷ entries_in names layouts starts file ds)) p (pre ++ lead_entry lead line hn ∷ entries_in names layouts starts file ds))
      (nexts_from (layouts s.path) file (length pre + 1) ds)
  next_found_as hn pre lead line ds same =
      ap (λ (x : Option Found). fold (led_by s.next) (option_map_or (λ (f : Found). led_at (length pre) f.file (pre ++ lead_entry lead line hn ∷ entries_in names layouts starts file ds)) x (pre ++ lead_entry lead line hn ∷ entries_in names layouts starts file ds))
      (nexts_from (layouts s.path) file (length pre + 1) ds)) same

  -- another direct include directive
  steady_step : (hn : HeaderName) (pre : List Entry) (line : ℕ) (lead later : Lead) (ds : List Directive) → later ≡ lead → ((more : List Entry) → Grow more ds)
      → fold (led_by s.next) (pre ++ lead_entry lead line hn ∷ entries_in names layouts starts file ds) (nexts_from (layouts s.path) file (length pre + 1) ds)
      ≡ pre ++ lead_entry later line hn ∷ entries_in names layouts (s ∷ starts) file ds
  steady_step hn pre line lead later ds same grow =
      past pre (lead_entry lead line hn) ds (grow (pre ++ lead_entry lead line hn ∷ []))
      ∙ ap (λ (x : Lead). pre ++ lead_entry x line hn ∷ entries_in names layouts (s ∷ starts) file ds) (sym same)

  -- no include directive
  skip : (pre : List Entry) (ds : List Directive) → Grow pre ds
      → fold (led_by s.next) (pre ++ entries_in names layouts starts file ds) (nexts_from (layouts s.path) file (length pre + 0) ds) ≡ pre ++ entries_in names layouts (s ∷ starts) file ds
  skip pre ds grow =
      ap (λ (n : ℕ). fold (led_by s.next) (pre ++ entries_in names layouts starts file ds) (nexts_from (layouts s.path) file n ds)) (zero_more (length pre)) ∙ grow
    where
      zero_more : (n : ℕ) → n + 0 ≡ n
      zero_more n = omega arith

  by_kind : (pre : List Entry) (k : LineKind) (line : ℕ) (ds : List Directive) → ((more : List Entry) → Grow more ds) → Grow pre (record { kind = k; line = line } ∷ ds)
  by_kind pre (Include by.IncludeNext (Quoted name)) line ds grow =
      next_found_as (header_of form.Quoted name) pre (leads layouts starts file (record { kind = Include by.IncludeNext (Quoted name); line = line })) line ds (hits_find (layouts s.path) file (length pre) form.Quoted name s.next)
      ∙ next_step (header_of form.Quoted name) pre (leads layouts starts file (record { kind = Include by.IncludeNext (Quoted name); line = line })) line (record { by = by.IncludeNext; form = form.Quoted; name = name }) ds grow
  by_kind pre (Include by.IncludeNext (Angled name)) line ds grow =
      next_found_as (header_of form.Angled name) pre (leads layouts starts file (record { kind = Include by.IncludeNext (Angled name); line = line })) line ds (hits_find (layouts s.path) file (length pre) form.Angled name s.next)
      ∙ next_step (header_of form.Angled name) pre (leads layouts starts file (record { kind = Include by.IncludeNext (Angled name); line = line })) line (record { by = by.IncludeNext; form = form.Angled; name = name }) ds grow
  by_kind pre (Include by.Include (Quoted name)) line ds grow =
      steady_step (header_of form.Quoted name) pre line _ _ ds (leads_steady layouts s (record { path = s.path; next = u }) starts file (record { kind = Include by.Include (Quoted name); line = line }) there refl) grow
  by_kind pre (Include by.Include (Angled name)) line ds grow =
      steady_step (header_of form.Angled name) pre line _ _ ds (leads_steady layouts s (record { path = s.path; next = u }) starts file (record { kind = Include by.Include (Angled name); line = line }) there refl) grow
  by_kind pre (Include by.Import (Quoted name)) line ds grow =
      steady_step (header_of form.Quoted name) pre line _ _ ds (leads_steady layouts s (record { path = s.path; next = u }) starts file (record { kind = Include by.Import (Quoted name); line = line }) there refl) grow
  by_kind pre (Include by.Import (Angled name)) line ds grow =
      steady_step (header_of form.Angled name) pre line _ _ ds (leads_steady layouts s (record { path = s.path; next = u }) starts file (record { kind = Include by.Import (Angled name); line = line }) there refl) grow
  by_kind pre (Include how (ByName name)) line ds grow = past pre (name_entry (undefined_place names name) line) ds (grow (pre ++ name_entry (undefined_place names name) line ∷ []))
  by_kind pre (Include how Computed) line ds grow = past pre (entry.Blocker line kind.Computed) ds (grow (pre ++ entry.Blocker line kind.Computed ∷ []))
  by_kind pre (Other Foreign) line ds grow = past pre (entry.Blocker line kind.Foreign) ds (grow (pre ++ entry.Blocker line kind.Foreign ∷ []))
  by_kind pre _ line ds grow = skip pre ds (grow pre)

  grown : (ds : List Directive) (pre : List Entry) → Grow pre ds
  grown [] pre = refl
  grown (d ∷ ds) pre = by_kind pre d.kind d.line ds (λ more. grown ds more)

  -- the same of what is known of the file
  followed_all : (es : List Entry) (nexts : List Next) → with_nexts s.next (Some (Ok es)) nexts ≡ Some (Ok (fold (led_by s.next) es nexts))
  followed_all es [] = refl
  followed_all es (n ∷ ns) =
      ap (λ x. with_nexts s.next x ns) (one (next_found n s.next))
      ∙ followed_all (led_by s.next es n) ns
    where
      one : (o : Option Found) → option_map_or (λ (f : Found). led_state n.index f.file (Some (Ok es))) o (Some (Ok es)) ≡ Some (Ok (option_map_or (λ (f : Found). led_at n.index f.file es) o es))
      one None = refl
      one (Some f) = refl

  -- definitions that come after them stay
  led_before : (ks : List Definition) (n : Next) (es : List Entry) → led_by s.next (es ++ map definition_entry ks) n ≡ led_by s.next es n ++ map definition_entry ks
  led_before ks n es = one (next_found n s.next)
    where
      one : (o : Option Found) → option_map_or (λ (f : Found). led_at n.index f.file (es ++ map definition_entry ks)) o (es ++ map definition_entry ks)
          ≡ option_map_or (λ (f : Found). led_at n.index f.file es) o es ++ map definition_entry ks
      one None = refl
      one (Some f) = led_ahead ks f.file es n.index

  all_before : (ks : List Definition) (nexts : List Next) (es : List Entry) → fold (led_by s.next) (es ++ map definition_entry ks) nexts ≡ fold (led_by s.next) es nexts ++ map definition_entry ks
  all_before ks [] es = refl
  all_before ks (n ∷ ns) es = ap (λ (l : List Entry). fold (led_by s.next) l ns) (led_before ks n es) ∙ all_before ks ns (led_by s.next es n)

  -- a file that is found in one way more
  pub entries_more : (places : List Definition) (r : Result (List Directive) FileFault)
      → with_nexts s.next (Some (entries_of (entry_of names layouts starts file) places r)) (nexts_of (layouts s.path) file r) ≡ Some (entries_of (entry_of names layouts (s ∷ starts) file) places r)
  entries_more places (Ok ds) =
      followed_all (entries_in names layouts starts file ds ++ map definition_entry places) (nexts_from (layouts s.path) file 0 ds)
      ∙ ap (λ (es : List Entry). Some (Ok es)) (all_before places (nexts_from (layouts s.path) file 0 ds) (entries_in names layouts starts file ds) ∙ ap (λ (l : List Entry). l ++ map definition_entry places) (grown ds []))
  entries_more places (Err fault) = refl
