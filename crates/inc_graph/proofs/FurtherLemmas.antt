-- What a further include path in which a file is found makes of its include directives: each that is direct leads to what it finds there, too.
use Rattle.std.proofs.Common.{◌≡◌, ℕ, ◌+◌, List, [], ◌∷◌, ◌++◌, Option, Some, None, Result, Ok, Err, length, map, refl, ap, sym, arith, length-append, ◌∙◌}
use Rattle.std.specs.Prelude.{filter_map, fold}
use Rattle.std.specs.List.{cons_option}
use Rattle.std.specs.Option.{option_map_or}
use Rattle.std.proofs.lemmas.List.{append-nil, append_assoc}
use Rattle.std.proofs.lemmas.List.Elements.{filter_map-append}
use Rattle.inc_directive.specs.LineKinds.{LineKind, Include, Other, Text, Quoted, Angled, ByName, Computed, Nothing}
use Rattle.inc_directive.specs.declared.kinds.DirectiveKind.TheVariants.{Foreign}
use Rattle.inc_directive.specs.FileDirectives.{Directive}
use Rattle.inc_directive.specs.declared.files.FileFault.{FileFault}
use Rattle.inc_lookup.specs.declared.projects.Form.TheVariants as form
use Rattle.inc_lookup.specs.declared.projects.Found.{Found}
use Rattle.inc_lookup.specs.Projects.{Layout}
use Rattle.inc_graph.specs.FileEntries.{Definition, Entry, definition_entry}
use Rattle.inc_graph.specs.declared.building.entries.Entry.TheVariants as entry
use Rattle.inc_graph.specs.declared.graphs.BlockerKind.TheVariants as kind
use Rattle.inc_graph.specs.HeaderNames.{HeaderName, header_of}
use Rattle.inc_graph.specs.IncludeGraph.{Lead, Start, found_so, named_place, found_by, with_found, leads, lead_entry, name_entry, undefined_place, entry_of}
use Rattle.inc_graph.specs.Entries.{entries_of, directives_found}
use Rattle.inc_graph.specs.Nexts.{Direct, Next, direct_at, direct_found, directs_found, directs_from, directs_of, entry_count, led_at, led_state, next_by, next_of, nexts_among, nexts_from, nexts_of, with_directs}
use Rattle.inc_graph.proofs.NextLemmas.{entries_in, found_seam, led_ahead}

---- what the directives find

direct_first : {X : Type 0} (o : Option X) (xs : List X) → cons_option o [] ++ xs ≡ cons_option o xs
direct_first None xs = refl
direct_first (Some x) xs = refl

-- each that is direct finds what its directive does
kind_found : (layout : Layout) (at : Found) (i : ℕ) (k : LineKind) (line : ℕ) → directs_found layout at (direct_at i k) ≡ cons_option (found_by layout at (record { kind = k; line = line })) []
kind_found layout at i (Include how (Quoted name)) line = refl
kind_found layout at i (Include how (Angled name)) line = refl
kind_found layout at i (Include how (ByName name)) line = refl
kind_found layout at i (Include how Computed) line = refl
kind_found layout at i (Include how Nothing) line = refl
kind_found layout at i (Other what) line = refl
kind_found layout at i Text line = refl

all_found : (layout : Layout) (at : Found) (ds : List Directive) (i : ℕ) → directs_found layout at (directs_from i ds) ≡ filter_map (found_by layout at) ds
all_found layout at [] i = refl
all_found layout at (d ∷ ds) i =
    filter_map-append (direct_found layout at) (direct_at i d.kind) (directs_from (i + entry_count d.kind) ds)
    ∙ ap (λ l. l ++ directs_found layout at (directs_from (i + entry_count d.kind) ds)) (kind_found layout at i d.kind d.line)
    ∙ direct_first (found_by layout at d) (directs_found layout at (directs_from (i + entry_count d.kind) ds))
    ∙ ap (cons_option (found_by layout at d)) (all_found layout at ds (i + entry_count d.kind))

pub directs_find : (layout : Layout) (at : Found) (r : Result (List Directive) FileFault) → directs_found layout at (directs_of r) ≡ directives_found layout at r
directs_find layout at (Ok ds) = all_found layout at ds 0
directs_find layout at (Err fault) = refl

---- those that are #include_next

abbrev next_in : Layout → (file : ℕ) → Direct → List Next
next_in layout file d = next_by layout file d.index d.header

kind_nexts : (layout : Layout) (file i : ℕ) (k : LineKind) → nexts_among layout file (direct_at i k) ≡ next_of layout file i k
kind_nexts layout file i (Include how (Quoted name)) = append-nil _
kind_nexts layout file i (Include how (Angled name)) = append-nil _
kind_nexts layout file i (Include how (ByName name)) = refl
kind_nexts layout file i (Include how Computed) = refl
kind_nexts layout file i (Include how Nothing) = refl
kind_nexts layout file i (Other what) = refl
kind_nexts layout file i Text = refl

pub among_append : (layout : Layout) (file : ℕ) (xs ys : List Direct) → nexts_among layout file (xs ++ ys) ≡ nexts_among layout file xs ++ nexts_among layout file ys
among_append layout file [] ys = refl
among_append layout file (x ∷ xs) ys =
    ap (λ l. next_in layout file x ++ l) (among_append layout file xs ys)
    ∙ sym (append_assoc (next_in layout file x) (nexts_among layout file xs) (nexts_among layout file ys))

all_nexts : (layout : Layout) (file : ℕ) (ds : List Directive) (i : ℕ) → nexts_among layout file (directs_from i ds) ≡ nexts_from layout file i ds
all_nexts layout file [] i = refl
all_nexts layout file (d ∷ ds) i =
    among_append layout file (direct_at i d.kind) (directs_from (i + entry_count d.kind) ds)
    ∙ ap (λ l. l ++ nexts_among layout file (directs_from (i + entry_count d.kind) ds)) (kind_nexts layout file i d.kind)
    ∙ ap (λ l. next_of layout file i d.kind ++ l) (all_nexts layout file ds (i + entry_count d.kind))

pub nexts_are_among : (layout : Layout) (file : ℕ) (r : Result (List Directive) FileFault) → nexts_among layout file (directs_of r) ≡ nexts_of layout file r
nexts_are_among layout file (Ok ds) = all_nexts layout file ds 0
nexts_are_among layout file (Err fault) = refl

---- what becomes of the entries

module _ (names : List (List ℕ)) (layouts : ℕ → Layout) (file : ℕ) (s : Start) (starts : List Start) where
  abbrev led_with : List Entry → Direct → List Entry
  led_with es d = option_map_or (λ (f : Found). led_at d.index f.file es) (direct_found (layouts s.path) (found_so file s) d) es

  -- those of directives that come after others, with one way more
  abbrev Grow : List Entry → List Directive → Type 0
  Grow pre ds = fold led_with (pre ++ entries_in names layouts starts file ds) (directs_from (length pre) ds) ≡ pre ++ entries_in names layouts (s ∷ starts) file ds

  -- an entry that stays
  past : (pre : List Entry) (e : Entry) (ds : List Directive) → Grow (pre ++ e ∷ []) ds
      → fold led_with (pre ++ e ∷ entries_in names layouts starts file ds) (directs_from (length pre + 1) ds) ≡ pre ++ e ∷ entries_in names layouts (s ∷ starts) file ds
  past pre e ds grow =
      let len : length (pre ++ e ∷ []) ≡ length pre + 1 = omega (arith, length-append pre (e ∷ [])) in
      ap (λ (l : List Entry). fold led_with l (directs_from (length pre + 1) ds)) (sym (append_assoc pre (e ∷ []) (entries_in names layouts starts file ds)))
      ∙ ap (λ (n : ℕ). fold led_with ((pre ++ e ∷ []) ++ entries_in names layouts starts file ds) (directs_from n ds)) (sym len)
      ∙ grow
      ∙ append_assoc pre (e ∷ []) (entries_in names layouts (s ∷ starts) file ds)

  -- a direct include directive with this header
  direct_step : (hn : HeaderName) (pre : List Entry) (lead : Lead) (line : ℕ) (o : Option Found) (ds : List Directive) → ((more : List Entry) → Grow more ds)
      → fold led_with
      (option_map_or (λ (f : Found). led_at (length pre) f.file (pre ++ lead_entry lead line hn ∷ entries_in names layouts starts file ds)) o
      (pre ++ lead_entry lead line hn ∷ entries_in names layouts starts file ds)) (directs_from (length pre + 1) ds)
      ≡ pre ++ lead_entry (with_found o lead) line hn ∷ entries_in names layouts (s ∷ starts) file ds
  direct_step hn pre lead line o ds grow =
      ap (λ (l : List Entry). fold led_with l (directs_from (length pre + 1) ds)) (found_seam hn pre lead line (entries_in names layouts starts file ds) o)
      ∙ past pre (lead_entry (with_found o lead) line hn) ds (grow (pre ++ lead_entry (with_found o lead) line hn ∷ []))

  -- no include directive
  skip : (pre : List Entry) (ds : List Directive) → Grow pre ds
      → fold led_with (pre ++ entries_in names layouts starts file ds) (directs_from (length pre + 0) ds) ≡ pre ++ entries_in names layouts (s ∷ starts) file ds
  skip pre ds grow =
      ap (λ (n : ℕ). fold led_with (pre ++ entries_in names layouts starts file ds) (directs_from n ds)) (zero_more (length pre)) ∙ grow
    where
      zero_more : (n : ℕ) → n + 0 ≡ n
      zero_more n = omega arith

  by_kind : (pre : List Entry) (k : LineKind) (line : ℕ) (ds : List Directive) → ((more : List Entry) → Grow more ds) → Grow pre (record { kind = k; line = line } ∷ ds)
  by_kind pre (Include how (Quoted name)) line ds grow =
      direct_step (header_of form.Quoted name) pre (leads layouts starts file (record { kind = Include how (Quoted name); line = line })) line
      (named_place (layouts s.path) (found_so file s) (record { by = how; form = form.Quoted; name = name })) ds grow
  by_kind pre (Include how (Angled name)) line ds grow =
      direct_step (header_of form.Angled name) pre (leads layouts starts file (record { kind = Include how (Angled name); line = line })) line
      (named_place (layouts s.path) (found_so file s) (record { by = how; form = form.Angled; name = name })) ds grow
  by_kind pre (Include how (ByName name)) line ds grow = past pre (name_entry (undefined_place names name) line) ds (grow (pre ++ name_entry (undefined_place names name) line ∷ []))
  by_kind pre (Include how Computed) line ds grow = past pre (entry.Blocker line kind.Computed) ds (grow (pre ++ entry.Blocker line kind.Computed ∷ []))
  by_kind pre (Other Foreign) line ds grow = past pre (entry.Blocker line kind.Foreign) ds (grow (pre ++ entry.Blocker line kind.Foreign ∷ []))
  by_kind pre _ line ds grow = skip pre ds (grow pre)

  grown : (ds : List Directive) (pre : List Entry) → Grow pre ds
  grown [] pre = refl
  grown (d ∷ ds) pre = by_kind pre d.kind d.line ds (λ more. grown ds more)

  -- the same of what is known of the file
  led_all : (es : List Entry) (directs : List Direct) → with_directs (layouts s.path) (found_so file s) (Some (Ok es)) directs ≡ Some (Ok (fold led_with es directs))
  led_all es [] = refl
  led_all es (d ∷ ds) =
      ap (λ x. with_directs (layouts s.path) (found_so file s) x ds) (one (direct_found (layouts s.path) (found_so file s) d))
      ∙ led_all (led_with es d) ds
    where
      one : (o : Option Found) → option_map_or (λ (f : Found). led_state d.index f.file (Some (Ok es))) o (Some (Ok es)) ≡ Some (Ok (option_map_or (λ (f : Found). led_at d.index f.file es) o es))
      one None = refl
      one (Some f) = refl

  -- definitions that come after them stay
  led_before : (ks : List Definition) (d : Direct) (es : List Entry) → led_with (es ++ map definition_entry ks) d ≡ led_with es d ++ map definition_entry ks
  led_before ks d es = one (direct_found (layouts s.path) (found_so file s) d)
    where
      one : (o : Option Found) → option_map_or (λ (f : Found). led_at d.index f.file (es ++ map definition_entry ks)) o (es ++ map definition_entry ks)
          ≡ option_map_or (λ (f : Found). led_at d.index f.file es) o es ++ map definition_entry ks
      one None = refl
      one (Some f) = led_ahead ks f.file es d.index

  all_before : (ks : List Definition) (directs : List Direct) (es : List Entry) → fold led_with (es ++ map definition_entry ks) directs ≡ fold led_with es directs ++ map definition_entry ks
  all_before ks [] es = refl
  all_before ks (d ∷ ds) es = ap (λ (l : List Entry). fold led_with l ds) (led_before ks d es) ∙ all_before ks ds (led_with es d)

  -- a file that is found in a further include path
  pub entries_further : (places : List Definition) (r : Result (List Directive) FileFault)
      → with_directs (layouts s.path) (found_so file s) (Some (entries_of (entry_of names layouts starts file) places r)) (directs_of r) ≡ Some (entries_of (entry_of names layouts (s ∷ starts) file) places r)
  entries_further places (Ok ds) =
      led_all (entries_in names layouts starts file ds ++ map definition_entry places) (directs_from 0 ds)
      ∙ ap (λ (es : List Entry). Some (Ok es)) (all_before places (directs_from 0 ds) (entries_in names layouts starts file ds) ∙ ap (λ (l : List Entry). l ++ map definition_entry places) (grown ds []))
  entries_further places (Err fault) = refl
