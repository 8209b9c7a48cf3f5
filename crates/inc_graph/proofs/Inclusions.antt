-- Only directives that include are entries: what a file's other directives are makes no difference.
use Rattle.std.proofs.Common.{◌≡◌, ℕ, Bool, true, false, List, [], ◌∷◌, ◌++◌, ◌+◌, Option, Some, None, Result, Ok, Err, refl, sym, ap, subst, ◌∙◌, arith}
use Rattle.std.specs.Prelude.{filter, filter_map, map, option_and_then, if◌then◌else◌}
use Rattle.inc_text.specs.PhaseText.{Cell, phase_text}
use Rattle.inc_directive.specs.FileDirectives.{Directive, file_directives}
use Rattle.inc_directive.specs.LineKinds.{LineKind, Include, Other, Text}
use Rattle.inc_directive.specs.declared.kinds.DirectiveKind.TheVariants.{Foreign}
use Rattle.inc_directive.specs.Removal.{is_removable, stays, without}
use Rattle.inc_directive.specs.Parts.{is_inclusion}
use Rattle.inc_lookup.specs.DirectiveLists.{is_listed}
use Rattle.inc_lookup.specs.Projects.{Layout}
use Rattle.inc_graph.specs.FileEntries.{Definition, Entry, definition_entry}
use Rattle.inc_graph.specs.declared.building.entries.Entry.TheVariants as entry
use Rattle.inc_lookup.specs.declared.projects.Found.{Found}
use Rattle.inc_graph.specs.IncludeGraph.{Lead, direct_header, named_place, found_by, entry_at, text_definitions, text_directives}
use Rattle.inc_graph.specs.Entries.{entries_of, entry_alone, found_lead, bytes_entries, directives_found, bytes_found}
use Rattle.inc_graph.specs.Nexts.{Direct, Next, bytes_directs, direct_at, directs_from, directs_of, next_of, entry_count, nexts_from, nexts_of, bytes_nexts}
use Rattle.inc_graph.specs.Places.{Reaches}
use Rattle.inc_directive.specs.declared.files.FileFault.{FileFault}
use Rattle.inc_graph.specs.Settings.{Setting}
use Rattle.inc_graph.proofs.PlaceLemmas.{reaches_none}

no_entry : (names : List (List ℕ)) (lead : Lead) (k : LineKind) (line : ℕ) → is_removable k ≡ false → entry_at names lead k line ≡ None
no_entry names lead (Include by target) line e = cc
no_entry names lead (Other Foreign) line e = cc
no_entry names lead _ line e = refl

no_found : (layout : Layout) (at : Found) (k : LineKind) → is_removable k ≡ false → option_and_then (named_place layout at) (direct_header k) ≡ None
no_found layout at (Include by target) e = cc
no_found layout at (Other what) e = refl
no_found layout at Text e = refl

no_next : (layout : Layout) (file i : ℕ) (k : LineKind) → is_removable k ≡ false → (next_of layout file i k ≡ []) × (entry_count k ≡ 0)
no_next layout file i (Include by target) e = cc
no_next layout file i (Other Foreign) e = cc
no_next layout file i _ e = (refl, refl)

-- one directive more, by whether it includes, whether it is removed, and what it is
one_more : {X : Type 0} (f : Directive → Option X) (stays : Directive → Bool) (d : Directive) (included all : List Directive) (includes : Bool)
    → is_inclusion d ≡ includes → (includes ≡ false → f d ≡ None) → filter_map f (filter stays included) ≡ filter_map f (filter stays all)
    → filter_map f (filter stays (if includes then d ∷ included else included)) ≡ filter_map f (filter stays (d ∷ all))
one_more f stays d included all true e nothing same = kept (stays d)
  where
    kept : (s : Bool) → filter_map f (if s then d ∷ filter stays included else filter stays included) ≡ filter_map f (if s then d ∷ filter stays all else filter stays all)
    kept true = rw same refl
    kept false = same
one_more f stays d included all false e nothing same = left_out (stays d)
  where
    left_out : (s : Bool) → filter_map f (filter stays included) ≡ filter_map f (if s then d ∷ filter stays all else filter stays all)
    left_out true = rw (nothing refl) same
    left_out false = same

alone : {X : Type 0} (f : Directive → Option X) → ((d : Directive) → is_inclusion d ≡ false → f d ≡ None) → (stays : Directive → Bool) (ds : List Directive)
    → filter_map f (filter stays (filter is_inclusion ds)) ≡ filter_map f (filter stays ds)
alone f none stays [] = refl
alone f none stays (d ∷ ds) = one_more f stays d (filter is_inclusion ds) ds (is_inclusion d) refl (none d) (alone f none stays ds)

zero_more : (n : ℕ) → n + 0 ≡ n
zero_more n = omega arith

one_next : (layout : Layout) (file : ℕ) (stays : Directive → Bool) (d : Directive) (ds included : List Directive) (i : ℕ) (includes : Bool) → is_inclusion d ≡ includes
    → ((j : ℕ) → nexts_from layout file j (filter stays included) ≡ nexts_from layout file j (filter stays ds))
    → nexts_from layout file i (filter stays (if includes then d ∷ included else included)) ≡ nexts_from layout file i (filter stays (d ∷ ds))
one_next layout file stays d ds included i true e same = by_stay (stays d)
  where
    by_stay : (s : Bool) → nexts_from layout file i (if s then d ∷ filter stays included else filter stays included) ≡ nexts_from layout file i (if s then d ∷ filter stays ds else filter stays ds)
    by_stay true = ap (λ (l : List Next). next_of layout file i d.kind ++ l) (same (i + entry_count d.kind))
    by_stay false = same i
one_next layout file stays d ds included i false e same = by_stay (stays d)
  where
    by_stay : (s : Bool) → nexts_from layout file i (filter stays included) ≡ nexts_from layout file i (if s then d ∷ filter stays ds else filter stays ds)
    by_stay true =
        let none = no_next layout file i d.kind e in
        same i
        ∙ ap (λ (n : ℕ). nexts_from layout file n (filter stays ds)) (sym (ap (λ (n : ℕ). i + n) none.1 ∙ zero_more i))
        ∙ ap (λ (l : List Next). l ++ nexts_from layout file (i + entry_count d.kind) (filter stays ds)) (sym none.0)
    by_stay false = same i

nexts_alone : (layout : Layout) (file : ℕ) (stays : Directive → Bool) (ds : List Directive) (i : ℕ) → nexts_from layout file i (filter stays (filter is_inclusion ds)) ≡ nexts_from layout file i (filter stays ds)
nexts_alone layout file stays [] i = refl
nexts_alone layout file stays (d ∷ ds) i = one_next layout file stays d ds (filter is_inclusion ds) i (is_inclusion d) refl (λ j. nexts_alone layout file stays ds j)

module _ (setting : Setting) (layout : Layout) (at : Found) (bytes : List ℕ) (text : List Cell) (ds : List Directive) (spliced : text ≡ phase_text setting.language bytes)
    (found : file_directives setting.language text ≡ Ok ds) where
  read : text_directives setting at.file (phase_text setting.language bytes) ≡ Ok (filter (stays (is_listed setting.removed at.file)) ds)
  read = ap (λ r. without (is_listed setting.removed at.file) r) (ap (file_directives setting.language) (sym spliced) ∙ found)

  -- what is kept of a file, by its directives that include
  pub entries_read : (es : List Entry) (places : List Definition) → es ≡ filter_map (entry_alone setting.undefined layout at) (filter (stays (is_listed setting.removed at.file)) (filter is_inclusion ds))
      → places ≡ text_definitions setting (phase_text setting.language bytes) → bytes_entries setting (entry_alone setting.undefined layout at) at.file bytes ≡ Ok (es ++ map definition_entry places)
  entries_read es places kept defined =
      ap (entries_of (entry_alone setting.undefined layout at) (text_definitions setting (phase_text setting.language bytes))) read
      ∙ ap (λ (ks : List Definition). Ok (filter_map (entry_alone setting.undefined layout at) (filter (stays (is_listed setting.removed at.file)) ds) ++ map definition_entry ks)) (sym defined)
      ∙ ap (λ (l : List Entry). Ok (l ++ map definition_entry places)) (sym (kept ∙ alone (entry_alone setting.undefined layout at) (λ d e. no_entry setting.undefined (found_lead (found_by layout at d)) d.kind d.line e) (stays (is_listed setting.removed at.file)) ds))

  -- what they find
  pub found_read : (old new : List Found) → Reaches old (filter_map (found_by layout at) (filter (stays (is_listed setting.removed at.file)) (filter is_inclusion ds))) new
      → Reaches old (bytes_found setting layout at bytes) new
  found_read old new r =
      subst (λ (l : List Found). Reaches old l new)
      (alone (found_by layout at) (λ d e. no_found layout at d.kind e) (stays (is_listed setting.removed at.file)) ds ∙ sym (ap (directives_found layout at) read)) r

  -- those that are #include_next
  pub nexts_read : (ns : List Next) → ns ≡ nexts_from layout at.file 0 (filter (stays (is_listed setting.removed at.file)) (filter is_inclusion ds)) → ns ≡ bytes_nexts setting layout at.file bytes
  nexts_read ns kept = kept ∙ nexts_alone layout at.file (stays (is_listed setting.removed at.file)) ds 0 ∙ sym (ap (nexts_of layout at.file) read)

---- direct include directives

no_direct : (i : ℕ) (k : LineKind) → is_removable k ≡ false → (direct_at i k ≡ []) × (entry_count k ≡ 0)
no_direct i (Include by target) e = cc
no_direct i (Other Foreign) e = cc
no_direct i _ e = (refl, refl)

one_direct : (stays : Directive → Bool) (d : Directive) (ds included : List Directive) (i : ℕ) (includes : Bool) → is_inclusion d ≡ includes
    → ((j : ℕ) → directs_from j (filter stays included) ≡ directs_from j (filter stays ds))
    → directs_from i (filter stays (if includes then d ∷ included else included)) ≡ directs_from i (filter stays (d ∷ ds))
one_direct stays d ds included i true e same = by_stay (stays d)
  where
    by_stay : (s : Bool) → directs_from i (if s then d ∷ filter stays included else filter stays included) ≡ directs_from i (if s then d ∷ filter stays ds else filter stays ds)
    by_stay true = ap (λ (l : List Direct). direct_at i d.kind ++ l) (same (i + entry_count d.kind))
    by_stay false = same i
one_direct stays d ds included i false e same = by_stay (stays d)
  where
    by_stay : (s : Bool) → directs_from i (filter stays included) ≡ directs_from i (if s then d ∷ filter stays ds else filter stays ds)
    by_stay true =
        let none = no_direct i d.kind e in
        same i
        ∙ ap (λ (n : ℕ). directs_from n (filter stays ds)) (sym (ap (λ (n : ℕ). i + n) none.1 ∙ zero_more i))
        ∙ ap (λ (l : List Direct). l ++ directs_from (i + entry_count d.kind) (filter stays ds)) (sym none.0)
    by_stay false = same i

directs_alone : (stays : Directive → Bool) (ds : List Directive) (i : ℕ) → directs_from i (filter stays (filter is_inclusion ds)) ≡ directs_from i (filter stays ds)
directs_alone stays [] i = refl
directs_alone stays (d ∷ ds) i = one_direct stays d ds (filter is_inclusion ds) i (is_inclusion d) refl (λ j. directs_alone stays ds j)

pub directs_read : (setting : Setting) (file : ℕ) (bytes : List ℕ) (text : List Cell) (ds : List Directive) → text ≡ phase_text setting.language bytes → file_directives setting.language text ≡ Ok ds
    → (directs : List Direct) → directs ≡ directs_from 0 (filter (stays (is_listed setting.removed file)) (filter is_inclusion ds)) → directs ≡ bytes_directs setting file bytes
directs_read setting file bytes text ds spliced found directs kept =
    kept ∙ directs_alone (stays (is_listed setting.removed file)) ds 0
    ∙ sym (ap directs_of (ap (λ r. without (is_listed setting.removed file) r) (ap (file_directives setting.language) (sym spliced) ∙ found)))

---- a bad file

-- a bad file finds nothing
bad_finds : (what : Directive → Option Entry) (layout : Layout) (at : Found) (places : List Definition) (r : Result (List Directive) FileFault) (bad : FileFault) → Some (Err bad) ≡ Some (entries_of what places r)
    → (directives_found layout at r ≡ []) × (directs_of r ≡ [])
bad_finds what layout at places (Ok ds) bad is = cc
bad_finds what layout at places (Err fault) bad is = (refl, refl)

pub bad_read : (setting : Setting) (what : Directive → Option Entry) (layout : Layout) (at : Found) (bytes : List ℕ) (bad : FileFault) (old : List Found)
    → Some (Err bad) ≡ Some (bytes_entries setting what at.file bytes) → Reaches old (bytes_found setting layout at bytes) old
bad_read setting what layout at bytes bad old is =
    subst (λ (l : List Found). Reaches old l old) (sym (bad_finds what layout at (text_definitions setting (phase_text setting.language bytes)) (text_directives setting at.file (phase_text setting.language bytes)) bad is).0) (reaches_none old)

-- and has no direct include directive
pub bad_directs : (setting : Setting) (what : Directive → Option Entry) (layout : Layout) (at : Found) (bytes : List ℕ) (bad : FileFault)
    → Some (Err bad) ≡ Some (bytes_entries setting what at.file bytes) → bytes_directs setting at.file bytes ≡ []
bad_directs setting what layout at bytes bad is =
    (bad_finds what layout at (text_definitions setting (phase_text setting.language bytes)) (text_directives setting at.file (phase_text setting.language bytes)) bad is).1
