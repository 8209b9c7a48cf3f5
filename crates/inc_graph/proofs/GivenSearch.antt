-- The search of the closure over the files that are read on its way, one include path after the other.
use Rattle.std.proofs.Common.{◌≡◌, ◌≢◌, ℕ, suc, ◌+◌, ◌<◌, ◌≤◌, ◌==◌, Bool, true, false, cond, List, [], ◌∷◌, Option, Some, None, Result, Ok, Err, length, get_or, set, replicate, refl, ap, sym, subst, ◌∙◌, arith}
use Rattle.std.specs.Prelude.{Contains, IfSome, slice_get, is_some, map}
use Rattle.std.specs.List.{All}
use Rattle.std.proofs.lemmas.Bool.{eq-eqb, false≢true}
use Rattle.std.proofs.lemmas.List.{get_or-map}
use Rattle.std.proofs.lemmas.List.Elements.{All-nil, All-cons, All-head, All-tail}
use Rattle.std.proofs.lemmas.Option.{slice_get_within, get_or_from_slice_get}
use Rattle.inc_text.specs.declared.devices.ReadFault.{ReadFault}
use Rattle.inc_text.specs.declared.devices.ReadFault.TheVariants.{TooLong, Read}
use Rattle.inc_graph.specs.Members.{is_member}
use Rattle.inc_graph.specs.Settings.{Setting, layout_in, layouts_of}
use Rattle.inc_lookup.specs.Given.{Given, Gave, Agrees, HoldsOfGiven, FailsAfter, IsOnce}
use Rattle.inc_lookup.specs.declared.projects.Found.{Found}
use Rattle.inc_lookup.specs.Projects.{Layout, Listing, layout_of, bytes_at}
use Rattle.inc_lookup.proofs.GivenLemmas.{laid_count, bare_listing, laid_bare, with_bytes, laid_with, agrees_more}
use Rattle.inc_graph.specs.ClosureSearch.{AreStates, AreSeveral, AreGivenSearched, FailsThen, IsSearchOf, IsTaken, file_directs}
use Rattle.inc_graph.specs.Entries.{bytes_entries, bytes_found, entry_alone, file_entries}
use Rattle.inc_graph.specs.GraphLists.{State}
use Rattle.inc_graph.specs.Nexts.{Direct, Next, bytes_directs, bytes_nexts, directs_found, nexts_among, nexts_found, with_directs, with_nexts}
use Rattle.inc_graph.specs.OnePath.{path_sources}
use Rattle.inc_graph.specs.Places.{Reaches}
use Rattle.inc_graph.specs.IncludeGraph.{InClosure, Start, as_source, is_found}
use Rattle.inc_graph.specs.declared.building.GraphRefusal.{GraphRefusal}
use Rattle.inc_graph.specs.declared.building.GraphRefusal.TheVariants.{BadFile, TooManyDirectives, CannotRead, FileTooLong, NoMemory}
use Rattle.inc_graph.specs.declared.building.Source.{Source}
use Rattle.inc_graph.specs.ReadFiles.{IsOfClosure, IsReachedAfter, IsUnread, read_fault_of}
use Rattle.inc_graph.proofs.ClosureLemmas.{IsClosureSearch, start_at, one_more, in_closure, found_in_closure, not_yet, search_from, search_past, search_read, search_again, search_further, again_within, read_several, search_end, none_searched, all_searched, searched_in_closure}
use Rattle.inc_graph.proofs.EntryLemmas.{same_paths}
use Rattle.inc_graph.proofs.SourceLemmas.{path_sources_within}

-- with what was given so far the search is that of each listing that agrees with it, and there is one
pub record IsGivenSearch {S : Type 0} (gives : S → ℕ → Result (List ℕ) ReadFault → S → Type 0) (old new : S) (setting : Setting) (layout : Layout) (sources : List Source) (headers : List ℕ) (path : ℕ) (places : List Found) (states : List State) (directs : List (List Direct)) (nexts : List (Option (List Next))) (taken : ℕ) : Type 0 where
  -- what was read
  pub given : List Given
  -- the sources gave that
  pub gave : Gave gives old given new
  -- a listing that agrees with it
  pub witness : Listing
  -- of the same paths
  pub laid_out : layout_of witness ≡ layout
  -- it has these bytes
  pub agrees : Agrees given witness
  -- in what was taken each file is found in these ways
  pub starts : ℕ → List Start
  -- each file that was read is one of them
  pub read : All (IsTaken starts headers) given
  -- each was read once
  pub once : IsOnce given
  -- the search is that of each such listing
  pub every : (listing : Listing) → layout_of listing ≡ layout → Agrees given listing → IsClosureSearch setting listing sources headers path places states directs nexts taken starts

pub is_none : {X : Type 0} (o : Option X) → is_some o ≡ false → o ≡ None
is_none None e = refl
is_none (Some x) e = absurd (false≢true (sym e))

-- the search of an include path, of whose sources there is a list
pub search_of : {V : Type 0} (items : V → List ℕ) (setting : Setting) (layout : Layout) (sources : List Source) (lists : List V) (path : ℕ) (lookup : Layout) (v : V) (from : List ℕ)
    → path < length lists → length lists ≡ length setting.others + 1 → lookup ≡ layout_in setting.others layout path → v ≡ get_or lists path v → from ≡ items v
    → get_or (map items lists) path [] ≡ path_sources path sources → IsSearchOf setting layout sources path lookup from
search_of items setting layout sources lists path lookup v from low long looked at from_at list = record {
  within = omega (arith, low, long);
  lookup_is = looked;
  from_is = from_at ∙ ap items at ∙ sym (get_or-map items lists path v [] low) ∙ list;
}

-- its sources are files that are there
pub search_within : (setting : Setting) (layout : Layout) (sources : List Source) (path : ℕ) (lookup : Layout) (from : List ℕ) → IsSearchOf setting layout sources path lookup from
    → All (λ (s : Source). s.file < length layout.paths) sources → All (λ f. f < length lookup.paths) from
search_within setting layout sources path lookup from is within =
    let count : length lookup.paths ≡ length layout.paths = ap (λ (l : Layout). length l.paths) is.lookup_is ∙ ap (λ ps. length ps) (same_paths setting.others layout path) in
    subst (λ (fs : List ℕ). All (λ f. f < length lookup.paths) fs) (sym is.from_is)
    (subst (λ (n : ℕ). All (λ f. f < n) (path_sources path sources)) (sym count) (path_sources_within (length layout.paths) path sources within))

pub if_some : {X : Type 0} (o : Option X) (P Q : X → Type 0) → ((x : X) → P x → Q x) → IfSome o P → IfSome o Q
if_some None P Q more h = h
if_some (Some x) P Q more h = more x h

-- for any sources that an include path is searched for, the search is one of files that are given
abbrev pub IsSearch : {S : Type 0} → (S → ℕ → Result (List ℕ) ReadFault → S → Type 0) → (old new : S) → Setting → (headers : List ℕ) → (lookup : Layout) → (from : List ℕ)
    → (old_states : List State) → (old_directs : List (List Direct)) → (places : List Found) → (states : List State) → (directs : List (List Direct)) → (nexts : List (Option (List Next))) → (taken : ℕ) → Type 0
IsSearch {S} gives old new setting headers lookup from old_states old_directs places states directs nexts taken =
    (first : S) (layout : Layout) (sources : List Source) (path : ℕ) → IsSearchOf setting layout sources path lookup from →
    AreGivenSearched gives first old setting layout sources headers path old_states old_directs →
    IsGivenSearch gives first new setting layout sources headers path places states directs nexts taken

module _ {S : Type 0} (gives : S → ℕ → Result (List ℕ) ReadFault → S → Type 0) (setting : Setting) (layout : Layout) (sources : List Source) (headers : List ℕ) where
  -- before the first include path
  pub given_first : (old : S) (n : ℕ) (states : List State) (directs : List (List Direct)) → n ≡ length layout.paths → states ≡ replicate n None → (AreSeveral setting → directs ≡ replicate n [])
      → AreGivenSearched gives old old setting layout sources headers 0 states directs
  given_first old n states directs n_is e d = record {
    given = [];
    gave = refl;
    witness = bare_listing layout;
    laid_out = laid_bare layout;
    agrees = All-nil (λ (g : Given). bytes_at (bare_listing layout) g.file ≡ g.bytes);
    starts = λ f. [];
    read = All-nil (IsTaken (λ f. []) headers);
    once = tt;
    every = λ listing laid agrees. none_searched setting listing sources headers n states directs (n_is ∙ sym (laid_count layout listing laid)) e d;
  }

  -- after the last
  pub given_last : (old new : S) (paths : ℕ) (states : List State) (directs : List (List Direct)) → All (λ (s : Source). s.path < paths) sources → AreGivenSearched gives old new setting layout sources headers paths states directs
      → HoldsOfGiven gives old new layout (λ given listing. AreStates setting listing sources headers states × IsOfClosure setting sources headers given listing)
  given_last old new paths states directs within s = record {
    given = s.given;
    gave = s.gave;
    witness = s.witness;
    laid_out = s.laid_out;
    agrees = s.agrees;
    every = λ listing laid agrees.
        let at = s.every listing laid agrees in (
          all_searched setting listing sources headers paths s.starts states directs within at,
          (
            λ k d low.
                let was = s.read k d low in
                (searched_in_closure setting listing sources headers paths s.starts states directs at _ was.0, was.1),
            s.once,
          ),
        );
  }

  module _ (path : ℕ) (lookup : Layout) (from : List ℕ) (search : IsSearchOf setting layout sources path lookup from) where
    -- this is where the files of a listing are looked for
    looked : (listing : Listing) → layout_of listing ≡ layout → layouts_of setting listing path ≡ lookup
    looked listing laid = ap (λ l. layout_in setting.others l path) laid ∙ sym search.lookup_is

    -- it is one of the same files
    pub lookup_count : length lookup.paths ≡ length layout.paths
    lookup_count = ap (λ (l : Layout). length l.paths) search.lookup_is ∙ ap (λ ps. length ps) (same_paths setting.others layout path)

    -- before the first place
    pub given_from : (old new : S) (m : ℕ) (places : List Found) (states : List State) (directs : List (List Direct)) (nexts : List (Option (List Next))) → AreGivenSearched gives old new setting layout sources headers path states directs
        → m ≡ length lookup.paths → Reaches [] (map as_source from) places → nexts ≡ replicate m None → IsGivenSearch gives old new setting layout sources headers path places states directs nexts 0
    given_from old new m places states directs nexts s m_is r f = record {
      given = s.given;
      gave = s.gave;
      witness = s.witness;
      laid_out = s.laid_out;
      agrees = s.agrees;
      starts = s.starts;
      read = s.read;
      once = s.once;
      every = λ listing laid agrees.
          search_from setting listing sources headers path m places states directs nexts s.starts (s.every listing laid agrees) (m_is ∙ lookup_count ∙ sym (laid_count layout listing laid))
          (subst (λ (fs : List ℕ). Reaches [] (map as_source fs) places) search.from_is r) f;
    }

    module _ (old new : S) (places : List Found) (states : List State) (directs : List (List Direct)) (nexts : List (Option (List Next))) (taken : ℕ) (s : IsGivenSearch gives old new setting layout sources headers path places states directs nexts taken) where
      -- what is known of the search without a listing
      given_search : IsClosureSearch setting s.witness sources headers path places states directs nexts taken s.starts
      given_search = s.every s.witness s.laid_out s.agrees

      pub given_wide : (length states ≡ length lookup.paths) × (length nexts ≡ length lookup.paths)
      given_wide =
          let at = given_search in
          let same = laid_count layout s.witness s.laid_out ∙ sym lookup_count in
          (at.wide ∙ same, at.long ∙ same)

      -- where there are several include paths there is a list for each file
      pub given_kept : AreSeveral setting → length directs ≡ length lookup.paths
      given_kept several = (given_search.held several).long ∙ laid_count layout s.witness s.laid_out ∙ sym lookup_count

      -- a file is found in one way more
      found_still : (at : Found) (f : ℕ) → is_found (s.starts f) ≡ true → is_found (one_more path at s.starts f) ≡ true
      found_still at f is = put (f == at.file) where
        put : (b : Bool) → is_found (cond b (start_at path at ∷ s.starts f) (s.starts f)) ≡ true
        put true = refl
        put false = is

      read_still : (at : Found) → All (IsTaken (one_more path at s.starts) headers) s.given
      read_still at = λ k d low. let was = s.read k d low in (found_still at _ was.0, was.1)

      -- a header is passed over
      pub given_past : (at : Found) → slice_get places taken ≡ Some at → is_member at.file headers ≡ true → IsGivenSearch gives old new setting layout sources headers path places states directs nexts (taken + 1)
      given_past at here e = record {
        given = s.given;
        gave = s.gave;
        witness = s.witness;
        laid_out = s.laid_out;
        agrees = s.agrees;
        starts = one_more path at s.starts;
        read = read_still at;
        once = s.once;
        every = λ listing laid agrees. search_past setting listing sources headers path places states directs nexts taken s.starts (s.every listing laid agrees) at here e;
      }

      -- a file that was taken is found in another way
      pub given_again : (t : List Found) (after : List State) (at : Found) (l : List Next) → slice_get places taken ≡ Some at → is_member at.file headers ≡ false → at.file < length lookup.paths
          → get_or nexts at.file None ≡ Some l → Reaches places (nexts_found at.next l) t
          → after ≡ set states at.file (with_nexts at.next (get_or states at.file None) l)
          → IsGivenSearch gives old new setting layout sources headers path t after directs nexts (taken + 1)
      given_again t after at l here ne low is r e = record {
        given = s.given;
        gave = s.gave;
        witness = s.witness;
        laid_out = s.laid_out;
        agrees = s.agrees;
        starts = one_more path at s.starts;
        read = read_still at;
        once = s.once;
        every = λ listing laid agrees.
            let same = laid_count layout listing laid in
            subst (λ (x : List State). IsClosureSearch setting listing sources headers path t x directs nexts (taken + 1) (one_more path at s.starts))
            (sym e)
            (search_again setting listing sources headers path places states directs nexts taken s.starts (s.every listing laid agrees) at here t l is r ne (omega (arith, same, low, lookup_count)));
      }

      -- what its #include_next directives find are files of the project
      pub given_found : (at : Found) (l : List Next) → slice_get places taken ≡ Some at → is_member at.file headers ≡ false → get_or nexts at.file None ≡ Some l
          → All (λ (f : Found). f.file < length lookup.paths) (nexts_found at.next l)
      given_found at l here ne is =
          subst (λ (x : Layout). All (λ (f : Found). f.file < length x.paths) (nexts_found at.next l)) (looked s.witness s.laid_out)
          (again_within setting s.witness sources headers path places states directs nexts taken s.starts given_search at here l ne is)

      -- its direct include directives are kept where it is read and was not taken
      pub given_listed : (at : Found) → slice_get places taken ≡ Some at → is_member at.file headers ≡ false → at.file < length lookup.paths → get_or nexts at.file None ≡ None → is_some (get_or states at.file None) ≡ true
          → at.file < length directs
      given_listed at here ne low none is =
          let several = read_several setting s.witness sources headers path places states directs nexts taken s.starts given_search at here search.within ne none is in
          let long = given_kept several in
          omega arith

      -- a file that is read is found in a further include path
      pub given_further : (t : List Found) (after : List State) (lists : List (Option (List Next))) (at : Found) (own : List Next) → slice_get places taken ≡ Some at → is_member at.file headers ≡ false → at.file < length lookup.paths
          → get_or nexts at.file None ≡ None → is_some (get_or states at.file None) ≡ true → Reaches places (directs_found lookup at (get_or directs at.file [])) t
          → after ≡ set states at.file (with_directs lookup at (get_or states at.file None) (get_or directs at.file []))
          → own ≡ nexts_among lookup at.file (get_or directs at.file []) → lists ≡ set nexts at.file (Some own)
          → IsGivenSearch gives old new setting layout sources headers path t after directs lists (taken + 1)
      given_further t after lists at own here ne low none is r e own_is f = record {
        given = s.given;
        gave = s.gave;
        witness = s.witness;
        laid_out = s.laid_out;
        agrees = s.agrees;
        starts = one_more path at s.starts;
        read = read_still at;
        once = s.once;
        every = λ listing laid agrees.
            let same = laid_count layout listing laid in
            let at_lookup = sym (looked listing laid) in
            let ds : List Direct = get_or directs at.file [] in
            let found = subst (λ (x : Layout). Reaches places (directs_found x at ds) t) at_lookup r in
            let own_here : own ≡ nexts_among (layouts_of setting listing path) at.file ds = own_is ∙ ap (λ (x : Layout). nexts_among x at.file ds) at_lookup in
            let state : set states at.file (with_directs (layouts_of setting listing path) at (get_or states at.file None) ds) ≡ after =
            ap (λ (x : Layout). set states at.file (with_directs x at (get_or states at.file None) ds)) (looked listing laid) ∙ sym e in
            let further = search_further setting listing sources headers path places states directs nexts taken s.starts (s.every listing laid agrees) at here t own search.within none is ne (omega (arith, same, low, lookup_count)) found own_here in
            subst (λ (x : List State). IsClosureSearch setting listing sources headers path t x directs lists (taken + 1) (one_more path at s.starts)) state
            (subst (λ (x : List (Option (List Next))). IsClosureSearch setting listing sources headers path t (set states at.file (with_directs (layouts_of setting listing path) at (get_or states at.file None) ds)) directs x (taken + 1) (one_more path at s.starts))
            (sym f) further);
      }

      -- nothing of this file was given before
      unread : (at : Found) → slice_get places taken ≡ Some at → is_member at.file headers ≡ false → get_or states at.file None ≡ None → All (λ (x : Given). x.file ≢ at.file) s.given
      unread at here ne none = λ k d l q.
          let was = s.read k d l in
          let new_one = not_yet setting s.witness sources headers path places states directs nexts taken s.starts given_search at here ne none in
          false≢true (sym (ap is_found new_one) ∙ ap (λ (f : ℕ). is_found (s.starts f)) (sym q) ∙ was.0)

      -- only files of the closure were read
      of_closure : (listing : Listing) → IsClosureSearch setting listing sources headers path places states directs nexts taken s.starts → IsOfClosure setting sources headers s.given listing
      of_closure listing at = (
        λ k d low.
            let was = s.read k d low in
            (found_in_closure setting listing sources headers path places states directs nexts taken s.starts at _ was.0, was.1),
        s.once,
      )

      -- a file is read
      pub given_read : (later : S) (t : List Found) (after : List State) (kept : List (List Direct)) (lists : List (Option (List Next))) (at : Found) (bytes : List ℕ)
          → slice_get places taken ≡ Some at → is_member at.file headers ≡ false → at.file < length lookup.paths → get_or states at.file None ≡ None → gives new at.file (Ok bytes) later
          → Reaches places (bytes_found setting lookup at bytes) t → after ≡ set states at.file (Some (bytes_entries setting (entry_alone setting.undefined lookup at) at.file bytes))
          → (AreSeveral setting → kept ≡ set directs at.file (bytes_directs setting at.file bytes)) → lists ≡ set nexts at.file (Some (bytes_nexts setting lookup at.file bytes))
          → IsGivenSearch gives old later setting layout sources headers path t after kept lists (taken + 1)
      given_read later t after kept lists at bytes here ne low none step r e d f =
          let g : Given = record { file = at.file; bytes = bytes } in
          record {
            given = g ∷ s.given;
            gave = (new, s.gave, step);
            witness = with_bytes s.witness at.file bytes;
            laid_out = laid_with layout s.witness at.file bytes s.laid_out;
            agrees = agrees_more s.witness s.given at.file bytes (omega (arith, laid_count layout s.witness s.laid_out, low, lookup_count)) (unread at here ne none) s.agrees;
            starts = one_more path at s.starts;
            read = All-cons (IsTaken (one_more path at s.starts) headers) g s.given (ap (λ (b : Bool). is_found (cond b (start_at path at ∷ s.starts at.file) (s.starts at.file))) (eq-eqb at.file at.file refl), ne) (read_still at);
            once = (unread at here ne none, s.once);
            every = λ listing laid agrees.
                let P : Given → Type 0 = λ x. bytes_at listing x.file ≡ x.bytes in
                let own : bytes_at listing at.file ≡ bytes = All-head P g s.given agrees in
                let same = laid_count layout listing laid in
                let at_lookup = looked listing laid in
                let was = s.every listing laid (All-tail P g s.given agrees) in
                let state : Some (file_entries setting listing (start_at path at ∷ []) at.file) ≡ Some (bytes_entries setting (entry_alone setting.undefined lookup at) at.file bytes) =
                ap (λ bs. Some (bytes_entries setting (entry_alone setting.undefined (layouts_of setting listing path) at) at.file bs)) own
                ∙ ap (λ l. Some (bytes_entries setting (entry_alone setting.undefined l at) at.file bytes)) at_lookup in
                let found : Reaches places (bytes_found setting (layouts_of setting listing path) at (bytes_at listing at.file)) t =
                subst (λ l. Reaches places (bytes_found setting l at (bytes_at listing at.file)) t) (sym at_lookup) (subst (λ bs. Reaches places (bytes_found setting lookup at bs) t) (sym own) r) in
                let kept_is : AreSeveral setting → kept ≡ set directs at.file (file_directs setting listing at.file) =
                λ several. d several ∙ ap (λ bs. set directs at.file (bytes_directs setting at.file bs)) (sym own) in
                let read = search_read setting listing sources headers path places states directs nexts taken s.starts was at here t kept found ne (omega (arith, same, low, lookup_count)) none kept_is in
                subst (λ (l : List State). IsClosureSearch setting listing sources headers path t l kept lists (taken + 1) (one_more path at s.starts)) (ap (set states at.file) state ∙ sym e)
                (subst (λ (l : List (Option (List Next))). IsClosureSearch setting listing sources headers path t (set states at.file (Some (file_entries setting listing (start_at path at ∷ []) at.file))) kept l (taken + 1) (one_more path at s.starts))
                (ap (λ bs. set nexts at.file (Some (bytes_nexts setting (layouts_of setting listing path) at.file bs))) own ∙ ap (λ l. set nexts at.file (Some (bytes_nexts setting l at.file bytes))) at_lookup ∙ sym f) read);
          }

      -- a reading fails
      given_fails : (later : S) (at : Found) (file : ℕ) (fault : ReadFault) → slice_get places taken ≡ Some at → is_member at.file headers ≡ false → get_or states at.file None ≡ None
          → file ≡ at.file → gives new file (Err fault) later → FailsAfter gives old later layout file fault (IsReachedAfter setting sources headers file)
      given_fails later at file fault here ne none is step = record {
        state = new;
        before = record {
          given = s.given;
          gave = s.gave;
          witness = s.witness;
          laid_out = s.laid_out;
          agrees = s.agrees;
          every = λ listing laid agrees.
              let now = s.every listing laid agrees in
              let inside : InClosure setting listing sources headers at.file =
              in_closure setting listing sources headers path places states directs nexts taken s.starts now at (taken, slice_get_within places taken at here, get_or_from_slice_get places taken at at here) in (
                of_closure listing now,
                subst (InClosure setting listing sources headers) (sym is) inside,
                ap (λ (x : ℕ). is_member x headers) is ∙ ne,
                subst (λ (x : ℕ). All (λ (g : Given). g.file ≢ x) s.given) (sym is) (unread at here ne none),
              );
        };
        failed = step;
      }

      -- all places are taken
      pub given_end : length places ≤ taken → AreGivenSearched gives old new setting layout sources headers (suc path) states directs
      given_end h = record {
        given = s.given;
        gave = s.gave;
        witness = s.witness;
        laid_out = s.laid_out;
        agrees = s.agrees;
        starts = s.starts;
        read = s.read;
        once = s.once;
        every = λ listing laid agrees. search_end setting listing sources headers path places states directs nexts taken s.starts (s.every listing laid agrees) h;
      }

    -- no source is read with it
    pub given_unsearched : (old new : S) (states : List State) (directs : List (List Direct)) → from ≡ [] → AreGivenSearched gives old new setting layout sources headers path states directs
        → AreGivenSearched gives old new setting layout sources headers (suc path) states directs
    given_unsearched old new states directs none s =
        let nexts : List (Option (List Next)) = replicate (length lookup.paths) None in
        let reaches : Reaches [] (map as_source from) [] = record { more = []; grown = refl; from = λ at c. absurd (omega (arith, c.1)); there = λ at c. subst (λ (fs : List ℕ). Contains (map as_source fs) at → Contains [] at) (sym none) (λ d. d) c } in
        given_end old new [] states directs nexts 0 (given_from old new (length lookup.paths) [] states directs nexts s refl reaches refl) (omega arith)

-- a reading fails, for any sources
pub search_refused : {S : Type 0} (gives : S → ℕ → Result (List ℕ) ReadFault → S → Type 0) (old new : S) (setting : Setting) (headers : List ℕ) (lookup : Layout) (from : List ℕ) (old_states : List State) (old_directs : List (List Direct))
    (places : List Found) (states : List State) (directs : List (List Direct)) (nexts : List (Option (List Next))) (taken : ℕ) → IsSearch gives old new setting headers lookup from old_states old_directs places states directs nexts taken
    → (later : S) (at : Found) (fault : GraphRefusal) → slice_get places taken ≡ Some at → is_member at.file headers ≡ false → get_or states at.file None ≡ None → IsUnread gives new later at.file fault
    → IfSome (read_fault_of fault) (λ (x : ℕ × ReadFault). FailsThen gives old later setting headers lookup from old_states old_directs x.0 x.1)
search_refused gives old new setting headers lookup from old_states old_directs places states directs nexts taken search later at (CannotRead f) here ne none step = λ first layout sources path is before.
    given_fails gives setting layout sources headers path lookup from is first new places states directs nexts taken (search first layout sources path is before) later at f Read here ne none step.0 step.1
search_refused gives old new setting headers lookup from old_states old_directs places states directs nexts taken search later at (FileTooLong f) here ne none step = λ first layout sources path is before.
    given_fails gives setting layout sources headers path lookup from is first new places states directs nexts taken (search first layout sources path is before) later at f TooLong here ne none step.0 step.1
search_refused gives old new setting headers lookup from old_states old_directs places states directs nexts taken search later at (BadFile f line) here ne none step = tt
search_refused gives old new setting headers lookup from old_states old_directs places states directs nexts taken search later at TooManyDirectives here ne none step = tt
search_refused gives old new setting headers lookup from old_states old_directs places states directs nexts taken search later at NoMemory here ne none step = tt
