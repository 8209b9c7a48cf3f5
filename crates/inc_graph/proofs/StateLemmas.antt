-- What is known of each file, by the places of the records.
use Rattle.std.proofs.Common.{◌≡◌, ◌≢◌, ℕ, zero, suc, ◌<◌, List, [], ◌∷◌, ◌++◌, Option, Some, None, length, get_or, set, replicate, inl, inr, refl, sym, ap, ◌∙◌, arith, get_or-set_same, get_or-set_other, length-set, length-append}
use Rattle.std.specs.Prelude.{◌≤◌, Vec, map, option_map, slice_get, slice_index_or}
use Rattle.std.specs.Global.{Global}
use Rattle.std.specs.List.{All}
use Rattle.std.proofs.lemmas.Bool.{cases_eq}
use Rattle.std.proofs.lemmas.List.{get_or_append_left, get_or_push, get_or-map, get_or_default, set-get_or, map-set, length-map}
use Rattle.std.proofs.lemmas.List.Elements.{All-head, All-tail}
use Rattle.std.proofs.lemmas.List.FromFn.{fill_by_all}
use Rattle.std.proofs.lemmas.Option.{get_or_from_slice_get}
use Rattle.inc_graph.specs.FileEntries.{Entry}
use Rattle.inc_graph.specs.declared.building.file_entries.FileState.{FileState}
use Rattle.inc_graph.specs.declared.building.file_entries.FileState.TheVariants.{Unread, Read, Bad}
use Rattle.inc_graph.specs.Entries.{seen_state, states_at, AreRecords}
use Rattle.inc_graph.specs.GraphLists.{State}
use Rattle.inc_graph.specs.Nexts.{Direct, Next, kept_at, list_at, lists_at, led_state}
use Rattle.inc_graph.proofs.Lists.{push_last}

none_read : (count : ℕ) → states_at (Unread ∷ []) (replicate count 0) ≡ replicate count None
none_read zero = refl
none_read (suc count) = ap (◌∷◌ None) (none_read count)

-- of files that share the record of those that are not read
pub unread_states : (count : ℕ) (records : List FileState) (places : List ℕ) → records ≡ Unread ∷ [] → places ≡ replicate count 0 → states_at records places ≡ replicate count None
unread_states count records places one none = rw (one, none) (none_read count)

-- a further record changes nothing of what is known
same_states : (records more : List FileState) (places : List ℕ) → All (λ k. k < length records) places → states_at (records ++ more) places ≡ states_at records places
same_states records more [] within = refl
same_states records more (k ∷ ks) within =
    rw (get_or_append_left records more Unread k (All-head (λ k. k < length records) k ks within))
    (ap (λ ss. seen_state (slice_index_or records k Unread) ∷ ss) (same_states records more ks (All-tail (λ k. k < length records) k ks within)))

-- a file takes the record that was added
pub states_set : (records after : List FileState) (state : FileState) (places : List ℕ) (file at place : ℕ) → after ≡ records ++ state ∷ [] → AreRecords records places → place ≡ length records → at ≡ file
    → states_at after (set places at place) ≡ set (states_at records places) file (seen_state state)
states_set records after state places file at place more kept last same =
    rw (more, same) (
    map-set (λ k. seen_state (slice_index_or (records ++ state ∷ []) k Unread)) places file place
    ∙ ap (λ ss. set ss file (seen_state (slice_index_or (records ++ state ∷ []) place Unread))) (same_states records (state ∷ []) places kept.within)
    ∙ ap (λ s. set (states_at records places) file (seen_state s)) (get_or_push records state Unread place (rw last refl)))

---- a file that is read, of which something else is known

-- what is known of a file, by its record
own_state : (records : List FileState) (places : List ℕ) (file k : ℕ) (state : FileState) → file < length places → k ≡ get_or places file k → k < length records → state ≡ get_or records k state
    → get_or (states_at records places) file None ≡ seen_state state
own_state records places file k state low is within at =
    get_or-map (λ (j : ℕ). seen_state (slice_index_or records j Unread)) places file k None low
    ∙ ap (λ (j : ℕ). seen_state (get_or records j Unread)) (sym is)
    ∙ ap seen_state (get_or_default records k Unread state within ∙ sym at)

pub states_long : (records : List FileState) (places : List ℕ) (ss : List State) → states_at records places ≡ ss → length ss ≡ length places
states_long records places ss view = ap (λ (l : List State). length l) (sym view) ∙ length-map places (λ (k : ℕ). seen_state (slice_index_or records k Unread))

pub record_within : (records : List FileState) (places : List ℕ) → AreRecords records places → (file k : ℕ) → file < length places → k ≡ get_or places file k → k < length records
record_within records places kept file k low is = let within = kept.within file k low in omega (arith, within, is)

pub unread_not_read : (state : FileState) (entries : List Entry) → state ≡ Read entries → state ≡ Unread → ⊥
unread_not_read state entries read none = cc

-- nothing changes
pub led_same : (records : List FileState) (places : List ℕ) (ss : List State) (file k index to : ℕ) (state : FileState) → states_at records places ≡ ss → file < length places → k ≡ get_or places file k → k < length records
    → state ≡ get_or records k state → led_state index to (seen_state state) ≡ seen_state state → states_at (set records k state) places ≡ set ss file (led_state index to (get_or ss file None))
led_same records places ss file k index to state view low is within at same =
    let own : get_or ss file None ≡ seen_state state = ap (λ (l : List State). get_or l file None) (sym view) ∙ own_state records places file k state low is within at in
    ap (λ (l : List FileState). states_at l places) (ap (set records k) at ∙ set-get_or records k state)
    ∙ view
    ∙ sym (ap (set ss file) (ap (led_state index to) own ∙ same ∙ sym own) ∙ set-get_or ss file None)

module _ (records : List FileState) (places : List ℕ) (kept : AreRecords records places) (file k : ℕ) (state after : FileState) (low : file < length places) (is : k ≡ get_or places file k) (within : k < length records)
    (at : state ≡ get_or records k state) (read : state ≡ Unread → ⊥) where
  -- no other file has its record
  apart : (g : ℕ) → g < length places → g ≢ file → get_or places g k ≡ k → ⊥
  apart g less differ same =
      let own : get_or places file 0 ≡ k = get_or_default places file 0 k low ∙ sym is in
      let other : get_or places g 0 ≡ k = get_or_default places g 0 k less ∙ same in
      let none : k ≡ 0 = sym own ∙ kept.apart file g low less (own ∙ sym other) (λ e. differ (sym e)) in
      read (at ∙ ap (λ (j : ℕ). get_or records j state) none ∙ get_or_from_slice_get records 0 Unread state kept.unread)

  state_by : (g : ℕ) → g < length places → (places_is : get_or (states_at (set records k after) places) g None ≡ seen_state (get_or (set records k after) (get_or places g k) Unread))
      → get_or (states_at (set records k after) places) g None ≡ get_or (set (states_at records places) file (seen_state after)) g None
  state_by g less places_is =
      elim (cases_eq g file) [
        | inl same ↦
            places_is
            ∙ ap (λ (j : ℕ). seen_state (get_or (set records k after) j Unread)) (ap (λ (f : ℕ). get_or places f k) same ∙ sym is)
            ∙ ap seen_state (get_or-set_same records k after Unread within)
            ∙ sym (ap (λ (f : ℕ). get_or (set (states_at records places) file (seen_state after)) f None) same
            ∙ get_or-set_same (states_at records places) file (seen_state after) None (omega (arith, low, length-map places (λ (j : ℕ). seen_state (slice_index_or records j Unread)))))
        | inr differ ↦
            places_is
            ∙ ap seen_state (get_or-set_other records k (get_or places g k) after Unread (λ e. apart g less differ e))
            ∙ sym (get_or-set_other (states_at records places) file g (seen_state after) None differ ∙ get_or-map (λ (j : ℕ). seen_state (slice_index_or records j Unread)) places g k None less)
      ]

  pub states_led : states_at (set records k after) places ≡ set (states_at records places) file (seen_state after)
  states_led =
      let n = length places in
      let x : List State = states_at (set records k after) places in
      let y : List State = set (states_at records places) file (seen_state after) in
      let f : ℕ → State = λ g. get_or y g None in
      let x_long : length x ≡ n = length-map places (λ (j : ℕ). seen_state (slice_index_or (set records k after) j Unread)) in
      let y_long : length y ≡ n = length-set (states_at records places) file (seen_state after) ∙ length-map places (λ (j : ℕ). seen_state (slice_index_or records j Unread)) in
      fill_by_all f x n None x_long (λ g less. state_by g less (get_or-map (λ (j : ℕ). seen_state (slice_index_or (set records k after) j Unread)) places g k None less))
      ∙ sym (fill_by_all f y n None y_long (λ g less. refl))

  -- one of its include directives leads to one file more
  pub led_read : (ss : List State) (index to : ℕ) → states_at records places ≡ ss → seen_state after ≡ led_state index to (seen_state state)
      → states_at (set records k after) places ≡ set ss file (led_state index to (get_or ss file None))
  led_read ss index to view led =
      let own : get_or ss file None ≡ seen_state state = ap (λ (l : List State). get_or l file None) (sym view) ∙ own_state records places file k state low is within at in
      states_led ∙ ap (λ (l : List State). set l file (seen_state after)) view ∙ ap (set ss file) (led ∙ ap (led_state index to) (sym own))

pub led_none : (state : FileState) (index to : ℕ) → ((entries : List Entry) → state ≡ Read entries → ⊥) → led_state index to (seen_state state) ≡ seen_state state
led_none Unread index to other = refl
led_none (Read entries) index to other = absurd (other entries refl)
led_none (Bad line) index to other = refl

---- lists of #include_next directives

none_kept : (count : ℕ) (lists : List (Vec Next Global)) → lists_at lists (replicate count 0) ≡ replicate count None
none_kept zero lists = refl
none_kept (suc count) lists = ap (λ ls. None ∷ ls) (none_kept count lists)

-- of files of which none was looked up
pub no_lists : (count : ℕ) (lists : List (Vec Next Global)) (places : List ℕ) → places ≡ replicate count 0 → lists_at lists places ≡ replicate count None
no_lists count lists places none = ap (lists_at lists) none ∙ none_kept count lists

get_kept : (lists : List (Vec Next Global)) (more : Vec Next Global) (k : ℕ) → k < length lists → slice_get (lists ++ more ∷ []) k ≡ slice_get lists k
get_kept [] more k low = absurd (omega arith)
get_kept (x ∷ xs) more zero low = refl
get_kept (x ∷ xs) more (suc k) low = get_kept xs more k (omega arith)

same_list : (lists : List (Vec Next Global)) (more : Vec Next Global) (k : ℕ) → k ≤ length lists → list_at (lists ++ more ∷ []) k ≡ list_at lists k
same_list lists more zero low = refl
same_list lists more (suc k) low = ap (option_map (λ (list : Vec Next Global). list.items)) (get_kept lists more k (omega arith))

same_lists : (lists : List (Vec Next Global)) (more : Vec Next Global) (places : List ℕ) → All (λ k. k ≤ length lists) places → lists_at (lists ++ more ∷ []) places ≡ lists_at lists places
same_lists lists more [] within = refl
same_lists lists more (k ∷ ks) within =
    ap (λ o. o ∷ lists_at (lists ++ more ∷ []) ks) (same_list lists more k (All-head (λ k. k ≤ length lists) k ks within))
    ∙ ap (λ ls. list_at lists k ∷ ls) (same_lists lists more ks (All-tail (λ k. k ≤ length lists) k ks within))

-- a file takes the list that was added
pub lists_set : (lists after : List (Vec Next Global)) (list : Vec Next Global) (places : List ℕ) (file at place : ℕ) → after ≡ lists ++ list ∷ [] → All (λ k. k ≤ length lists) places → place ≡ length after → at ≡ file
    → lists_at after (set places at place) ≡ set (lists_at lists places) file (Some list.items)
lists_set lists after list places file at place more within last same =
    let place_is : place ≡ suc (length lists) = omega (arith, last, ap (λ (l : List (Vec Next Global)). length l) more, length-append lists (list ∷ [])) in
    rw (more, same, place_is) (
    map-set (list_at (lists ++ list ∷ [])) places file (suc (length lists))
    ∙ ap (λ ls. set ls file (option_map (λ (l : Vec Next Global). l.items) (slice_get (lists ++ list ∷ []) (length lists)))) (same_lists lists list places within)
    ∙ ap (λ (o : Option (Vec Next Global)). set (lists_at lists places) file (option_map (λ (l : Vec Next Global). l.items) o)) (push_last lists list))

-- the list of a file
pub list_is : (lists : List (Vec Next Global)) (places : List ℕ) (file : ℕ) → file < length places → get_or (lists_at lists places) file None ≡ list_at lists (get_or places file 0)
list_is lists places file low = get_or-map (list_at lists) places file 0 None low

---- lists of direct include directives

no_directs : (count : ℕ) (lists : List (List Direct)) → map (kept_at lists) (replicate count 0) ≡ replicate count []
no_directs zero lists = refl
no_directs (suc count) lists = ap (λ ls. [] ∷ ls) (no_directs count lists)

-- of files of which none is read
pub directs_none : (count : ℕ) (lists : List (List Direct)) (places : List ℕ) → places ≡ replicate count 0 → map (kept_at lists) places ≡ replicate count []
directs_none count lists places none = ap (map (kept_at lists)) none ∙ no_directs count lists

same_kept : (lists : List (List Direct)) (more : List Direct) (k : ℕ) → k ≤ length lists → kept_at (lists ++ more ∷ []) k ≡ kept_at lists k
same_kept lists more zero low = refl
same_kept lists more (suc k) low = get_or_append_left lists (more ∷ []) [] k (omega arith)

all_kept : (lists : List (List Direct)) (more : List Direct) (places : List ℕ) → All (λ k. k ≤ length lists) places → map (kept_at (lists ++ more ∷ [])) places ≡ map (kept_at lists) places
all_kept lists more [] within = refl
all_kept lists more (k ∷ ks) within =
    ap (λ o. o ∷ map (kept_at (lists ++ more ∷ [])) ks) (same_kept lists more k (All-head (λ k. k ≤ length lists) k ks within))
    ∙ ap (λ ls. kept_at lists k ∷ ls) (all_kept lists more ks (All-tail (λ k. k ≤ length lists) k ks within))

-- a file takes the list that was added
pub directs_set : (lists after : List (List Direct)) (list : List Direct) (places : List ℕ) (file at place : ℕ) → after ≡ lists ++ list ∷ [] → All (λ k. k ≤ length lists) places → place ≡ length after → at ≡ file
    → map (kept_at after) (set places at place) ≡ set (map (kept_at lists) places) file list
directs_set lists after list places file at place more within last same =
    let place_is : place ≡ suc (length lists) = omega (arith, last, ap (λ (l : List (List Direct)). length l) more, length-append lists (list ∷ [])) in
    rw (more, same, place_is) (
    map-set (kept_at (lists ++ list ∷ [])) places file (suc (length lists))
    ∙ ap (λ ls. set ls file (get_or (lists ++ list ∷ []) (length lists) [])) (all_kept lists list places within)
    ∙ ap (set (map (kept_at lists) places) file) (get_or_push lists list [] (length lists) refl))
