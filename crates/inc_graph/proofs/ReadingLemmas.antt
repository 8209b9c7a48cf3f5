-- The directives of a file one by one: what is kept of each, and what it finds.
use Rattle.std.proofs.Common.{◌≡◌, ℕ, ◌+◌, ◌<◌, zero, suc, Bool, true, List, [], ◌∷◌, ◌++◌, Option, Some, None, length, get_or, set, take, refl, ap, sym, ◌∙◌, subst, length-append, get_or-set_same}
use Rattle.std.specs.Prelude.{filter, filter_map, fold, option_to_list}
use Rattle.std.specs.List.{cons_option}
use Rattle.std.specs.Option.{option_map_or}
use Rattle.std.proofs.lemmas.Bool.{cond-true}
use Rattle.std.proofs.lemmas.List.{append-nil, append_assoc}
use Rattle.std.proofs.lemmas.List.Elements.{filter_map-append}
use Rattle.std.proofs.lemmas.Option.{same_Some}
use Rattle.inc_directive.specs.LineKinds.{LineKind, Include, Other, Text, Quoted, Angled, ByName, Computed, Nothing}
use Rattle.inc_directive.specs.declared.kinds.DirectiveKind.TheVariants.{Foreign}
use Rattle.inc_directive.specs.FileDirectives.{Directive}
use Rattle.inc_lookup.specs.declared.projects.Found.{Found}
use Rattle.inc_lookup.specs.Projects.{Layout}
use Rattle.inc_graph.specs.FileEntries.{Entry}
use Rattle.inc_graph.specs.GraphLists.{State}
use Rattle.inc_graph.specs.Entries.{entry_alone, found_lead}
use Rattle.inc_graph.specs.IncludeGraph.{Lead, name_entry, name_in, undefined_place, entry_at, found_by}
use Rattle.inc_graph.specs.Nexts.{Direct, direct_found, directs_found, Next, next_found, next_of, entry_count, nexts_from, led_state, followed, with_direct, with_directs, with_nexts, nexts_found}
use Rattle.inc_graph.specs.Places.{Reaches}
use Rattle.inc_graph.proofs.PlaceLemmas.{IsReaching, reaching_more, reaches_more, take_more}

staying : (s : Directive → Bool) (left rest : List Directive) (d : Directive) → left ≡ d ∷ rest → s d ≡ true → filter s left ≡ d ∷ filter s rest
staying s left rest d is t = ap (filter s) is ∙ cond-true (s d) (d ∷ filter s rest) (filter s rest) t

with_option : {X : Type 0} (o : Option X) (xs ys : List X) → (xs ++ option_to_list o) ++ ys ≡ xs ++ cons_option o ys
with_option None xs ys = ap (λ l. l ++ ys) (append-nil xs)
with_option (Some x) xs ys = append_assoc xs (x ∷ []) ys

option_first : {X : Type 0} (o : Option X) (ys : List X) → option_to_list o ++ ys ≡ cons_option o ys
option_first None ys = refl
option_first (Some x) ys = refl

-- one entry more
pub entry_read : (f : Directive → Option Entry) (s : Directive → Bool) (left rest : List Directive) (d : Directive) (old new all : List Entry) → left ≡ d ∷ rest → s d ≡ true → new ≡ old ++ option_to_list (f d)
    → old ++ filter_map f (filter s left) ≡ all → new ++ filter_map f (filter s rest) ≡ all
entry_read f s left rest d old new all is t more so_far =
    ap (λ l. l ++ filter_map f (filter s rest)) more ∙ with_option (f d) old (filter_map f (filter s rest))
    ∙ ap (λ l. old ++ filter_map f l) (sym (staying s left rest d is t)) ∙ so_far

-- and what it finds
pub found_read_more : (f : Directive → Option Found) (s : Directive → Bool) (left rest : List Directive) (d : Directive) (old new next all : List Found) → left ≡ d ∷ rest → s d ≡ true
    → IsReaching old new (filter_map f (filter s left)) all → Reaches new (option_to_list (f d)) next → IsReaching old next (filter_map f (filter s rest)) all
found_read_more f s left rest d old new next all is t so_far r =
    reaching_more old new next (option_to_list (f d)) (filter_map f (filter s rest)) all
    (subst (λ (l : List Found). IsReaching old new l all) (ap (filter_map f) (staying s left rest d is t) ∙ sym (option_first (f d) (filter_map f (filter s rest)))) so_far) r

-- of a directive by a name
pub by_name : (names : List (List ℕ)) (layout : Layout) (at : Found) (i : ℕ) (k : LineKind) (line : ℕ) (name : List ℕ) → name_in k ≡ Some name
    → (entry_alone names layout at (record { kind = k; line = line }) ≡ Some (name_entry (undefined_place names name) line))
    × (found_by layout at (record { kind = k; line = line }) ≡ None) × (next_of layout at.file i k ≡ [])
by_name names layout at i (Include by (ByName n)) line name is = (ap (λ (m : List ℕ). Some (name_entry (undefined_place names m) line)) (same_Some n name is), refl, refl)
by_name names layout at i (Include by (Quoted n)) line name is = cc
by_name names layout at i (Include by (Angled n)) line name is = cc
by_name names layout at i (Include by Computed) line name is = cc
by_name names layout at i (Include by Nothing) line name is = cc
by_name names layout at i (Other d) line name is = cc
by_name names layout at i Text line name is = cc

count_is : (names : List (List ℕ)) (lead : Lead) (k : LineKind) (line : ℕ) → length (option_to_list (entry_at names lead k line)) ≡ entry_count k
count_is names lead (Include by (Quoted name)) line = refl
count_is names lead (Include by (Angled name)) line = refl
count_is names lead (Include by (ByName name)) line = refl
count_is names lead (Include by Computed) line = refl
count_is names lead (Other Foreign) line = refl
count_is names lead _ line = refl

pub next_read : (names : List (List ℕ)) (layout : Layout) (at : Found) (s : Directive → Bool) (left rest : List Directive) (d : Directive) (old new : List Entry) (ns more all : List Next) → left ≡ d ∷ rest → s d ≡ true
    → new ≡ old ++ option_to_list (entry_alone names layout at d) → more ≡ ns ++ next_of layout at.file (length old) d.kind
    → ns ++ nexts_from layout at.file (length old) (filter s left) ≡ all → more ++ nexts_from layout at.file (length new) (filter s rest) ≡ all
next_read names layout at s left rest d old new ns more all is t entries nexts so_far =
    let long : length new ≡ length old + entry_count d.kind =
    ap (λ (l : List Entry). length l) entries ∙ length-append old (option_to_list (entry_alone names layout at d)) ∙ ap (λ (n : ℕ). length old + n) (count_is names (found_lead (found_by layout at d)) d.kind d.line) in
    ap (λ (l : List Next). l ++ nexts_from layout at.file (length new) (filter s rest)) nexts
    ∙ ap (λ (n : ℕ). (ns ++ next_of layout at.file (length old) d.kind) ++ nexts_from layout at.file n (filter s rest)) long
    ∙ append_assoc ns (next_of layout at.file (length old) d.kind) (nexts_from layout at.file (length old + entry_count d.kind) (filter s rest))
    ∙ ap (λ (l : List Directive). ns ++ nexts_from layout at.file (length old) l) (sym (staying s left rest d is t))
    ∙ so_far

---- #include_next directives one by one

fold_push : {A B : Type 0} (f : A → B → A) (a : A) (xs : List B) (x : B) → fold f a (xs ++ x ∷ []) ≡ f (fold f a xs) x
fold_push f a [] x = refl
fold_push f a (y ∷ ys) x = fold_push f (f a y) ys x

-- what one more of a list finds, by what each finds
pub tries_reach : {X : Type 0} (find : X → Option Found) (ns : List X) (i : ℕ) (n : X) (old b c : List Found) → i < length ns → n ≡ get_or ns i n
    → Reaches old (filter_map find (take i ns)) b → Reaches b (option_to_list (find n)) c → Reaches old (filter_map find (take (i + 1) ns)) c
tries_reach find ns i n old b c low is r t =
    subst (λ (l : List Found). Reaches old l c)
    (sym (ap (filter_map find) (take_more ns i n low is) ∙ filter_map-append find (take i ns) (n ∷ []) ∙ ap (λ l. filter_map find (take i ns) ++ l) (one (find n))))
    (reaches_more old b c (filter_map find (take i ns)) (option_to_list (find n)) r t)
  where
    one : (o : Option Found) → cons_option o [] ≡ option_to_list o
    one None = refl
    one (Some f) = refl

pub nexts_reach : (at : Found) (ns : List Next) (i : ℕ) (n : Next) (old b c : List Found) → i < length ns → n ≡ get_or ns i n
    → Reaches old (nexts_found at.next (take i ns)) b → Reaches b (option_to_list (next_found n at.next)) c → Reaches old (nexts_found at.next (take (i + 1) ns)) c
nexts_reach at ns i n old b c low is r t = tries_reach (λ (m : Next). next_found m at.next) ns i n old b c low is r t

set_twice : (ss : List State) (f : ℕ) (a b : State) → set (set ss f a) f b ≡ set ss f b
set_twice [] f a b = refl
set_twice (s ∷ ss) zero a b = refl
set_twice (s ∷ ss) (suc f) a b = ap (λ l. s ∷ l) (set_twice ss f a b)

-- what one more direct include directive finds
pub directs_reach : (layout : Layout) (at : Found) (ds : List Direct) (i : ℕ) (d : Direct) (old b c : List Found) → i < length ds → d ≡ get_or ds i d
    → Reaches old (directs_found layout at (take i ds)) b → Reaches b (directs_found layout at (d ∷ [])) c → Reaches old (directs_found layout at (take (i + 1) ds)) c
directs_reach layout at ds i d old b c low is r t =
    subst (λ (l : List Found). Reaches old l c)
    (sym (ap (directs_found layout at) (take_more ds i d low is) ∙ filter_map-append (direct_found layout at) (take i ds) (d ∷ [])))
    (reaches_more old b c (directs_found layout at (take i ds)) (directs_found layout at (d ∷ [])) r t)

-- what one more of a list makes of what is known of a file
pub directs_lead : (layout : Layout) (at : Found) (ds : List Direct) (i : ℕ) (d : Direct) (init now later : List State) → i < length ds → d ≡ get_or ds i d → at.file < length init
    → now ≡ set init at.file (with_directs layout at (get_or init at.file None) (take i ds))
    → later ≡ set now at.file (with_directs layout at (get_or now at.file None) (d ∷ []))
    → later ≡ set init at.file (with_directs layout at (get_or init at.file None) (take (i + 1) ds))
directs_lead layout at ds i d init now later low is within now_is later_is =
    let w : State = with_directs layout at (get_or init at.file None) (take i ds) in
    let own : get_or now at.file None ≡ w = ap (λ (l : List State). get_or l at.file None) now_is ∙ get_or-set_same init at.file w None within in
    later_is
    ∙ ap (λ (x : State). set now at.file (with_direct layout at x d)) own
    ∙ ap (λ (l : List State). set l at.file (with_direct layout at w d)) now_is
    ∙ set_twice init at.file w (with_direct layout at w d)
    ∙ ap (set init at.file) (sym (ap (with_directs layout at (get_or init at.file None)) (take_more ds i d low is) ∙ fold_push (with_direct layout at) (get_or init at.file None) (take i ds) d))

-- and what it makes of the file
pub nexts_lead : (at : Found) (ns : List Next) (i : ℕ) (n : Next) (init now later : List State) → i < length ns → n ≡ get_or ns i n → at.file < length init
    → now ≡ set init at.file (with_nexts at.next (get_or init at.file None) (take i ns))
    → (o : Option Found) → next_found n at.next ≡ o
    → later ≡ option_map_or (λ (f : Found). set now at.file (led_state n.index f.file (get_or now at.file None))) o now
    → later ≡ set init at.file (with_nexts at.next (get_or init at.file None) (take (i + 1) ns))
nexts_lead at ns i n init now later low is within now_is o found later_is =
    let w : State = with_nexts at.next (get_or init at.file None) (take i ns) in
    let own : get_or now at.file None ≡ w = ap (λ (l : List State). get_or l at.file None) now_is ∙ get_or-set_same init at.file w None within in
    let step : with_nexts at.next (get_or init at.file None) (take (i + 1) ns) ≡ option_map_or (λ (f : Found). led_state n.index f.file w) o w =
    ap (with_nexts at.next (get_or init at.file None)) (take_more ns i n low is) ∙ fold_push (followed at.next) (get_or init at.file None) (take i ns) n
    ∙ ap (λ (x : Option Found). option_map_or (λ (f : Found). led_state n.index f.file w) x w) found in
    later_is ∙ by_found o w own ∙ ap (set init at.file) (sym step)
  where
    by_found : (x : Option Found) (w : State) → get_or now at.file None ≡ w
        → option_map_or (λ (f : Found). set now at.file (led_state n.index f.file (get_or now at.file None))) x now ≡ set init at.file (option_map_or (λ (f : Found). led_state n.index f.file w) x w)
    by_found None w own = now_is ∙ ap (set init at.file) (sym (ap (λ (l : List State). get_or l at.file None) now_is ∙ get_or-set_same init at.file _ None within) ∙ own)
    by_found (Some f) w own =
        ap (λ (x : State). set now at.file (led_state n.index f.file x)) own
        ∙ ap (λ (l : List State). set l at.file (led_state n.index f.file w)) now_is
        ∙ set_twice init at.file _ (led_state n.index f.file w)
