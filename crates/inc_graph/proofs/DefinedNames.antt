-- Which names that no build defines are defined by files, by what is known of each file.
use Rattle.std.proofs.Common.{◌≡◌, ℕ, zero, suc, ◌+◌, ◌<◌, ◌==◌, ◌&&◌, ◌||◌, Bool, true, false, cond, not, List, [], ◌∷◌, Option, Some, None, Result, Ok, Err, length, get_or, map, replicate, take, inl, inr, refl, sym, ap, ◌∙◌, arith}
use Rattle.std.specs.Prelude.{bytes_eq, filter, filter_map, option_and_then, option_map, nat_lt}
use Rattle.std.specs.List.{cons_option, list_any, range_with_len}
use Rattle.std.proofs.lemmas.Bool.{cond-true, cond-false, or_cases, eqb-true, le-ltb, lt-ltb, false≢true}
use Rattle.std.proofs.lemmas.List.{get_or_default}
use Rattle.std.proofs.lemmas.List.Folds.{list_any-append}
use Rattle.std.proofs.lemmas.List.Quantifiers.{position-Some}
use Rattle.inc_directive.specs.FileDirectives.{Directive}
use Rattle.inc_directive.specs.Groups.{FileLine, directive_line, file_lines}
use Rattle.inc_directive.specs.LineKinds.{LineKind, Include, Other, Quoted, Angled, ByName, Computed, defined_name}
use Rattle.inc_directive.specs.declared.files.FileFault.{FileFault}
use Rattle.inc_directive.specs.declared.kinds.DirectiveKind.TheVariants.{Foreign}
use Rattle.inc_text.specs.PhaseText.{phase_text}
use Rattle.inc_token.specs.LineWalk.{lines_or_none}
use Rattle.inc_token.specs.TokenLines.{token_lines}
use Rattle.inc_lookup.specs.Projects.{Layout, Listing, bytes_at}
use Rattle.inc_graph.specs.FileEntries.{Definition, Entry, definition_entry}
use Rattle.inc_graph.specs.ClosureSearch.{state_of}
use Rattle.inc_graph.specs.Entries.{entries_of, file_entries, seen_state}
use Rattle.inc_graph.specs.GraphLists.{State, defines, flag_at, state_defines}
use Rattle.inc_lookup.specs.declared.projects.Form.TheVariants as form
use Rattle.inc_graph.specs.HeaderNames.{HeaderName, header_of}
use Rattle.inc_graph.specs.IncludeGraph.{Lead, Nowhere, To, Several, leads, lead_entry, name_entry, undefined_place, entry_at, entry_of, defined_at, definitions_in, is_of, text_definitions, file_definitions, is_defined_in, inner_files, is_found, read_directives, Start}
use Rattle.inc_graph.specs.Members.{is_member}
use Rattle.inc_graph.specs.Settings.{Setting, layouts_of}
use Rattle.inc_graph.specs.declared.building.file_entries.FileState.{FileState}
use Rattle.inc_graph.specs.declared.building.file_entries.FileState.TheVariants.{Unread, Read, Bad}
use Rattle.inc_graph.proofs.PlaceLemmas.{take_more}

---- what a file defines

lead_defines : (hn : HeaderName) (name : ℕ) (lead : Lead) (line : ℕ) → defines name (lead_entry lead line hn) ≡ false
lead_defines hn name Nowhere line = refl
lead_defines hn name (To to) line = refl
lead_defines hn name Several line = refl

name_defines : (name : ℕ) (o : Option ℕ) (line : ℕ) → defines name (name_entry o line) ≡ false
name_defines name None line = refl
name_defines name (Some n) line = refl

-- an include directive defines nothing
one_defines : (name : ℕ) (names : List (List ℕ)) (lead : Lead) (k : LineKind) (line : ℕ) (es : List Entry) → list_any (defines name) (cons_option (entry_at names lead k line) es) ≡ list_any (defines name) es
one_defines name names lead (Include by (Quoted n)) line es = ap (λ b. b || list_any (defines name) es) (lead_defines (header_of form.Quoted n) name lead line)
one_defines name names lead (Include by (Angled n)) line es = ap (λ b. b || list_any (defines name) es) (lead_defines (header_of form.Angled n) name lead line)
one_defines name names lead (Include by (ByName n)) line es = ap (λ b. b || list_any (defines name) es) (name_defines name (undefined_place names n) line)
one_defines name names lead (Include by Computed) line es = refl
one_defines name names lead (Other Foreign) line es = refl
one_defines name names lead _ line es = refl

all_define : (name : ℕ) (names : List (List ℕ)) (layouts : ℕ → Layout) (starts : List Start) (file : ℕ) (ds : List Directive) → list_any (defines name) (filter_map (entry_of names layouts starts file) ds) ≡ false
all_define name names layouts starts file [] = refl
all_define name names layouts starts file (d ∷ ds) =
    one_defines name names (leads layouts starts file d) d.kind d.line (filter_map (entry_of names layouts starts file) ds) ∙ all_define name names layouts starts file ds

places_define : (name : ℕ) (places : List Definition) → list_any (defines name) (map definition_entry places) ≡ list_any (is_of name) places
places_define name [] = refl
places_define name (d ∷ ds) = ap (λ b. (d.name == name) || b) (places_define name ds)

entries_define : (name : ℕ) (names : List (List ℕ)) (layouts : ℕ → Layout) (starts : List Start) (file : ℕ) (places : List Definition) (r : Result (List Directive) FileFault)
    → state_defines name (Some (entries_of (entry_of names layouts starts file) places r)) ≡ list_any (is_of name) (elim r [ Ok directives ↦ places | Err fault ↦ [] ])
entries_define name names layouts starts file places (Ok ds) =
    list_any-append (defines name) (filter_map (entry_of names layouts starts file) ds) (map definition_entry places)
    ∙ ap (λ b. b || list_any (defines name) (map definition_entry places)) (all_define name names layouts starts file ds)
    ∙ places_define name places
entries_define name names layouts starts file places (Err fault) = refl

file_defines : (setting : Setting) (listing : Listing) (starts : List Start) (name file : ℕ) → state_defines name (Some (file_entries setting listing starts file)) ≡ list_any (is_of name) (file_definitions setting listing file)
file_defines setting listing starts name file =
    entries_define name setting.undefined (layouts_of setting listing) starts file (text_definitions setting (phase_text setting.language (bytes_at listing file))) (read_directives setting listing file)

---- what the files of the closure define

any_cond : (give : State → Bool) (from : ℕ → Bool) (test b later : Bool) (s : State) (k : ℕ) (rest : List ℕ) → (b ≡ true → give s ≡ from k) → (b ≡ false → give s ≡ false) → later ≡ list_any from rest
    → (give s || later) ≡ list_any from (cond b (k ∷ rest) rest)
any_cond give from test true later s k rest h n e = ap (λ x. x || later) (h refl) ∙ ap (λ x. from k || x) e
any_cond give from test false later s k rest h n e = ap (λ x. x || later) (n refl) ∙ e

any_map : (give : State → Bool) (from : ℕ → Bool) (st : ℕ → State) (test : ℕ → Bool) → ((f : ℕ) → test f ≡ true → give (st f) ≡ from f) → ((f : ℕ) → test f ≡ false → give (st f) ≡ false)
    → (k n : ℕ) → list_any give (map st (range_with_len k n)) ≡ list_any from (filter test (range_with_len k n))
any_map give from st test h none k zero = refl
any_map give from st test h none k (suc n) =
    any_cond give from true (test k) _ (st k) k (filter test (range_with_len (k + 1) n)) (h k) (none k) (any_map give from st test h none (k + 1) n)

states_define : (setting : Setting) (listing : Listing) (starts : ℕ → List Start) (headers : List ℕ) (ss : List State) → ss ≡ map (state_of setting listing starts headers) (range_with_len 0 (length listing.files))
    → (name : ℕ) → list_any (state_defines name) ss ≡ is_defined_in setting listing (inner_files listing starts headers) name
states_define setting listing starts headers ss e name =
    let test : ℕ → Bool = λ f. is_found (starts f) && not (is_member f headers) in
    ap (list_any (state_defines name)) e
    ∙ any_map (state_defines name) (λ f. list_any (is_of name) (file_definitions setting listing f)) (state_of setting listing starts headers) test
    (λ f t. ap (state_defines name) (cond-true (test f) _ _ t) ∙ file_defines setting listing (starts f) name f)
    (λ f t. ap (state_defines name) (cond-false (test f) _ _ t))
    0 (length listing.files)

---- they have places among the names

place_low : (names : List (List ℕ)) (o : Option (List ℕ)) (n : ℕ) → option_and_then (undefined_place names) o ≡ Some n → n < length names
place_low names None n e = cc
place_low names (Some text) n e = (position-Some (bytes_eq text) names n [] e).0

line_low : (names : List (List ℕ)) (line : ℕ) (o : Option ℕ) (name : ℕ) (rest : List Definition) → ((n : ℕ) → o ≡ Some n → n < length names) → (list_any (is_of name) rest ≡ true → name < length names)
    → list_any (is_of name) (cons_option (option_map (defined_at line) o) rest) ≡ true → name < length names
line_low names line None name rest here there t = there t
line_low names line (Some n) name rest here there t =
    elim (or_cases (n == name) (list_any (is_of name) rest) t) [
      | inl is ↦ let same : n ≡ name = eqb-true n name is in rw (← same) (here n refl)
      | inr later ↦ there later
    ]

lines_low : (names : List (List ℕ)) (ls : List FileLine) (name : ℕ) → list_any (is_of name) (definitions_in names ls) ≡ true → name < length names
lines_low names [] name t = absurd (false≢true t)
lines_low names (l ∷ ls) name t =
    line_low names (directive_line l) (option_and_then (undefined_place names) (defined_name l.kind l.tokens)) name (definitions_in names ls) (place_low names (defined_name l.kind l.tokens)) (lines_low names ls name) t

file_low : (setting : Setting) (ls : List FileLine) (r : Result (List Directive) FileFault) (name : ℕ) → list_any (is_of name) (elim r [ Ok directives ↦ definitions_in setting.undefined ls | Err fault ↦ [] ]) ≡ true
    → name < length setting.undefined
file_low setting ls (Ok ds) name t = lines_low setting.undefined ls name t
file_low setting ls (Err fault) name t = absurd (false≢true t)

files_low : (setting : Setting) (listing : Listing) (files : List ℕ) (name : ℕ) → is_defined_in setting listing files name ≡ true → name < length setting.undefined
files_low setting listing [] name t = absurd (false≢true t)
files_low setting listing (f ∷ fs) name t =
    elim (or_cases (list_any (is_of name) (file_definitions setting listing f)) (is_defined_in setting listing fs name) t) [
      | inl here ↦ file_low setting (file_lines setting.language (lines_or_none (token_lines setting.language (phase_text setting.language (bytes_at listing f))))) (read_directives setting listing f) name here
      | inr later ↦ files_low setting listing fs name later
    ]

-- so flags for these places say which names are defined
pub flags_agree : (setting : Setting) (listing : Listing) (starts : ℕ → List Start) (headers : List ℕ) (ss : List State) → ss ≡ map (state_of setting listing starts headers) (range_with_len 0 (length listing.files))
    → (defined : ℕ → Bool) (count : ℕ) → count ≡ length setting.undefined → ((name : ℕ) → defined name ≡ (nat_lt name count && list_any (state_defines name) ss))
    → (name : ℕ) → defined name ≡ is_defined_in setting listing (inner_files listing starts headers) name
flags_agree setting listing starts headers ss e defined count count_is flags name =
    let files = inner_files listing starts headers in
    let are = states_define setting listing starts headers ss e name in
    flags name ∙ ap (λ b. nat_lt name count && b) are ∙ by_low (is_defined_in setting listing files name) (λ t. files_low setting listing files name t)
  where
    by_low : (b : Bool) → (b ≡ true → name < length setting.undefined) → (nat_lt name count && b) ≡ b
    by_low true low = ap (λ x. x && true) (lt-ltb name count (rw count_is (low refl)))
    by_low false low = off (nat_lt name count)
      where
        off : (x : Bool) → (x && false) ≡ false
        off true = refl
        off false = refl

---- flags for them

-- at first none is set
pub no_flags : (count name : ℕ) → flag_at (replicate count false) name ≡ (nat_lt name count && false)
no_flags count name = none_set count name ∙ sym (never (nat_lt name count))
  where
    none_set : (n k : ℕ) → flag_at (replicate n false) k ≡ false
    none_set zero k = refl
    none_set (suc n) zero = refl
    none_set (suc n) (suc k) = none_set n k

    never : (x : Bool) → (x && false) ≡ false
    never true = refl
    never false = refl

-- and where there are no names
pub no_places : (flags : List Bool) (count : ℕ) → flags ≡ replicate count false → count ≡ 0 → (x : Bool) (name : ℕ) → flag_at flags name ≡ (nat_lt name count && x)
no_places flags count is none x name =
    ap (λ bs. flag_at bs name) (is ∙ ap (λ n. replicate n false) none) ∙ ap (λ b. b && x) (sym (ap (nat_lt name) none ∙ le-ltb name 0 (omega arith)))

last_or : (a b : Bool) → (a || (b || false)) ≡ (a || b)
last_or true b = refl
last_or false true = refl
last_or false false = refl

list_any_more : {X : Type 0} (p : X → Bool) (xs : List X) (i : ℕ) (d : X) → i < length xs → list_any p (take (i + 1) xs) ≡ (list_any p (take i xs) || p (get_or xs i d))
list_any_more p xs i d low =
    ap (list_any p) (take_more xs i (get_or xs i d) low (get_or_default xs i d (get_or xs i d) low))
    ∙ list_any-append p (take i xs) (get_or xs i d ∷ [])
    ∙ last_or (list_any p (take i xs)) (p (get_or xs i d))

both_flags : (f low a b : Bool) → ((f || (low && a)) || (low && b)) ≡ (f || (low && (a || b)))
both_flags true low a b = refl
both_flags false true a b = refl
both_flags false false a b = refl

-- one entry more
pub flags_entry : (es : List Entry) (i : ℕ) (d : Entry) → i < length es → (first flag new : Bool) (low : Bool) (name : ℕ) → flag ≡ (first || (low && list_any (defines name) (take i es)))
    → new ≡ (flag || (low && defines name (get_or es i d))) → new ≡ (first || (low && list_any (defines name) (take (i + 1) es)))
flags_entry es i d within first flag new low name was now =
    now ∙ ap (λ x. x || (low && defines name (get_or es i d))) was
    ∙ both_flags first low (list_any (defines name) (take i es)) (defines name (get_or es i d))
    ∙ ap (λ x. first || (low && x)) (sym (list_any_more (defines name) es i d within))

both_files : (low a b : Bool) → ((low && a) || (low && b)) ≡ (low && (a || b))
both_files true a b = refl
both_files false a b = refl

-- one file more
pub flags_state : (ss : List State) (i : ℕ) → i < length ss → (flag new low : Bool) (name : ℕ) → flag ≡ (low && list_any (state_defines name) (take i ss))
    → new ≡ (flag || (low && state_defines name (get_or ss i None))) → new ≡ (low && list_any (state_defines name) (take (i + 1) ss))
flags_state ss i within flag new low name was now =
    now ∙ ap (λ x. x || (low && state_defines name (get_or ss i None))) was
    ∙ both_files low (list_any (state_defines name) (take i ss)) (state_defines name (get_or ss i None))
    ∙ ap (λ x. low && x) (sym (list_any_more (state_defines name) ss i None within))

-- no name, no definition of one
pub none_named : (names : List (List ℕ)) (ls : List FileLine) → length names ≡ 0 → definitions_in names ls ≡ []
none_named [] [] e = refl
none_named [] (l ∷ ls) e = ap (λ o. cons_option (option_map (defined_at (directive_line l)) o) (definitions_in [] ls)) (nowhere (defined_name l.kind l.tokens)) ∙ none_named [] ls e
  where
    nowhere : (o : Option (List ℕ)) → option_and_then (undefined_place []) o ≡ None
    nowhere None = refl
    nowhere (Some text) = refl
none_named (n ∷ ns) ls e = absurd (omega (arith, e))

-- a file of which no directive is kept defines none
pub none_defined : (name : ℕ) (s : FileState) → ((es : List Entry) → s ≡ Read es → ⊥) → state_defines name (seen_state s) ≡ false
none_defined name Unread h = refl
none_defined name (Read es) h = absurd (h es refl)
none_defined name (Bad line) h = refl

pub none_more : (low x flag : Bool) → x ≡ false → flag ≡ (flag || (low && x))
none_more true x true e = refl
none_more true x false e = sym e
none_more false x true e = refl
none_more false x false e = refl
