-- The files of sources.
use Rattle.std.proofs.Common.{◌≡◌, ◌≢◌, ℕ, zero, suc, ◌<◌, ◌≤◌, ◌+◌, ◌==◌, Bool, true, false, cond, not, ◌||◌, ◌⊎◌, List, [], ◌∷◌, ◌++◌, Some, None, length, get_or, map, set, take, inl, inr, refl, ap, sym, ◌∙◌, subst, arith, get_or-set_same, get_or-set_other, length-append}
use Rattle.std.specs.Prelude.{Contains, fold, if◌then◌else◌, nat_lt}
use Rattle.std.specs.List.{All, cons_option, list_all}
use Rattle.std.specs.List.Sorted.{IsStrictlyIncreasing}
use Rattle.std.proofs.lemmas.Bool.{and_parts, cases_eq, cases_lt, cond-true, cond-false, eq-eqb, eqb-true, false≢true, ltb-false, ne_eqb, not-true, or_cases, or_left, or_right}
use Rattle.std.proofs.lemmas.List.{append-nil, get_or_append_left, get_or_default, length-map, map-set}
use Rattle.std.proofs.Math.Seq.{get_or-append_seam}
use Rattle.std.proofs.lemmas.List.Elements.{All-contains, All-nil, All-cons, All-head, All-tail, All-push, filter_map-append}
use Rattle.std.proofs.lemmas.List.Folds.{list_any-append}
use Rattle.std.proofs.lemmas.Option.{none-some, same_Some}
use Rattle.inc_graph.specs.Members.{is_member}
use Rattle.inc_graph.specs.OnePath.{path_sources}
use Rattle.inc_graph.specs.IncludeGraph.{with_source, source_files, are_rising, AreAsked, AreEnds}
use Rattle.inc_graph.specs.declared.building.Source.{Source}
use Rattle.inc_graph.proofs.PlaceLemmas.{take_more}
use Rattle.inc_graph.proofs.LeadLemmas.{contains_first, contains_later, contains_cases, contains_nothing, contains_kept, contains_from}

---- which files they are

-- what is there stays
member_left : (fs gs : List ℕ) (f : ℕ) → is_member f fs ≡ true → is_member f (fs ++ gs) ≡ true
member_left fs gs f is = list_any-append (λ g. g == f) fs gs ∙ or_left (is_member f fs) (is_member f gs) is

with_source_stays : (fs : List ℕ) (s : Source) (f : ℕ) → is_member f fs ≡ true → is_member f (with_source fs s) ≡ true
with_source_stays fs s f is = by_test (is_member s.file fs)
  where
    by_test : (b : Bool) → is_member f (cond b fs (fs ++ s.file ∷ [])) ≡ true
    by_test true = is
    by_test false = member_left fs (s.file ∷ []) f is

one_more_member : (fs : List ℕ) (f : ℕ) → is_member f (fs ++ f ∷ []) ≡ true
one_more_member fs f =
    list_any-append (λ g. g == f) fs (f ∷ []) ∙ or_right (is_member f fs) ((f == f) || false) (or_left (f == f) false (eq-eqb f f refl))

with_source_there : (fs : List ℕ) (s : Source) → is_member s.file (with_source fs s) ≡ true
with_source_there fs s = by_test (is_member s.file fs) refl
  where
    by_test : (b : Bool) → is_member s.file fs ≡ b → is_member s.file (cond b fs (fs ++ s.file ∷ [])) ≡ true
    by_test true e = e
    by_test false e = one_more_member fs s.file

with_source_cases : (fs : List ℕ) (s : Source) (f : ℕ) → is_member f (with_source fs s) ≡ true → (is_member f fs ≡ true) ⊎ (s.file ≡ f)
with_source_cases fs s f = by_test (is_member s.file fs)
  where
    by_test : (b : Bool) → is_member f (cond b fs (fs ++ s.file ∷ [])) ≡ true → (is_member f fs ≡ true) ⊎ (s.file ≡ f)
    by_test true is = inl is
    by_test false is = elim (or_cases (is_member f fs) ((s.file == f) || false) (sym (list_any-append (λ g. g == f) fs (s.file ∷ [])) ∙ is)) [
      | inl old ↦ inl old
      | inr new ↦ elim (or_cases (s.file == f) false new) [ inl here ↦ inr (eqb-true s.file f here) | inr none ↦ absurd (false≢true none) ]
    ]

stays_on : (fs : List ℕ) (ss : List Source) (f : ℕ) → is_member f fs ≡ true → is_member f (fold with_source fs ss) ≡ true
stays_on fs [] f is = is
stays_on fs (s ∷ ss) f is = stays_on (with_source fs s) ss f (with_source_stays fs s f is)

among_on : (fs : List ℕ) (ss : List Source) (s : Source) → Contains ss s → is_member s.file (fold with_source fs ss) ≡ true
among_on fs [] s c = absurd (contains_nothing s c)
among_on fs (t ∷ ts) s c = elim (contains_cases t ts s c) [
  | inl is ↦ subst (λ (x : Source). is_member x.file (fold with_source (with_source fs t) ts) ≡ true) is (stays_on (with_source fs t) ts t.file (with_source_there fs t))
  | inr later ↦ among_on (with_source fs t) ts s later
]

from_on : (fs : List ℕ) (ss : List Source) (f : ℕ) → is_member f (fold with_source fs ss) ≡ true → (is_member f fs ≡ true) ⊎ ((path : ℕ) × Contains ss (record { file = f; path = path }))
from_on fs [] f is = inl is
from_on fs (s ∷ ss) f is = elim (from_on (with_source fs s) ss f is) [
  | inl there ↦ elim (with_source_cases fs s f there) [
    | inl old ↦ inl old
    | inr same ↦ inr (s.path, subst (λ (x : ℕ). Contains (s ∷ ss) (record { file = x; path = s.path })) same (contains_first s ss))
  ]
  | inr later ↦ inr (later.0, contains_later s ss (record { file = f; path = later.0 }) later.1)
]

-- the file of a source is one of them
pub source_among : (sources : List Source) (f path : ℕ) → Contains sources (record { file = f; path = path }) → is_member f (source_files sources) ≡ true
source_among sources f path c = among_on [] sources (record { file = f; path = path }) c

-- and each of them is that of a source
pub among_source : (sources : List Source) (f : ℕ) → is_member f (source_files sources) ≡ true → (path : ℕ) × Contains sources (record { file = f; path = path })
among_source sources f is = elim (from_on [] sources f is) [ inl none ↦ absurd (false≢true none) | inr there ↦ there ]

---- those of an include path

source_in : (path : ℕ) (s : Source) → s.path ≡ path → (if s.path == path then Some s.file else None) ≡ Some s.file
source_in path s is = cond-true (s.path == path) (Some s.file) None (eq-eqb s.path path is)

pub path_source_among : (path f : ℕ) (sources : List Source) → Contains sources (record { file = f; path = path }) → Contains (path_sources path sources) f
path_source_among path f sources c =
    contains_kept (λ (s : Source). if s.path == path then Some s.file else None) sources (record { file = f; path = path }) f c (source_in path (record { file = f; path = path }) refl)

pub among_path_source : (path f : ℕ) (sources : List Source) → Contains (path_sources path sources) f → Contains sources (record { file = f; path = path })
among_path_source path f sources c =
    let from = contains_from (λ (s : Source). if s.path == path then Some s.file else None) sources f c in
    subst (λ (x : Source). Contains sources x) (by_test from.0 (from.0.path == path) refl from.2) from.1
  where
    by_test : (s : Source) (b : Bool) → (s.path == path) ≡ b → cond b (Some s.file) None ≡ Some f → s ≡ record { file = f; path = path }
    by_test s true e is = ap (λ (x : ℕ). record { file = s.file; path = x }) (eqb-true s.path path e) ∙ ap (λ (x : ℕ). record { file = x; path = path }) (same_Some s.file f is)
    by_test s false e is = absurd (none-some f is)

-- the include path of a source of a list is there
pub source_path_within : (paths : ℕ) (ss : List Source) (i : ℕ) (s : Source) → All (λ (x : Source). x.path < paths) ss → i < length ss → s ≡ get_or ss i s → s.path < paths
source_path_within paths ss i s within low is = let here = within i s low in omega (arith, here, ap (λ (x : Source). x.path) is)

-- those of every list, after one source more
pub sources_pushed : {V : Type 0} (items : V → List ℕ) (lists : List V) (v : V) (ss : List Source) (i : ℕ) (s : Source) (path : ℕ) → i < length ss → s ≡ get_or ss i s → s.path < length lists
    → items v ≡ get_or (map items lists) s.path [] ++ s.file ∷ []
    → ((p : ℕ) → p < length lists → get_or (map items lists) p [] ≡ path_sources p (take i ss)) → path < length lists
    → get_or (map items (set lists s.path v)) path [] ≡ path_sources path (take (i + 1) ss)
sources_pushed items lists v ss i s path low is within pushed so_far here =
    ap (λ l. get_or l path []) (map-set items lists s.path v)
    ∙ elim (cases_eq path s.path) [
      | inl same ↦
          ap (λ (p : ℕ). get_or (set (map items lists) s.path (items v)) p []) same
          ∙ get_or-set_same (map items lists) s.path (items v) [] (omega (arith, within, length-map lists items))
          ∙ pushed
          ∙ ap (λ (l : List ℕ). l ++ s.file ∷ []) (ap (λ (p : ℕ). get_or (map items lists) p []) (sym same) ∙ so_far path here)
          ∙ ap (λ (l : List ℕ). path_sources path (take i ss) ++ l) (sym (ap (λ o. cons_option o []) (source_in path s (sym same))))
          ∙ sym (more path)
      | inr differ ↦
          get_or-set_other (map items lists) s.path path (items v) [] differ
          ∙ so_far path here
          ∙ sym (append-nil (path_sources path (take i ss)))
          ∙ ap (λ (l : List ℕ). path_sources path (take i ss) ++ l) (sym (ap (λ o. cons_option o []) (source_out path s (λ e. differ (sym e)))))
          ∙ sym (more path)
    ]
  where
    more : (p : ℕ) → path_sources p (take (i + 1) ss) ≡ path_sources p (take i ss) ++ path_sources p (s ∷ [])
    more p = ap (path_sources p) (take_more ss i s low is) ∙ filter_map-append (λ (x : Source). if x.path == p then Some x.file else None) (take i ss) (s ∷ [])

    source_out : (p : ℕ) (x : Source) → x.path ≢ p → (if x.path == p then Some x.file else None) ≡ None
    source_out p x other = cond-false (x.path == p) (Some x.file) None (ne_eqb x.path p other)

-- each of them is a file that is there
pub path_sources_within : (files path : ℕ) (sources : List Source) → All (λ (s : Source). s.file < files) sources → All (λ f. f < files) (path_sources path sources)
path_sources_within files path sources within = λ k d low.
    let f : ℕ = get_or (path_sources path sources) k d in
    All-contains (λ (s : Source). s.file < files) sources (record { file = f; path = path }) within
    (among_path_source path f sources (k, low, get_or_default (path_sources path sources) k f d low))

---- the ends of a graph

-- the files of sources are files that are there
with_sources_within : (files : ℕ) (fs : List ℕ) (ss : List Source) → All (λ f. f < files) fs → All (λ (s : Source). s.file < files) ss → All (λ f. f < files) (fold with_source fs ss)
with_sources_within files fs [] there within = there
with_sources_within files fs (s ∷ ss) there within =
    with_sources_within files (with_source fs s) ss (by_test (is_member s.file fs)) (All-tail (λ (x : Source). x.file < files) s ss within)
  where
    by_test : (b : Bool) → All (λ f. f < files) (cond b fs (fs ++ s.file ∷ []))
    by_test true = there
    by_test false = All-push (λ f. f < files) fs s.file there (All-head (λ (x : Source). x.file < files) s ss within)

-- no file so far is past those that are left
abbrev AreBefore : List ℕ → List Source → Type 0
AreBefore fs ss = (f : ℕ) → is_member f fs ≡ true → All (λ (s : Source). f ≤ s.file) ss

rising_push : (fs : List ℕ) (f : ℕ) → IsStrictlyIncreasing fs → ((g : ℕ) → is_member g fs ≡ true → g < f) → IsStrictlyIncreasing (fs ++ f ∷ [])
rising_push fs f up under = λ k less. elim (cases_lt (k + 1) (length fs)) [
  | inl low ↦
      let here : get_or (fs ++ f ∷ []) k 0 ≡ get_or fs k 0 = get_or_append_left fs (f ∷ []) 0 k (omega arith) in
      let next : get_or (fs ++ f ∷ []) (k + 1) 0 ≡ get_or fs (k + 1) 0 = get_or_append_left fs (f ∷ []) 0 (k + 1) low in
      let was = up k low in
      omega (arith, here, next, was)
  | inr high ↦
      let long = length-append fs (f ∷ []) in
      let low : k < length fs = omega (arith, long, less) in
      let last : k + 1 ≡ length fs = omega arith in
      let here : get_or (fs ++ f ∷ []) k 0 ≡ get_or fs k 0 = get_or_append_left fs (f ∷ []) 0 k low in
      let next : get_or (fs ++ f ∷ []) (k + 1) 0 ≡ f = ap (λ (n : ℕ). get_or (fs ++ f ∷ []) n 0) last ∙ get_or-append_seam fs f [] 0 in
      let below = under (get_or fs k 0) (there fs k low) in
      omega (arith, here, next, below)
]
  where
    there : (xs : List ℕ) (k : ℕ) → k < length xs → is_member (get_or xs k 0) xs ≡ true
    there [] k low = absurd (omega arith)
    there (x ∷ xs) zero low = or_left (x == x) (is_member x xs) (eq-eqb x x refl)
    there (x ∷ xs) (suc k) low = or_right (x == get_or xs k 0) (is_member (get_or xs k 0) xs) (there xs k (omega arith))

-- each that passes
all_pass : (p : Source → Bool) (ss : List Source) → list_all p ss ≡ true → All (λ s. p s ≡ true) ss
all_pass p [] is = All-nil (λ s. p s ≡ true)
all_pass p (s ∷ ss) is = let parts = and_parts (p s) (list_all p ss) is in All-cons (λ s. p s ≡ true) s ss parts.0 (all_pass p ss parts.1)

with_sources_rise : (fs : List ℕ) (ss : List Source) → IsStrictlyIncreasing fs → AreBefore fs ss → are_rising ss ≡ true → IsStrictlyIncreasing (fold with_source fs ss)
with_sources_rise fs [] up before rising = up
with_sources_rise fs (s ∷ ss) up before rising =
    let parts = and_parts (list_all (λ (t : Source). not (nat_lt t.file s.file)) ss) (are_rising ss) rising in
    with_sources_rise (with_source fs s) ss (by_test (is_member s.file fs) refl) (later parts.0) parts.1
  where
    by_test : (b : Bool) → is_member s.file fs ≡ b → IsStrictlyIncreasing (cond b fs (fs ++ s.file ∷ []))
    by_test true e = up
    by_test false e = rising_push fs s.file up (λ g there.
        let low : g ≤ s.file = All-head (λ (x : Source). g ≤ x.file) s ss (before g there) in
        let other : g ≢ s.file = λ same. false≢true (sym e ∙ ap (λ (x : ℕ). is_member x fs) (sym same) ∙ there) in
        omega arith)

    later : list_all (λ (t : Source). not (nat_lt t.file s.file)) ss ≡ true → AreBefore (with_source fs s) ss
    later none g there = elim (with_source_cases fs s g there) [
      | inl old ↦ All-tail (λ (x : Source). g ≤ x.file) s ss (before g old)
      | inr same ↦ λ k d low.
          let under = all_pass (λ (t : Source). not (nat_lt t.file s.file)) ss none k d low in
          let more = ltb-false (get_or ss k d).file s.file (not-true (nat_lt (get_or ss k d).file s.file) under) in
          omega (arith, more, same)
    ]

some_source : (sources : List Source) → 0 < length sources → 0 < length (source_files sources)
some_source [] some = some
some_source (s ∷ ss) some = member_some (source_files (s ∷ ss)) s.file (source_among (s ∷ ss) s.file s.path (contains_first s ss))
  where
    member_some : (fs : List ℕ) (f : ℕ) → is_member f fs ≡ true → 0 < length fs
    member_some [] f is = absurd (false≢true is)
    member_some (x ∷ xs) f is = omega arith

-- what is asked about are ends of a graph
pub asked_ends : (files paths : ℕ) (sources : List Source) (headers : List ℕ) → AreAsked files paths sources headers → AreEnds files (source_files sources) headers
asked_ends files paths sources headers a = record {
  sources_within = with_sources_within files [] sources (All-nil (λ f. f < files)) a.sources_within;
  headers_within = a.headers_within;
  sources_rise = with_sources_rise [] sources (λ k less. absurd (omega arith)) (λ f is. absurd (false≢true is)) a.sources_rise;
  headers_rise = a.headers_rise;
  some_end = elim (cases_lt 0 (length sources)) [
    | inl some ↦ let more = some_source sources some in omega arith
    | inr none ↦ let some = a.some_end in omega arith
  ];
}
