-- Whether a missing directive is at a line of a file, by binary search.
use Rattle.std.proofs.Common.{◌≡◌, ℕ, zero, suc, ◌<◌, ◌≤◌, Bool, true, false, List, [], ◌∷◌, Option, Some, None, length, get_or, inl, inr, refl, sym, ap, ◌∙◌, arith}
use Rattle.std.specs.Prelude.{◌==◌, ◌&&◌, ◌||◌, nat_lt, slice_get}
use Rattle.std.specs.List.{list_all, list_any}
use Rattle.std.specs.List.Sorted.{IsPartitionedBy, IsPartitionPoint}
use Rattle.std.proofs.lemmas.Bool.{and_parts, cases_Bool, cases_lt, or_cases, or_left, or_right, eqb-true, eq-eqb, lt-ltb, ltb-true, true≢false}
use Rattle.std.proofs.lemmas.List.Sums.{AllPass-from_list_all}
use Rattle.std.proofs.lemmas.Option.{slice_get-get_or, slice_get_past}
use Rattle.inc_graph.specs.declared.missing_lists.Missing.{Missing}
use Rattle.inc_graph.specs.IncludeGraph.{is_before, are_in_order}

-- it is there
abbrev pub is_at : Missing ℕ → (file line : ℕ) → Bool
is_at d file line = (d.file == file) && (d.line == line)

abbrev pub is_there : Option (Missing ℕ) → (file line : ℕ) → Bool
is_there None file line = false
is_there (Some d) file line = is_at d file line

---- the order of places

less_file : (d : Missing ℕ) (file line : ℕ) → is_before d file line ≡ true → d.file ≤ file
less_file d file line e =
    elim (or_cases (nat_lt d.file file) ((d.file == file) && nat_lt d.line line) e) [
      | inl less ↦ let lt = ltb-true d.file file less in omega arith
      | inr both ↦ let same = eqb-true d.file file (and_parts (d.file == file) (nat_lt d.line line) both).0 in omega arith
    ]

less_line : (d : Missing ℕ) (file line : ℕ) → is_before d file line ≡ true → d.file ≡ file → d.line < line
less_line d file line e same =
    elim (or_cases (nat_lt d.file file) ((d.file == file) && nat_lt d.line line) e) [
      | inl less ↦ let lt = ltb-true d.file file less in absurd (omega arith)
      | inr both ↦ ltb-true d.line line (and_parts (d.file == file) (nat_lt d.line line) both).1
    ]

before_file : (d : Missing ℕ) (file line : ℕ) → d.file < file → is_before d file line ≡ true
before_file d file line lt = or_left (nat_lt d.file file) ((d.file == file) && nat_lt d.line line) (lt-ltb d.file file lt)

before_line : (d : Missing ℕ) (file line : ℕ) → d.file ≡ file → d.line < line → is_before d file line ≡ true
before_line d file line same lt =
    or_right (nat_lt d.file file) ((d.file == file) && nat_lt d.line line) (ap (λ b. b && nat_lt d.line line) (eq-eqb d.file file same) ∙ lt-ltb d.line line lt)

goes_on : (d e : Missing ℕ) (file line : ℕ) → is_before d e.file e.line ≡ true → is_before e file line ≡ true → is_before d file line ≡ true
goes_on d e file line first second =
    let low = less_file d e.file e.line first in
    let high = less_file e file line second in
    by_file (d.file == file) refl low high
  where
    by_file : (b : Bool) → (d.file == file) ≡ b → d.file ≤ e.file → e.file ≤ file → is_before d file line ≡ true
    by_file true is low high =
        let same = eqb-true d.file file is in
        let a : d.file ≡ e.file = omega arith in
        let c : e.file ≡ file = omega arith in
        let x = less_line d e.file e.line first a in
        let y = less_line e file line second c in
        before_line d file line same (omega arith)
    by_file false is low high =
        before_file d file line (elim (cases_lt d.file file) [ inl lt ↦ lt | inr q ↦ absurd (true≢false (sym (eq-eqb d.file file (omega arith)) ∙ is)) ])

-- a place that a directive is before is another
differs : (d : Missing ℕ) (file line : ℕ) → is_before d file line ≡ true → is_at d file line ≡ false
differs d file line e =
    elim (cases_Bool (is_at d file line)) [
      | inl at ↦
          let both = and_parts (d.file == file) (d.line == line) at in
          let lt = less_line d file line e (eqb-true d.file file both.0) in
          let same = eqb-true d.line line both.1 in
          absurd (omega arith)
      | inr fails ↦ fails
    ]

---- those before a place are first

pub parted : (ds : List (Missing ℕ)) (file line : ℕ) → are_in_order ds ≡ true → IsPartitionedBy (λ (d : Missing ℕ). is_before d file line) ds
parted [] file line order i j d le low passes = absurd (omega arith)
parted (x ∷ xs) file line order zero zero d le low passes = passes
parted (x ∷ xs) file line order zero (suc j) d le low passes =
    let parts = and_parts (list_all (λ (e : Missing ℕ). is_before x e.file e.line) xs) (are_in_order xs) order in
    let first : is_before x (get_or xs j d).file (get_or xs j d).line ≡ true = AllPass-from_list_all (λ (e : Missing ℕ). is_before x e.file e.line) xs parts.0 j d (omega arith) in
    goes_on x (get_or xs j d) file line first passes
parted (x ∷ xs) file line order (suc i) zero d le low passes = absurd (omega arith)
parted (x ∷ xs) file line order (suc i) (suc j) d le low passes =
    parted xs file line (and_parts (list_all (λ (e : Missing ℕ). is_before x e.file e.line) xs) (are_in_order xs) order).1 i j d (omega arith) (omega arith) passes

-- after a directive that is not before the place none is there
none_behind : (x : Missing ℕ) (xs : List (Missing ℕ)) (file line : ℕ) → list_all (λ (e : Missing ℕ). is_before x e.file e.line) xs ≡ true → is_before x file line ≡ false
    → list_any (λ (d : Missing ℕ). is_at d file line) xs ≡ false
none_behind x [] file line all late = refl
none_behind x (y ∷ ys) file line all late =
    let parts = and_parts (is_before x y.file y.line) (list_all (λ (e : Missing ℕ). is_before x e.file e.line) ys) all in
    ap (λ b. b || list_any (λ (d : Missing ℕ). is_at d file line) ys) (other (is_at y file line) refl) ∙ none_behind x ys file line parts.1 late
  where
    other : (b : Bool) → is_at y file line ≡ b → is_at y file line ≡ false
    other false is = is
    other true is =
        let both = and_parts (y.file == file) (y.line == line) is in
        let here : is_before x file line ≡ true =
        ap (λ (k : ℕ). is_before x k line) (sym (eqb-true y.file file both.0)) ∙ ap (λ (k : ℕ). is_before x y.file k) (sym (eqb-true y.line line both.1))
        ∙ (and_parts (is_before x y.file y.line) (list_all (λ (e : Missing ℕ). is_before x e.file e.line) ys) all).0 in
        absurd (true≢false (sym here ∙ late))

or_nothing : (a b : Bool) → b ≡ false → a ≡ (a || b)
or_nothing true b e = refl
or_nothing false b e = sym e

at_place : (ds : List (Missing ℕ)) (file line k : ℕ) → are_in_order ds ≡ true → ((i : ℕ) (d : Missing ℕ) → i < k → is_before (get_or ds i d) file line ≡ true)
    → ((d : Missing ℕ) → k < length ds → is_before (get_or ds k d) file line ≡ false) → k ≤ length ds → is_there (slice_get ds k) file line ≡ list_any (λ (d : Missing ℕ). is_at d file line) ds
at_place [] file line k order before late bound = refl
at_place (x ∷ xs) file line zero order before late bound =
    or_nothing (is_at x file line) (list_any (λ (d : Missing ℕ). is_at d file line) xs)
    (none_behind x xs file line (and_parts (list_all (λ (e : Missing ℕ). is_before x e.file e.line) xs) (are_in_order xs) order).0 (late x (omega arith)))
at_place (x ∷ xs) file line (suc k) order before late bound =
    at_place xs file line k (and_parts (list_all (λ (e : Missing ℕ). is_before x e.file e.line) xs) (are_in_order xs) order).1
    (λ i d h. before (suc i) d (omega arith)) (λ d h. late d (omega arith)) (omega arith)
    ∙ ap (λ b. b || list_any (λ (d : Missing ℕ). is_at d file line) xs) (sym (differs x file line (before 0 x (omega arith))))

-- the directive at the partition point, if it is at the place
pub missing_at : (ds all : List (Missing ℕ)) (file line k : ℕ) → are_in_order all ≡ true → ds ≡ all → k ≤ length ds
    → IsPartitionPoint (λ (d : Missing ℕ). is_before d file line ≡ true) (λ (d : Missing ℕ). is_before d file line ≡ false) ds k
    → is_there (slice_get ds k) file line ≡ list_any (λ (d : Missing ℕ). (d.file == file) && (d.line == line)) all
missing_at ds all file line k order are bound point =
    at_place ds file line k (ap are_in_order are ∙ order) (λ i d h. point.0 i d (omega arith) h) (λ d h. point.1 k d (omega arith) h) bound
    ∙ ap (list_any (λ (d : Missing ℕ). is_at d file line)) are

-- the directive that is read, and what is answered of it
pub found_there : (ds : List (Missing ℕ)) (file line k : ℕ) (d : Missing ℕ) (b p : Bool) → k < length ds → d ≡ get_or ds k d → is_there (slice_get ds k) file line ≡ p → is_at d file line ≡ b → b ≡ p
found_there ds file line k d b p low at is answer =
    sym answer ∙ ap (λ (o : Option (Missing ℕ)). is_there o file line) (ap (λ (x : Missing ℕ). Some x) at ∙ sym (slice_get-get_or ds k d low)) ∙ is

pub none_there : (ds : List (Missing ℕ)) (file line k : ℕ) (p : Bool) → length ds ≤ k → is_there (slice_get ds k) file line ≡ p → false ≡ p
none_there ds file line k p past is = sym (ap (λ (o : Option (Missing ℕ)). is_there o file line) (slice_get_past ds k past)) ∙ is
