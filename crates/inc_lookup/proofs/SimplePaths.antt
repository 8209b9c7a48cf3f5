-- Simple paths in a sorted list: what one of them has in common with the one before it needs no test.
use Rattle.std.proofs.Common.{◌≡◌, ℕ, zero, suc, ◌+◌, ◌-◌, ◌<◌, ◌≤◌, Bool, true, false, cond, ◌&&◌, List, [], ◌∷◌, Some, length, take, drop, get_or, ⊎_elim, refl, sym, ap, ap₂, ◌∙◌, arith}
use Rattle.std.specs.Prelude.{◌==◌, bytes_eq}
use Rattle.std.proofs.lemmas.Bool.{false≢true, cases_lt, cond-true, cond-false, eqb-true}
use Rattle.std.proofs.lemmas.Slice.Eq.{bytes_eq-Decides}
use Rattle.inc_lookup.specs.Paths.{is_absolute, normal_form}
use Rattle.inc_lookup.specs.PathLists.{kept_form, AreShared}
use Rattle.inc_lookup.specs.Projects.{is_no_file}
use Rattle.inc_lookup.specs.SimpleNames.{breaks, has_end, is_simple, is_simple_after, is_simple_path, GoesOn}
use Rattle.inc_lookup.proofs.ReducedLemmas.{dotted, normal_form-dotted, normal_form-plain, normal_form-rooted}
use Rattle.inc_lookup.proofs.SimpleLemmas.{simple_cut, simple_rest, simple-plain, simple-one_line, rooted-one_line}

---- what is carried on

-- no byte of a simple name breaks
pairs : (before : ℕ) (xs : List ℕ) → is_simple_after before xs ≡ true → (k : ℕ) → k < length xs → breaks (get_or (before ∷ xs) k 0) (get_or xs k 0) ≡ false
pairs before [] simple k low = absurd (omega arith)
pairs before (b ∷ bs) simple zero low = (simple_cut (breaks before b) (is_simple_after b bs) simple).0
pairs before (b ∷ bs) simple (suc k) low = pairs b bs (simple_cut (breaks before b) (is_simple_after b bs) simple).1 k (omega arith)

module _ (before : ℕ) (xs ys : List ℕ) (n : ℕ) (same : (k : ℕ) → k < n → get_or xs k 0 ≡ get_or ys k 0) where
  front : (k : ℕ) → k < n → get_or (before ∷ ys) k 0 ≡ get_or (before ∷ xs) k 0
  front zero low = refl
  front (suc k) low = sym (same k (omega arith))

  -- another name that has its first bytes, of which no other breaks
  carried : is_simple_after before xs ≡ true → n ≤ length xs → ((k : ℕ) → n ≤ k → k < length ys → breaks (get_or (before ∷ ys) k 0) (get_or ys k 0) ≡ false)
      → (get_or (before ∷ ys) (length ys) 0 == 47) ≡ false → is_simple_after before ys ≡ true
  carried simple within none end =
      simple_rest before ys (λ k low. ⊎_elim
      (λ below. ap₂ breaks (front k below) (sym (same k below)) ∙ pairs before xs simple k (omega arith))
      (λ behind. none k behind low)
      (cases_lt k n)) end

-- the same after a leading /, and without one
by_root : (root : Bool) (x y : ℕ) (xs ys : List ℕ) (n : ℕ) → (x == 47) ≡ root → x ≡ y → n ≤ length xs → ((k : ℕ) → k < n → get_or xs k 0 ≡ get_or ys k 0)
    → is_simple_path (x ∷ xs) ≡ true → GoesOn (y ∷ ys) n → is_simple_path (y ∷ ys) ≡ true
by_root true x y xs ys n root first within same simple on =
    let is : y ≡ 47 = sym first ∙ eqb-true x 47 root in
    cond-true (y == 47) (is_simple ys) (is_simple (y ∷ ys)) (ap (λ b. b == 47) (sym first) ∙ root)
    ∙ carried 47 xs ys n same (sym (cond-true (x == 47) (is_simple xs) (is_simple (x ∷ xs)) root) ∙ simple) within
    (λ k behind low.
    let next : k + 1 ≡ suc k = omega arith in
    ap (λ b. breaks (get_or (b ∷ ys) k 0) (get_or ys k 0)) (sym is) ∙ (rw next at (on.none k behind (omega arith))))
    (let last : suc (length ys) - 1 ≡ length ys = omega arith in
    ap (λ b. get_or (b ∷ ys) (length ys) 0 == 47) (sym is) ∙ (rw last at on.end))
by_root false x y xs ys n root first within same simple on =
    cond-false (y == 47) (is_simple ys) (is_simple (y ∷ ys)) (ap (λ b. b == 47) (sym first) ∙ root)
    ∙ carried 47 (x ∷ xs) (y ∷ ys) (suc n) all (sym (cond-false (x == 47) (is_simple xs) (is_simple (x ∷ xs)) root) ∙ simple) (omega arith) none
    (let last : suc (length ys) - 1 ≡ length ys = omega arith in rw last at on.end)
  where
    all : (k : ℕ) → k < suc n → get_or (x ∷ xs) k 0 ≡ get_or (y ∷ ys) k 0
    all zero low = first
    all (suc k) low = same k (omega arith)

    none : (k : ℕ) → suc n ≤ k → k < length (y ∷ ys) → breaks (get_or (47 ∷ y ∷ ys) k 0) (get_or (y ∷ ys) k 0) ≡ false
    none zero behind low = absurd (omega arith)
    none (suc k) behind low =
        let next : k + 1 ≡ suc k = omega arith in
        rw next at (on.none k (omega arith) (omega arith))

-- a path that has the first bytes of a simple one, and then goes on as one
pub simple_path_on : (last path : List ℕ) (common : ℕ) → is_simple_path last ≡ true → AreShared last path common → 0 < common → GoesOn path (common - 1) → is_simple_path path ≡ true
simple_path_on [] path common simple shared some on = let left = shared.left in absurd (omega arith)
simple_path_on (x ∷ xs) [] common simple shared some on = let right = shared.right in absurd (omega arith)
simple_path_on (x ∷ xs) (y ∷ ys) common simple shared some on =
    let left = shared.left in
    by_root (x == 47) x y xs ys (common - 1) refl (shared.same 0 (omega arith)) (omega arith) (λ k low. shared.same (suc k) (omega arith)) simple on

---- what simple paths are

whole : (path : List ℕ) (root : Bool) → is_absolute path ≡ root → is_simple_path path ≡ true → (has_end path ≡ false) × (normal_form path ≡ Some path)
whole path true root simple =
    let name : is_simple (drop 1 path) ≡ true = sym (cond-true (is_absolute path) (is_simple (drop 1 path)) (is_simple path) root) ∙ simple in
    (rooted-one_line path root name, normal_form-rooted path root (simple-plain (drop 1 path) name))
whole path false root simple =
    let name : is_simple path ≡ true = sym (cond-false (is_absolute path) (is_simple (drop 1 path)) (is_simple path) root) ∙ simple in
    (simple-one_line path name, normal_form-plain path (simple-plain path name))

pub simple_path : (path : List ℕ) → is_simple_path path ≡ true → (has_end path ≡ false) × (normal_form path ≡ Some path)
simple_path path simple = whole path (is_absolute path) refl simple

shorter : (path : List ℕ) → take 2 path ≡ 46 ∷ 47 ∷ [] → length (drop 2 path) < length path
shorter path begins = let size : length path ≡ suc (suc (length (drop 2 path))) = ap length (dotted path (drop 2 path) begins refl) in omega arith

by_dot : (dot : Bool) (path : List ℕ) → bytes_eq (take 2 path) (46 ∷ 47 ∷ []) ≡ dot → (length (cond dot (drop 2 path) path) < length path → is_absolute (cond dot (drop 2 path) path) ≡ false)
    → is_simple_path (cond dot (drop 2 path) path) ≡ true → (has_end path ≡ false) × (normal_form path ≡ Some (cond dot (drop 2 path) path))
by_dot true path is relative simple =
    let rest = drop 2 path in
    let begins : take 2 path ≡ 46 ∷ 47 ∷ [] = (bytes_eq-Decides (take 2 path) (46 ∷ 47 ∷ [])).0 is in
    let whole' = dotted path rest begins refl in
    let name : is_simple rest ≡ true = sym (cond-false (is_absolute rest) (is_simple (drop 1 rest)) (is_simple rest) (relative (shorter path begins))) ∙ simple in
    (ap has_end whole' ∙ simple-one_line rest name, ap normal_form whole' ∙ normal_form-dotted rest (simple-plain rest name))
by_dot false path is relative simple = simple_path path simple

-- a written path whose kept form is simple, and has no / after a ./
pub simple_kept : (path form : List ℕ) → form ≡ kept_form path → (length form < length path → is_absolute form ≡ false) → is_simple_path form ≡ true → (has_end path ≡ false) × (normal_form path ≡ Some form)
simple_kept path form is relative simple =
    rw is (by_dot (bytes_eq (take 2 path) (46 ∷ 47 ∷ [])) path refl (rw is at relative) (rw is at simple))

-- a simple path is that of a file
pub simple_file : (path : List ℕ) → is_simple_path path ≡ true → is_no_file (Some path) ≡ false
simple_file [] simple = absurd (false≢true simple)
simple_file (x ∷ []) simple = one (x == 47) refl
  where
    one : (root : Bool) → (x == 47) ≡ root → is_no_file (Some (x ∷ [])) ≡ false
    one true root = absurd (false≢true (sym (cond-true (x == 47) false (is_simple (x ∷ [])) root) ∙ simple))
    one false root = rw root refl
simple_file (x ∷ y ∷ path) simple = longer (x == 47)
  where
    longer : (root : Bool) → (root && false) ≡ false
    longer true = refl
    longer false = refl
