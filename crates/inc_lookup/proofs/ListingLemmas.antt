-- Paths as they are handed in, and what they make of a list of files.
use Rattle.std.proofs.Common.{◌≡◌, Bor, ℕ, suc, ◌+◌, ◌<◌, ◌≤◌, Bool, true, false, ◌||◌, cond, List, [], ◌∷◌, ◌++◌, Option, Some, None, is_some, length, take, drop, get_or, refl, sym, ap, subst, ◌∙◌, arith}
use Rattle.std.specs.Prelude.{◌==◌, fold, bytes_eq, not, nat_lt, is_none, option_map, if◌then◌else◌, map, position, Ok, Err}
use Rattle.std.specs.Option.{option_map_or}
use Rattle.std.specs.List.{All, cons_option, list_any, position_from, position_or_len, take-map}
use Rattle.std.proofs.lemmas.Bool.{or_from, or_right, false≢true, true≢false, le-ltb, false_from_ne_true}
use Rattle.std.proofs.lemmas.List.{append-nil, append_assoc, drop-map, take_more, take-append-drop, length-map, get_or_default, map-append, drop_more, length-take-le, map_more}
use Rattle.std.proofs.lemmas.List.Elements.{All-append, All-drop, All-push, All-take}
use Rattle.std.proofs.lemmas.List.Folds.{list_any_none, list_any_at}
use Rattle.std.proofs.lemmas.Iterator.Adapters.{position_from-zero}
use Rattle.memchr.specs.Find.{IsFirstByte, is_byte2}
pub use Rattle.inc_lookup.specs.SimpleNames.{has_end}
use Rattle.inc_lookup.specs.Paths.{normal_form}
use Rattle.inc_lookup.specs.Invariants.{IsNormal, IsGoodForm, AreNormalForms, IsKept, IsTabled, AreTabled}
use Rattle.inc_lookup.specs.declared.projects.ProjectFault.{ProjectFault}
use Rattle.inc_lookup.specs.declared.projects.ProjectFault.TheVariants.{TooManyFiles, BadPath, SamePath}
use Rattle.inc_lookup.specs.Projects.{is_bad_path, is_bad_file_path, is_no_file, place_of, same_path_from, same_path, bad_path, each_once, with_path, normal_forms, first_some, project_fault, project_of, search_of}
use Rattle.inc_lookup.proofs.CleanPaths.{forms_clean}
use Rattle.inc_lookup.proofs.ShortPaths.{forms_short}
use Rattle.inc_lookup.proofs.NormalLemmas.{normal_form-normal, position-map}
use Rattle.inc_lookup.specs.declared.projects.TheConstants.{MOST_FILES}

pub has_end-found : (path : List ℕ) (k : ℕ) → IsFirstByte (is_byte2 0 10) path (Some k) → has_end path ≡ true
has_end-found path k found = list_any_at (λ b. (b == 0) || (b == 10)) path k 0 found.0.high found.1

pub has_end-none : (path : List ℕ) → IsFirstByte (is_byte2 0 10) path None → has_end path ≡ false
has_end-none path none =
    list_any_none (λ b. (b == 0) || (b == 10)) path (λ k d high. false_from_ne_true _ (λ is. none k (omega arith) high (ap (λ b. (b == 0) || (b == 10)) (get_or_default path k 0 d high) ∙ is)))

-- a search for them tells
pub has_end-is : (path : List ℕ) (found : Option ℕ) → IsFirstByte (is_byte2 0 10) path found → has_end path ≡ is_some found
has_end-is path None none = has_end-none path none
has_end-is path (Some k) found = has_end-found path k found

-- of a path without them that is not too long, what is left to tell is whether it has a normal form
pub good_form : (path : List ℕ) (form : Option (List ℕ)) → has_end path ≡ false → length path ≤ 4096 → form ≡ normal_form path → IsGoodForm (is_bad_path path) (normal_form path) form
good_form path None fine short is = or_right _ _ (ap is_none (sym is))
good_form path (Some f) fine short is = (or_from _ _ (or_from _ _ fine (le-ltb _ _ short)) (ap is_none (sym is)), sym is, normal_form-normal path f (sym is))

-- and one in normal form that is of a file is good as it is
pub good_file : (path : List ℕ) → has_end path ≡ false → length path ≤ 4096 → Some path ≡ normal_form path → is_no_file (Some path) ≡ false →
    IsGoodForm (is_bad_file_path path) (normal_form path) (Some path)
good_file path fine short is file = let g = good_form path (Some path) fine short is in (or_from _ _ g.0 (subst (λ f. is_no_file f ≡ false) is file), g.1, g.2)

-- of a path with a normal form, what is left to tell is whether that is one of a file
pub good_dir : (path form : List ℕ) (found : Option (List ℕ)) → IsGoodForm (is_bad_path path) (normal_form path) found → found ≡ Some form → is_no_file (Some form) ≡ false → IsGoodForm (is_bad_file_path path) (normal_form path) (Some form)
good_dir path form found good is file =
    let g = subst (IsGoodForm (is_bad_path path) (normal_form path)) is good in
    (or_from _ _ g.0 (subst (λ f. is_no_file f ≡ false) (sym g.1) file), g.1, g.2)

none_else : (b : Bool) (i : ℕ) (more all out : Option ℕ) → cond b (Some i) more ≡ None → (more ≡ None → all ≡ out) → cond b (Some i) all ≡ out
none_else true i more all out e rest = cc
none_else false i more all out e rest = rest e

some_else : (b : Bool) (i j : ℕ) (more all : Option ℕ) → cond b (Some i) more ≡ Some j → (more ≡ Some j → all ≡ Some j) → cond b (Some i) all ≡ Some j
some_else true i j more all e rest = e
some_else false i j more all e rest = rest e

module _ {X : Type 0} (p : X → Bool) where
  from_none : (i : ℕ) (xs ys : List X) → position_from p i xs ≡ None → position_from p i (xs ++ ys) ≡ position_from p (i + length xs) ys
  from_none i [] ys e =
      let same : i ≡ i + 0 = omega arith in
      ap (λ (n : ℕ). position_from p n ys) same
  from_none i (x ∷ xs) ys e =
      let same : i + 1 + length xs ≡ i + suc (length xs) = omega arith in
      none_else (p x) i _ _ _ e (λ rest. from_none (i + 1) xs ys rest ∙ ap (λ (n : ℕ). position_from p n ys) same)

  from_some : (i j : ℕ) (xs ys : List X) → position_from p i xs ≡ Some j → position_from p i (xs ++ ys) ≡ Some j
  from_some i j [] ys e = cc
  from_some i j (x ∷ xs) ys e = some_else (p x) i j _ _ e (λ rest. from_some (i + 1) j xs ys rest)

  -- the first place in two lists, one after the other
  pub position-none-append : (xs ys : List X) → position p xs ≡ None → position p (xs ++ ys) ≡ position_from p (length xs) ys
  position-none-append xs ys none =
      let same : 0 + length xs ≡ length xs = omega arith in
      position_from-zero p (xs ++ ys) ∙ from_none 0 xs ys (sym (position_from-zero p xs) ∙ none)
      ∙ ap (λ (n : ℕ). position_from p n ys) same

  pub position-some-append : (xs ys : List X) (i : ℕ) → position p xs ≡ Some i → position p (xs ++ ys) ≡ Some i
  position-some-append xs ys i some =
      position_from-zero p (xs ++ ys) ∙ from_some 0 i xs ys (sym (position_from-zero p xs) ∙ some)

  pub position-none-push : (xs : List X) (x : X) → position p xs ≡ None → p x ≡ false → position p (xs ++ x ∷ []) ≡ None
  position-none-push xs x none fails = position-none-append xs (x ∷ []) none ∙ rw fails refl

  pub position-none-then : (xs : List X) (x : X) (ys : List X) → position p xs ≡ None → p x ≡ true → position p (xs ++ x ∷ ys) ≡ Some (length xs)
  position-none-then xs x ys none passes = position-none-append xs (x ∷ ys) none ∙ rw passes refl

-- one more path that is not bad
pub forms-push : (bad : List ℕ → Bool) (paths forms : List (List ℕ)) (path form : List ℕ) → AreNormalForms bad paths forms → IsGoodForm (bad path) (normal_form path) (Some form) → AreNormalForms bad (paths ++ path ∷ []) (forms ++ form ∷ [])
forms-push bad paths forms path form so_far good = record {
  good = position-none-push bad paths path so_far.good good.0;
  are = map-append normal_form paths (path ∷ []) ∙ rw (so_far.are, good.1) (sym (map-append (λ (f : List ℕ). Some f) forms (form ∷ [])));
  normal = All-push IsNormal forms form so_far.normal good.2;
}

module _ {X : Type 0} (f : X → List ℕ) (bad : List ℕ → Bool) (xs : List X) (i : ℕ) (d : X) where
  pub forms_more : (forms : List (List ℕ)) (form : List ℕ) → i < length xs → AreNormalForms bad (map f (take i xs)) forms → IsGoodForm (bad (f (get_or xs i d))) (normal_form (f (get_or xs i d))) (Some form) → AreNormalForms bad (map f (take (i + 1) xs)) (forms ++ form ∷ [])
  forms_more forms form within so_far good = rw (map_more f xs i d within) (forms-push bad (map f (take i xs)) forms (f (get_or xs i d)) form so_far good)

  map_cut : i < length xs → map f xs ≡ map f (take i xs) ++ f (get_or xs i d) ∷ map f (drop (i + 1) xs)
  map_cut within =
      ap (map f) (sym (take-append-drop i xs) ∙ ap (λ (l : List X). take i xs ++ l) (drop_more xs i d within))
      ∙ map-append f (take i xs) (get_or xs i d ∷ drop (i + 1) xs)

  pub forms_stop : (forms : List (List ℕ)) → i < length xs → AreNormalForms bad (map f (take i xs)) forms → bad (f (get_or xs i d)) ≡ true → position bad (map f xs) ≡ Some i
  forms_stop forms within so_far stops =
      let long : length (map f (take i xs)) ≡ i = length-map (take i xs) f ∙ length-take-le i xs (omega arith) in
      ap (position bad) (map_cut within)
      ∙ position-none-then bad (map f (take i xs)) (f (get_or xs i d)) (map f (drop (i + 1) xs)) so_far.good stops
      ∙ ap (λ (n : ℕ). Some n) long

first_among : (b : Bool) (i : ℕ) → is_some (cond b (Some i) None) ≡ true → cond b (Some i) None ≡ Some i
first_among true i some = refl
first_among false i some = absurd (false≢true some)

-- a place that is there
pub position_there : {X : Type 0} (p : X → Bool) (xs : List X) → is_some (position p xs) ≡ true → position p xs ≡ Some (position_or_len p xs)
position_there p xs some = first_among (nat_lt (position_or_len p xs) (length xs)) (position_or_len p xs) some

module _ {X : Type 0} (p : X → Bool) where
  some_else_none : (b : Bool) (i : ℕ) (r : Option ℕ) (more : Bool) → is_some r ≡ more → is_some (cond b (Some i) r) ≡ (b || more)
  some_else_none true i r more e = refl
  some_else_none false i r more e = e

  some_from : (i : ℕ) (xs : List X) → is_some (position_from p i xs) ≡ list_any p xs
  some_from i [] = refl
  some_from i (x ∷ xs) = some_else_none (p x) i _ _ (some_from (i + 1) xs)

  -- a place is there where one passes
  pub is_some-position : (xs : List X) → is_some (position p xs) ≡ list_any p xs
  is_some-position xs = ap is_some (position_from-zero p xs) ∙ some_from 0 xs

pub not-false : (b : Bool) → not b ≡ false → b ≡ true
not-false true e = refl
not-false false e = cc

-- nothing where nothing is there
pub none_from_is_some : {A : Type 0} (o : Option A) → is_some o ≡ false → o ≡ None
none_from_is_some None none = refl
none_from_is_some (Some i) none = absurd (true≢false none)

---- a path more in the table

-- two paths that are equal stay the first
same_stays_by : (found : Option ℕ) (n : ℕ) (more all : Option (ℕ × ℕ)) (p : ℕ × ℕ) → option_map_or (λ first. Some (first, n)) found more ≡ Some p → (more ≡ Some p → all ≡ Some p) → option_map_or (λ first. Some (first, n)) found all ≡ Some p
same_stays_by None n more all p e rest = rest e
same_stays_by (Some k) n more all p e rest = e

same_stays : (done ps : List (List ℕ)) (x : List ℕ) (p : ℕ × ℕ) → same_path_from done ps ≡ Some p → same_path_from done (ps ++ x ∷ []) ≡ Some p
same_stays done [] x p e = cc
same_stays done (y ∷ ps) x p e = same_stays_by (place_of y done) (length done) _ _ p e (λ rest. same_stays (done ++ y ∷ []) ps x p rest)

same_last_by : (found : Option ℕ) (n : ℕ) (more all out : Option (ℕ × ℕ)) → option_map_or (λ first. Some (first, n)) found more ≡ None → (more ≡ None → all ≡ out) → option_map_or (λ first. Some (first, n)) found all ≡ out
same_last_by None n more all out e rest = rest e
same_last_by (Some k) n more all out e rest = cc

-- where none are equal, the last path tells
same_last : (done ps : List (List ℕ)) (x : List ℕ) → same_path_from done ps ≡ None → same_path_from done (ps ++ x ∷ []) ≡ option_map_or (λ first. Some (first, length (done ++ ps))) (place_of x (done ++ ps)) None
same_last done [] x e = rw (append-nil done) refl
same_last done (y ∷ ps) x e =
    same_last_by (place_of y done) (length done) _ _ _ e (λ rest. same_last (done ++ y ∷ []) ps x rest ∙ ap (λ all. option_map_or (λ first. Some (first, length all)) (place_of x all) None) (append_assoc done (y ∷ []) ps))

module _ (forms keys : List (List ℕ)) (x : List ℕ) where
  pub tabled_past : (same : Option (ℕ × ℕ)) → is_some same ≡ true → IsTabled forms keys same → IsTabled (forms ++ x ∷ []) keys same
  tabled_past None some h = absurd (false≢true some)
  tabled_past (Some p) some h = same_stays [] forms x p h

  pub tabled_new : (same : Option (ℕ × ℕ)) (after : List (List ℕ)) → is_some same ≡ false → after ≡ keys ++ x ∷ [] → place_of x keys ≡ None → IsTabled forms keys same → IsTabled (forms ++ x ∷ []) after same
  tabled_new None after none more absent h = (
    more ∙ ap (λ ps. ps ++ x ∷ []) h.0,
    same_last [] forms x h.1 ∙ rw (← h.0, absent) refl,
  )
  tabled_new (Some p) after none more absent h = absurd (true≢false none)

  pub tabled_there : (same : Option (ℕ × ℕ)) (after : List (List ℕ)) (first second : ℕ) → is_some same ≡ false → place_of x keys ≡ Some first → second ≡ length keys → IsTabled forms keys same
      → IsTabled (forms ++ x ∷ []) after (Some (first, second))
  tabled_there None after first second none there last h = same_last [] forms x h.1 ∙ rw (← h.0, there, last) refl
  tabled_there (Some p) after first second none there last h = absurd (true≢false none)

-- one more path that is not bad, in the table
pub tabled_more : (paths : List (Bor (List ℕ))) (i : ℕ) (d : Bor (List ℕ)) (keys after : List (List ℕ)) (same then_same : Option (ℕ × ℕ)) (form : List ℕ) → i < length paths
    → AreTabled (map (λ p. p.now) (take i paths)) keys same → IsGoodForm (is_bad_file_path (get_or paths i d).now) (normal_form (get_or paths i d).now) (Some form)
    → ((forms : List (List ℕ)) → IsTabled forms keys same → IsTabled (forms ++ form ∷ []) after then_same) → AreTabled (map (λ p. p.now) (take (i + 1) paths)) after then_same
tabled_more paths i d keys after same then_same form low h good more = record {
  forms = h.forms ++ form ∷ [];
  good = forms_more (λ p. p.now) is_bad_file_path paths i d h.forms form low h.good good;
  tabled = more h.forms h.tabled;
}

normal_forms-are : (paths forms : List (List ℕ)) → map normal_form paths ≡ map (λ (f : List ℕ). Some f) forms → normal_forms paths ≡ forms
normal_forms-are [] [] e = refl
normal_forms-are [] (g ∷ gs) e = cc
normal_forms-are (p ∷ ps) [] e = cc
normal_forms-are (p ∷ ps) (g ∷ gs) e =
    let first : normal_form p ≡ Some g = cc in
    let more : map normal_form ps ≡ map (λ (h : List ℕ). Some h) gs = cc in
    ap (λ (o : Option (List ℕ)). cons_option o (normal_forms ps)) first ∙ ap (λ (l : List (List ℕ)). g ∷ l) (normal_forms-are ps gs more)

later : (b : Bool) (n i : ℕ) (more all : Option ℕ) → more ≡ option_map (λ k. n + k) all → cond b (Some (n + i)) more ≡ option_map (λ k. n + k) (cond b (Some i) all)
later true n i more all e = refl
later false n i more all e = e

zero_more : (n : ℕ) → n ≡ n + 0
zero_more n = omega arith

position_from-shift : {X : Type 0} (p : X → Bool) (n i : ℕ) (xs : List X) → position_from p (n + i) xs ≡ option_map (λ k. n + k) (position_from p i xs)
position_from-shift p n i [] = refl
position_from-shift p n i (x ∷ xs) =
    let same : n + i + 1 ≡ n + (i + 1) = omega arith in
    later (p x) n i _ _ (ap (λ (k : ℕ). position_from p k xs) same ∙ position_from-shift p n (i + 1) xs)

-- a bad path among the files, and among the directories
bad_file : (paths dirs : List (List ℕ)) (i : ℕ) → position is_bad_file_path paths ≡ Some i → bad_path paths dirs ≡ Some i
bad_file paths dirs i bad =
    position-some-append (λ (b : Bool). b) (map is_bad_file_path paths) (map is_bad_path dirs) i (position-map (λ (b : Bool). b) is_bad_file_path paths ∙ bad)

good_files : (paths dirs : List (List ℕ)) → position is_bad_file_path paths ≡ None → bad_path paths dirs ≡ option_map (λ k. length paths + k) (position is_bad_path dirs)
good_files paths dirs good =
    let long : length (map is_bad_file_path paths) ≡ length paths + 0 = length-map paths is_bad_file_path ∙ zero_more (length paths) in
    position-none-append (λ (b : Bool). b) (map is_bad_file_path paths) (map is_bad_path dirs) (position-map (λ (b : Bool). b) is_bad_file_path paths ∙ good)
    ∙ ap (λ (n : ℕ). position_from (λ (b : Bool). b) n (map is_bad_path dirs)) long
    ∙ position_from-shift (λ (b : Bool). b) (length paths) 0 (map is_bad_path dirs)
    ∙ ap (option_map (λ (k : ℕ). length paths + k)) (sym (position_from-zero (λ (b : Bool). b) (map is_bad_path dirs)) ∙ position-map (λ (b : Bool). b) is_bad_path dirs)

-- what holds of paths holds of each of them once
with_all : (P : List ℕ → Type 0) (done : List (List ℕ)) (p : List ℕ) → All P done → P p → All P (with_path done p)
with_all P done p all here = by_test (list_any (bytes_eq p) done) refl
  where
    by_test : (b : Bool) → list_any (bytes_eq p) done ≡ b → All P (with_path done p)
    by_test true e = rw e all
    by_test false e = rw e (All-push P done p all here)

fold_all : (P : List ℕ → Type 0) (done paths : List (List ℕ)) → All P done → All P paths → All P (fold with_path done paths)
fold_all P done [] all rest = all
fold_all P done (p ∷ ps) all rest = fold_all P (with_path done p) ps (with_all P done p all (rest 0 p (omega arith))) (λ k d low. rest (suc k) d (omega (arith, low)))

pub once_all : (P : List ℕ → Type 0) (paths : List (List ℕ)) → All P paths → All P (each_once paths)
once_all P paths all = fold_all P [] paths (λ k d low. absurd (omega (arith, low))) all

-- the first fault of the three
abbrev first_fault : Bool → Option ℕ → Option (ℕ × ℕ) → Option ProjectFault
first_fault many bad same =
    first_some ((if many then Some TooManyFiles else None) ∷ option_map BadPath bad ∷ option_map (λ (p : ℕ × ℕ). SamePath p.0 p.1) same ∷ [])

-- and of the parts of a list, each of them once
pub parts_all : {X : Type 0} (P : List ℕ → Type 0) (f : X → List ℕ) (k : ℕ) (xs front back : List X) (none kept all : List (List ℕ))
    → front ≡ take k xs → back ≡ drop k xs → none ≡ [] → kept ≡ none ++ each_once (map f front) → all ≡ kept ++ each_once (map f back)
    → All P (map f xs) → All P all
parts_all P f k xs front back none kept all front_is back_is none_is kept_is all_is each =
    rw (all_is, kept_is, none_is, front_is, back_is)
    (All-append P (each_once (map f (take k xs))) (each_once (map f (drop k xs)))
    (once_all P (map f (take k xs)) (subst (All P) (take-map f k xs) (All-take P k (map f xs) each)))
    (once_all P (map f (drop k xs)) (subst (All P) (drop-map f k xs) (All-drop P k (map f xs) each))))

-- and of those of the directories of an include path
pub search_all : (P : List ℕ → Type 0) (quoted : ℕ) (dirs : List (List ℕ)) → All P dirs → All P (search_of quoted dirs).dirs
search_all P quoted dirs all =
    All-append P (each_once (take quoted dirs)) (each_once (drop quoted dirs))
    (once_all P (take quoted dirs) (All-take P quoted dirs all))
    (once_all P (drop quoted dirs) (All-drop P quoted dirs all))

module _ (paths : List (List ℕ)) (quoted : ℕ) (dirs : List (List ℕ)) where
  refused : (fault : ProjectFault) → project_fault paths dirs ≡ Some fault → project_of paths quoted dirs ≡ Err fault
  refused fault e = ap (λ (o : Option ProjectFault). option_map_or Err o (Ok (record { paths = normal_forms paths; search = search_of quoted (normal_forms dirs) }))) e

  few_files : length paths ≤ MOST_FILES → project_fault paths dirs ≡ first_fault false (bad_path paths dirs) (same_path paths)
  few_files few = ap (λ (b : Bool). first_fault b (bad_path paths dirs) (same_path paths)) (le-ltb _ _ few)

  pub fault-file : (i : ℕ) → length paths ≤ MOST_FILES → position is_bad_file_path paths ≡ Some i → project_of paths quoted dirs ≡ Err (BadPath i)
  fault-file i few bad =
      refused (BadPath i) (few_files few ∙ ap (λ (o : Option ℕ). first_fault false o (same_path paths)) (bad_file paths dirs i bad))

  pub fault-dir : (i : ℕ) → length paths ≤ MOST_FILES → position is_bad_file_path paths ≡ None → position is_bad_path dirs ≡ Some i → project_of paths quoted dirs ≡ Err (BadPath (length paths + i))
  fault-dir i few good bad =
      let at = good_files paths dirs good ∙ ap (option_map (λ (k : ℕ). length paths + k)) bad in
      refused (BadPath (length paths + i)) (few_files few ∙ ap (λ (o : Option ℕ). first_fault false o (same_path paths)) at)

  module _ (forms dir_forms : List (List ℕ)) (few : length paths ≤ MOST_FILES) (file_forms : AreNormalForms is_bad_file_path paths forms) (forms_of_dirs : AreNormalForms is_bad_path dirs dir_forms) where
    good_paths : project_fault paths dirs ≡ first_fault false None (same_path paths)
    good_paths =
        few_files few ∙ ap (λ (o : Option ℕ). first_fault false o (same_path paths)) (good_files paths dirs file_forms.good ∙ ap (option_map (λ (k : ℕ). length paths + k)) forms_of_dirs.good)

    same_path-forms : same_path paths ≡ same_path_from [] forms
    same_path-forms = ap (same_path_from []) (normal_forms-are paths forms file_forms.are)

    pub fault-same : (p : ℕ × ℕ) → same_path_from [] forms ≡ Some p → project_of paths quoted dirs ≡ Err (SamePath p.0 p.1)
    fault-same p same =
        refused (SamePath p.0 p.1) (good_paths ∙ ap (λ (o : Option (ℕ × ℕ)). first_fault false None o) (same_path-forms ∙ same))

    pub project_made : same_path_from [] forms ≡ None → project_of paths quoted dirs ≡ Ok (record { paths = forms; search = search_of quoted dir_forms })
    project_made differ =
        let none : project_fault paths dirs ≡ None = good_paths ∙ ap (λ (o : Option (ℕ × ℕ)). first_fault false None o) (same_path-forms ∙ differ) in
        ap (λ (o : Option ProjectFault). option_map_or Err o (Ok (record { paths = normal_forms paths; search = search_of quoted (normal_forms dirs) }))) none
        ∙ ap (λ (l : List (List ℕ)). Ok (record { paths = l; search = search_of quoted (normal_forms dirs) })) (normal_forms-are paths forms file_forms.are)
        ∙ ap (λ (l : List (List ℕ)). Ok (record { paths = forms; search = search_of quoted l })) (normal_forms-are dirs dir_forms forms_of_dirs.are)

    -- as many normal forms as paths
    same_count : length forms ≡ length paths
    same_count = sym (length-map forms (λ (f : List ℕ). Some f)) ∙ ap length (sym file_forms.are) ∙ length-map paths normal_form

    -- what a project keeps
    pub is_kept : (longest : ℕ) → All (λ (path : List ℕ). length path ≤ longest) forms → same_path_from [] forms ≡ None → IsKept longest forms (search_of quoted dir_forms).dirs
    is_kept longest short once =
        let good = sym (is_some-position is_bad_file_path paths) ∙ ap is_some file_forms.good in record {
          few = omega (arith, same_count);
          short = short;
          paths_short = forms_short paths forms good file_forms.are;
          paths_normal = file_forms.normal;
          dirs_normal = search_all IsNormal quoted dir_forms forms_of_dirs.normal;
          once = once;
          paths_clean = forms_clean paths forms good file_forms.are;
        }

-- a number that no text passes, where one more is looked at
pub longest_more : (xs : List (List ℕ)) (i : ℕ) (x : List ℕ) (old new : ℕ) → i < length xs → x ≡ get_or xs i x → All (λ (p : List ℕ). length p ≤ old) (take i xs) → old ≤ new → length x ≤ new
    → All (λ (p : List ℕ). length p ≤ new) (take (i + 1) xs)
longest_more xs i x old new low is so_far more here =
    let last : length (get_or xs i x) ≤ new = subst (λ (v : List ℕ). length v ≤ new) is here in
    rw (take_more xs i x low)
    (All-push (λ (p : List ℕ). length p ≤ new) (take i xs) (get_or xs i x) (λ k e high. let was = so_far k e high in omega arith) last)
