-- What is before a / in paths, as the code keeps it.
use Rattle.std.proofs.Common.{◌≡◌, ◌⊎◌, ℕ, zero, suc, ◌+◌, ◌-◌, ◌<◌, ◌≤◌, Bool, true, false, List, [], ◌∷◌, ◌++◌, Option, Some, None, Result, Err, length, slice_get, take, drop, get_or, inl, inr, refl, sym, ap, subst, ◌∙◌, arith, bytes_eq}
use Rattle.std.specs.Prelude.{◌==◌, ◌&&◌, ◌||◌, not, if◌then◌else◌, IsUtf8, codes, is_some, nat_le, option_and_then, unwrap_or}
use Rattle.std.specs.List.{list_any}
use Rattle.std.proofs.lemmas.Bool.{cases_Bool, eq-eqb, eqb-true, false_from_ne_true, true≢false}
use Rattle.std.specs.Str.{is_utf8}
use Rattle.std.proofs.lemmas.Str.{IsUtf8-from_is_utf8, is_utf8-from_IsUtf8}
use Rattle.std.proofs.lemmas.Option.{slice_get-get_or, slice_get_cases, slice_get_within}
use Rattle.std.proofs.lemmas.List.{append_assoc, drop_all, drop_more, get_or-take, length-take-le}
use Rattle.std.proofs.lemmas.List.Folds.{list_any-append}
use Rattle.std.proofs.lemmas.Slice.Eq.{bytes_eq-Decides}
use Rattle.inc_build.specs.Builds.{is_named, with_name}
use Rattle.inc_build.specs.CompilerWords.{after}
use Rattle.inc_build.specs.Paths.{is_absolute}
use Rattle.inc_lookup.specs.declared.listings.TheConstants.{LONGEST_PATH}
use Rattle.inc_inputs.specs.BuildFolders.{AreClosed, AreFolders, HasAll, HasMore, front_of, has_front, is_front, is_kept}
use Rattle.inc_inputs.specs.BuildProjects.{has_below, is_below, nul_ended}
use Rattle.inc_inputs.specs.BuildSteps.{folder_list, root_list}
use Rattle.inc_inputs.specs.Inputs.{FilesBelow, Gives}
use Rattle.inc_inputs.specs.Reports.{Report, not_utf8}
use Rattle.inc_inputs.specs.Steps.{reads_as}

---- what is before a /

begins : List ℕ → Bool
begins r = is_some (after (codes "/") r)

begins_is : (x : ℕ) (xs : List ℕ) → (x == 47) ≡ false → is_some (after (codes "/") (x ∷ xs)) ≡ false
begins_is x xs isnt = rw isnt refl

-- what begins with / has it first
first_of : (p : List ℕ) (n : ℕ) → is_some (after (codes "/") (drop n p)) ≡ true → (n < length p) × (get_or p n 0 ≡ 47)
first_of [] zero h = absurd (true≢false (sym h))
first_of [] (suc n) h = absurd (true≢false (sym h))
first_of (x ∷ xs) zero h =
    elim (cases_Bool (x == 47)) [
      | inl is ↦ (omega arith, eqb-true x 47 is)
      | inr isnt ↦ absurd (true≢false (sym h ∙ begins_is x xs isnt))
    ]
first_of (x ∷ xs) (suc n) h = let more = first_of xs n h in (omega (arith, more.0), more.1)

first_at : (p : List ℕ) (n : ℕ) → n < length p → get_or p n 0 ≡ 47 → is_some (after (codes "/") (drop n p)) ≡ true
first_at [] n low is = absurd (omega (arith, low))
first_at (x ∷ xs) zero low is = rw (eq-eqb x 47 is) refl
first_at (x ∷ xs) (suc n) low is = first_at xs n (omega (arith, low)) is

abbrev if_same : Bool → (rest : List ℕ) → Bool
if_same b rest = is_some (option_and_then (after (codes "/")) (if b then Some rest else None))

pub front_is : (f p : List ℕ) → is_front f p ≡ true → (length f < length p) × (get_or p (length f) 0 ≡ 47) × (take (length f) p ≡ f)
front_is f p h =
    elim (cases_Bool (bytes_eq (take (length f) p) f)) [
      | inl is ↦ (let first = first_of p (length f) (subst (λ b. if_same b (drop (length f) p) ≡ true) is h) in
          (first.0, first.1, (bytes_eq-Decides (take (length f) p) f).0 is))
      | inr isnt ↦ absurd (true≢false (sym (subst (λ b. if_same b (drop (length f) p) ≡ true) isnt h)))
    ]

pub is_front_of : (f p : List ℕ) → length f < length p → get_or p (length f) 0 ≡ 47 → take (length f) p ≡ f → is_front f p ≡ true
is_front_of f p low is same =
    subst (λ b. if_same b (drop (length f) p) ≡ true) (sym ((bytes_eq-Decides (take (length f) p) f).1 same)) (first_at p (length f) low is)

take_less : (p : List ℕ) (m n : ℕ) → m ≤ n → take m (take n p) ≡ take m p
take_less p zero n low = refl
take_less p (suc m) zero low = absurd (omega (arith, low))
take_less [] (suc m) (suc n) low = refl
take_less (x ∷ xs) (suc m) (suc n) low = ap (λ l. x ∷ l) (take_less xs m n (omega (arith, low)))

-- of what is before a / in a path, too
pub front_more : (g f p : List ℕ) → is_front g f ≡ true → is_front f p ≡ true → is_front g p ≡ true
front_more g f p one two =
    let a = front_is g f one in
    let b = front_is f p two in
    is_front_of g p (omega (arith, a.0, b.0))
    (sym (get_or-take (length f) p (length g) 0 a.0) ∙ ap (λ l. get_or l (length g) 0) b.2 ∙ a.1)
    (sym (take_less p (length g) (length f) (omega (arith, a.0))) ∙ ap (take (length g)) b.2 ∙ a.2)

-- two of one path: the shorter one is before a / in the longer one
shorter : (f p : List ℕ) (m : ℕ) → m ≤ length p → is_front f p ≡ true → length f < m → is_front f (take m p) ≡ true
shorter f p m within h low =
    let a = front_is f p h in
    is_front_of f (take m p) (subst (λ n. length f < n) (sym (length-take-le m p within)) low)
    (get_or-take m p (length f) 0 low ∙ a.1) (take_less p (length f) m (omega (arith, low)) ∙ a.2)

---- a list with one more

named_any : (q : List ℕ → Bool) (t : List ℕ) (ks : List (List ℕ)) → is_named t ks ≡ true → q t ≡ true → list_any q ks ≡ true
named_any q t [] h is = absurd (true≢false (sym h))
named_any q t (k ∷ ks) h is =
    elim (cases_Bool (bytes_eq t k)) [
      | inl same ↦ ap (λ b. b || list_any q ks) (subst (λ l. q l ≡ true) ((bytes_eq-Decides t k).0 same) is)
      | inr other ↦ or_later (q k) (list_any q ks) (named_any q t ks (subst (λ b. (b || is_named t ks) ≡ true) other h) is)
    ]
  where
    or_later : (a b : Bool) → b ≡ true → (a || b) ≡ true
    or_later true b e = refl
    or_later false b e = e

or_same : (a b : Bool) → (b ≡ true → a ≡ true) → a ≡ (a || b)
or_same true b h = refl
or_same false false h = refl
or_same false true h = h refl

or_none : (a b : Bool) → (a || (b || false)) ≡ (a || b)
or_none true b = refl
or_none false true = refl
or_none false false = refl

pub any_with : (q : List ℕ → Bool) (t : List ℕ) (ks : List (List ℕ)) → list_any q (with_name t ks) ≡ (list_any q ks || q t)
any_with q t ks =
    elim (cases_Bool (is_named t ks)) [
      | inl is ↦ rw is (or_same (list_any q ks) (q t) (named_any q t ks is))
      | inr isnt ↦ rw isnt (list_any-append q ks (t ∷ []) ∙ or_none (list_any q ks) (q t))
    ]

---- the walk from the end of a path on

-- what is before a / at this place or a later one is there, and nothing else is new
pub record Keeps (path : List ℕ) (old : List (List ℕ)) (n : ℕ) (fronts : List (List ℕ)) : Type 0 where
  pub within : n ≤ length path
  pub sound : (f : List ℕ) → has_front fronts f ≡ true → (has_front old f ≡ true) ⊎ ((is_front f path ≡ true) × (n ≤ length f))
  pub kept : (f : List ℕ) → has_front old f ≡ true → has_front fronts f ≡ true
  pub full : (f : List ℕ) → is_front f path ≡ true → n ≤ length f → has_front fronts f ≡ true

le_cases : (a b : ℕ) → a ≤ b → (a ≡ b) ⊎ (a + 1 ≤ b)
le_cases zero zero low = inl refl
le_cases zero (suc b) low = inr (omega arith)
le_cases (suc a) zero low = absurd (omega (arith, low))
le_cases (suc a) (suc b) low = elim (le_cases a b (omega (arith, low))) [ inl e ↦ inl (ap suc e) | inr l ↦ inr (omega (arith, l)) ]

le_or : (a b : ℕ) → (a ≤ b) ⊎ (b + 1 ≤ a)
le_or zero b = inl (omega arith)
le_or (suc a) zero = inr (omega arith)
le_or (suc a) (suc b) = elim (le_or a b) [ inl l ↦ inl (omega (arith, l)) | inr l ↦ inr (omega (arith, l)) ]

pub keeps_begin : (path : List ℕ) (old : List (List ℕ)) → Keeps path old (length path) old
keeps_begin path old = record {
  within = omega arith;
  sound = λ f h. inl h;
  kept = λ f h. h;
  full = λ f h far. let a = front_is f path h in absurd (omega (arith, a.0, far));
}

pub keeps_other : (path : List ℕ) (old : List (List ℕ)) (m : ℕ) (fronts : List (List ℕ)) → (get_or path m 0 ≡ 47 → ⊥) → Keeps path old (m + 1) fronts → Keeps path old m fronts
keeps_other path old m fronts other k = record {
  within = omega (arith, k.within);
  sound = λ f h. elim (k.sound f h) [ inl o ↦ inl o | inr p ↦ inr (p.0, omega (arith, p.1)) ];
  kept = k.kept;
  full = λ f h far. full_more f h (le_cases m (length f) far);
}
  where
    full_more : (f : List ℕ) → is_front f path ≡ true → (m ≡ length f) ⊎ (m + 1 ≤ length f) → has_front fronts f ≡ true
    full_more f h (inl e) = absurd (other (ap (λ n. get_or path n 0) e ∙ (front_is f path h).1))
    full_more f h (inr l) = k.full f h l

or_parts_of : (a b : Bool) → (a || b) ≡ true → (a ≡ true) ⊎ (b ≡ true)
or_parts_of true b h = inl refl
or_parts_of false b h = inr h

or_left : (a b : Bool) → a ≡ true → (a || b) ≡ true
or_left true b h = refl
or_left false b h = absurd (true≢false (sym h))

or_right : (a b : Bool) → b ≡ true → (a || b) ≡ true
or_right true b h = refl
or_right false b h = h

-- a list with what is before this place
has_with : (ks : List (List ℕ)) (t f : List ℕ) → has_front (with_name t ks) f ≡ (has_front ks f || bytes_eq f t)
has_with ks t f = any_with (bytes_eq f) t ks

pub keeps_slash : (path : List ℕ) (old : List (List ℕ)) (m : ℕ) (fronts : List (List ℕ)) → m < length path → get_or path m 0 ≡ 47 → Keeps path old (m + 1) fronts
    → Keeps path old m (with_name (take m path) fronts)
keeps_slash path old m fronts low is k = record {
  within = omega (arith, low);
  sound = λ f h. sound_more f (or_parts_of (has_front fronts f) (bytes_eq f (take m path)) (sym (has_with fronts (take m path) f) ∙ h));
  kept = λ f h. has_with fronts (take m path) f ∙ or_left (has_front fronts f) (bytes_eq f (take m path)) (k.kept f h);
  full = λ f h far. has_with fronts (take m path) f ∙ full_more f h (le_cases m (length f) far);
}
  where
    long : length (take m path) ≡ m
    long = length-take-le m path (omega (arith, low))

    sound_more : (f : List ℕ) → (has_front fronts f ≡ true) ⊎ (bytes_eq f (take m path) ≡ true) → (has_front old f ≡ true) ⊎ ((is_front f path ≡ true) × (m ≤ length f))
    sound_more f (inl h) = elim (k.sound f h) [ inl o ↦ inl o | inr p ↦ inr (p.0, omega (arith, p.1)) ]
    sound_more f (inr same) =
        let e : f ≡ take m path = (bytes_eq-Decides f (take m path)).0 same in
        let n : length f ≡ m = ap length e ∙ long in
        inr (is_front_of f path (omega (arith, n, low)) (ap (λ i. get_or path i 0) n ∙ is) (ap (λ i. take i path) n ∙ sym e), omega (arith, n))

    full_more : (f : List ℕ) → is_front f path ≡ true → (m ≡ length f) ⊎ (m + 1 ≤ length f) → (has_front fronts f || bytes_eq f (take m path)) ≡ true
    full_more f h (inl e) =
        or_right (has_front fronts f) (bytes_eq f (take m path)) ((bytes_eq-Decides f (take m path)).1 (sym (front_is f path h).2 ∙ ap (λ i. take i path) (sym e)))
    full_more f h (inr l) = or_left (has_front fronts f) (bytes_eq f (take m path)) (k.full f h l)

more_of : (a b c : Bool) → (c ≡ true → (a ≡ true) ⊎ (b ≡ true)) → (a ≡ true → c ≡ true) → (b ≡ true → c ≡ true) → c ≡ (a || b)
more_of true b true s k f = refl
more_of false true true s k f = refl
more_of false false true s k f = elim (s refl) [ inl e ↦ absurd (true≢false (sym e)) | inr e ↦ absurd (true≢false (sym e)) ]
more_of true b false s k f = k refl
more_of false true false s k f = f refl
more_of false false false s k f = refl

-- all of a path is there, where its begin is reached
pub keeps_end : (path : List ℕ) (old fronts : List (List ℕ)) → Keeps path old 0 fronts → HasAll path old fronts
keeps_end path old fronts k =
    λ f. more_of (has_front old f) (is_front f path) (has_front fronts f) (λ h. elim (k.sound f h) [ inl o ↦ inl o | inr p ↦ inr p.0 ]) (k.kept f) (λ h. k.full f h (omega arith))

-- and where a front of it was there
pub keeps_known : (path : List ℕ) (old : List (List ℕ)) (m : ℕ) (fronts : List (List ℕ)) → m < length path → AreClosed old
    → is_named (take m path) fronts ≡ true → Keeps path old (m + 1) fronts → HasAll path old fronts
keeps_known path old m fronts low closed there k =
    λ f. more_of (has_front old f) (is_front f path) (has_front fronts f) (λ h. elim (k.sound f h) [ inl o ↦ inl o | inr p ↦ inr p.0 ]) (k.kept f) (full_more f)
  where
    long : length (take m path) ≡ m
    long = length-take-le m path (omega (arith, low))

    known : has_front old (take m path) ≡ true
    known = elim (k.sound (take m path) there) [ inl o ↦ o | inr p ↦ absurd (omega (arith, p.1, long)) ]

    by_place : (f : List ℕ) → is_front f path ≡ true → (length f ≤ m) ⊎ (m + 1 ≤ length f) → has_front fronts f ≡ true
    by_place f h (inr l) = k.full f h l
    by_place f h (inl l) = elim (le_cases (length f) m l) [
      | inl e ↦ k.kept f (subst (λ t. has_front old t ≡ true) (sym (sym (front_is f path h).2 ∙ ap (λ i. take i path) e)) known)
      | inr less ↦ k.kept f (closed f (take m path) known (shorter f path m (omega (arith, low)) h (omega (arith, less))))
    ]

    full_more : (f : List ℕ) → is_front f path ≡ true → has_front fronts f ≡ true
    full_more f h = by_place f h (le_or (length f) m)

-- what is not new is there
pub is_known : (there new : Bool) → new ≡ not there → new ≡ false → there ≡ true
is_known true new is other = refl
is_known false new is other = absurd (true≢false (sym is ∙ other))

---- a turn of it

module _ (path : List ℕ) (old : List (List ℕ)) (at : ℕ) (fronts new : List (List ℕ)) (some : 0 < at) (k : Keeps path old at fronts) where
  before : Keeps path old (at - 1 + 1) fronts
  before = subst (λ n. Keeps path old n fronts) (omega (arith, some)) k

  low : at - 1 < length path
  low = omega (arith, some, k.within)

  pub turn_other : (get_or path (at - 1) 0 ≡ 47 → ⊥) → new ≡ fronts → Keeps path old (at - 1) new
  turn_other other is = subst (λ l. Keeps path old (at - 1) l) (sym is) (keeps_other path old (at - 1) fronts other before)

  pub turn_slash : get_or path (at - 1) 0 ≡ 47 → new ≡ with_name (take (at - 1) path) fronts → Keeps path old (at - 1) new
  turn_slash slash is = subst (λ l. Keeps path old (at - 1) l) (sym is) (keeps_slash path old (at - 1) fronts low slash before)

  pub turn_known : AreClosed old → is_named (take (at - 1) path) fronts ≡ true → new ≡ with_name (take (at - 1) path) fronts → HasAll path old new
  turn_known closed there is =
      subst (λ l. HasAll path old l) (sym (is ∙ ap (λ (b : Bool). if b then fronts else fronts ++ take (at - 1) path ∷ []) there))
      (keeps_known path old (at - 1) fronts low closed there before)

---- files with their folders

kept_more : (g f : List ℕ) (files : List (List ℕ)) → is_front g f ≡ true → list_any (is_kept f) files ≡ true → list_any (is_kept g) files ≡ true
kept_more g f [] h there = absurd (true≢false (sym there))
kept_more g f (p ∷ ps) h there = elim (or_parts_of (is_kept f p) (list_any (is_kept f) ps) there) [
  | inl here ↦ or_left (is_kept g p) (list_any (is_kept g) ps) (both_kept (is_front f p) (nat_le (length p) LONGEST_PATH) here (front_more g f p h))
  | inr later ↦ or_right (is_kept g p) (list_any (is_kept g) ps) (kept_more g f ps h later)
]
  where
    both_kept : (a b : Bool) → (a && b) ≡ true → (a ≡ true → is_front g p ≡ true) → (is_front g p && b) ≡ true
    both_kept true true e h = ap (λ c. c && true) (h refl)
    both_kept true false e h = absurd (true≢false (sym e))
    both_kept false b e h = absurd (true≢false (sym e))

pub folders_closed : (files fronts : List (List ℕ)) (relative : Bool) → AreFolders files fronts relative → AreClosed fronts
folders_closed files fronts relative are =
    λ g f there h. are.fronts_are g ∙ kept_more g f files h (sym (are.fronts_are f) ∙ there)

and_true : (a : Bool) → a ≡ (a && true)
and_true true = refl
and_true false = refl

and_false : (a : Bool) → false ≡ (a && false)
and_false true = refl
and_false false = refl

or_false : (a : Bool) → a ≡ (a || false)
or_false true = refl
or_false false = refl

pub short_more : (path : List ℕ) (old new : List (List ℕ)) → nat_le (length path) LONGEST_PATH ≡ true → HasAll path old new → HasMore path old new
short_more path old new short all =
    λ f. all f ∙ ap (λ b. has_front old f || b) (and_true (is_front f path) ∙ ap (λ b. is_front f path && b) (sym short))

pub long_more : (path : List ℕ) (old : List (List ℕ)) → nat_le (length path) LONGEST_PATH ≡ false → HasMore path old old
long_more path old long =
    λ f. or_false (has_front old f) ∙ ap (λ b. has_front old f || b) (and_false (is_front f path) ∙ ap (λ b. is_front f path && b) (sym long))

-- with one more file
pub folders_more : (files old new : List (List ℕ)) (relative : Bool) (path : List ℕ) → (AreClosed old → HasMore path old new) → AreFolders files old relative
    → AreFolders (with_name path files) new (relative || not (is_absolute path))
folders_more files old new relative path more are = record {
  fronts_are = λ f. more (folders_closed files old relative are) f ∙ ap (λ b. b || is_kept f path) (are.fronts_are f) ∙ sym (any_with (is_kept f) path files);
  relative_is = ap (λ b. b || not (is_absolute path)) are.relative_is ∙ sym (any_with (λ p. not (is_absolute p)) path files);
}

---- what is below a folder

below_front : (folder path : List ℕ) → is_kept (front_of folder) path ≡ is_below folder path
below_front folder path =
    elim (cases_Bool (bytes_eq folder (codes "/"))) [
      | inl is ↦ rw is refl
      | inr isnt ↦ rw isnt refl
    ]

below_any : (files : List (List ℕ)) (folder : List ℕ) → list_any (is_kept (front_of folder)) files ≡ list_any (is_below folder) files
below_any [] folder = refl
below_any (p ∷ ps) folder = ap (λ b. b || list_any (is_kept (front_of folder)) ps) (below_front folder p) ∙ ap (λ b. is_below folder p || b) (below_any ps folder)

pub below_of : (files : List (List ℕ)) (folder : List ℕ) → bytes_eq folder (codes ".") ≡ false → list_any (is_kept (front_of folder)) files ≡ has_below files folder
below_of files folder other =
    below_any files folder ∙ ap (λ (b : Bool). if b then list_any (λ p. not (is_absolute p)) files else list_any (is_below folder) files) (sym other)

---- lists of paths

nul_first : (ks : List (List ℕ)) (i : ℕ) (k : List ℕ) → slice_get ks i ≡ Some k → nul_ended (drop i ks) ≡ (k ++ 0 ∷ []) ++ nul_ended (drop (i + 1) ks)
nul_first ks i k is =
    let low = slice_get_within ks i k is in
    let same : get_or ks i k ≡ k = ap (λ (o : Option (List ℕ)). unwrap_or o k) (sym (slice_get-get_or ks i k low) ∙ is) in
    ap nul_ended (drop_more ks i k low ∙ ap (λ (x : List ℕ). x ∷ drop (i + 1) ks) same)

pub put_more : (list : List ℕ) (ks : List (List ℕ)) (i : ℕ) (k : List ℕ) → slice_get ks i ≡ Some k
    → ((list ++ k) ++ 0 ∷ []) ++ nul_ended (drop (i + 1) ks) ≡ list ++ nul_ended (drop i ks)
put_more list ks i k is =
    ap (λ (l : List ℕ). l ++ nul_ended (drop (i + 1) ks)) (append_assoc list k (0 ∷ [])) ∙ append_assoc list (k ++ 0 ∷ []) (nul_ended (drop (i + 1) ks))
    ∙ sym (ap (λ (l : List ℕ). list ++ l) (nul_first ks i k is))

pub put_none : (list : List ℕ) (ks : List (List ℕ)) (i : ℕ) → slice_get ks i ≡ None → list ++ nul_ended (drop (i + 1) ks) ≡ list ++ nul_ended (drop i ks)
put_none list ks i none = elim (slice_get_cases ks i).1 [
  | inl (k, low, is, same) ↦ absurd (true≢false (ap is_some (sym is ∙ none)))
  | inr (far, past) ↦ ap (λ (l : List (List ℕ)). list ++ nul_ended l) (drop_all (i + 1) ks (omega (arith, far)) ∙ sym (drop_all i ks far))
]

---- the list of the files below a folder

module _ {S : Type 0} (gives : Gives S) where
  pub text_list : (exclude : List (List ℕ)) (root folder : List ℕ) (old : S) (x : Result (List ℕ) Report) (new : S) → folder ≡ root → IsUtf8 folder
      → reads_as gives folder (FilesBelow folder exclude) old x new → root_list gives exclude root old x new
  text_list exclude root folder old x new same utf8 reads =
      subst (λ (b : Bool). folder_list gives exclude root b old x new) (sym (is_utf8-from_IsUtf8 root (subst IsUtf8 same utf8)))
      (subst (λ (f : List ℕ). reads_as gives f (FilesBelow f exclude) old x new) same reads)

  pub no_text : (exclude : List (List ℕ)) (root folder : List ℕ) (old : S) → folder ≡ root → (IsUtf8 folder → ⊥) → root_list gives exclude root old (Err not_utf8) old
  no_text exclude root folder old same other =
      subst (λ (b : Bool). folder_list gives exclude root b old (Err not_utf8) old)
      (sym (false_from_ne_true (is_utf8 root) (λ is. other (subst IsUtf8 (sym same) (IsUtf8-from_is_utf8 root is))))) (refl, refl)
