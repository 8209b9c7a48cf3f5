-- Names that are reduced, and what they make of a directory.
use Rattle.std.proofs.Common.{◌≡◌, ℕ, zero, suc, ◌+◌, ◌-◌, ◌<◌, ◌≤◌, Bool, true, false, ◌||◌, ◌&&◌, List, [], ◌∷◌, ◌++◌, Option, Some, None, length, take, drop, get_or, add-one, inl, inr, subst, refl, sym, ap, ◌∙◌, arith}
use Rattle.std.specs.Prelude.{◌==◌, option_map, option_and_then, bytes_eq, codes, position}
use Rattle.std.specs.List.{onto_first, All, list_all, join_with_byte}
use Rattle.std.proofs.lemmas.Bool.{cases_Bool, and_from, false≢true, eqb-true}
use Rattle.std.proofs.lemmas.List.{take-append-drop, append_assoc, append-nil, length-append, length-drop, drop-append-le, drop_at, take-append-le, nil_from_length}
use Rattle.std.proofs.lemmas.Slice.Eq.{bytes_eq-Decides}
use Rattle.std.proofs.lemmas.List.Folds.{list_all-append}
use Rattle.std.proofs.lemmas.List.Splits.{join_with_byte-slice_split, slice_split-cons_yes, slice_split-cons_no}
use Rattle.std.proofs.lemmas.List.Quantifiers.{position-Some}
use Rattle.inc_lookup.specs.Paths.{components, without_last, with_component, with_components, is_absolute, normal_form}
use Rattle.inc_lookup.specs.PathParts.{is_name, is_kept, Shows, ShowsAfter}
use Rattle.inc_lookup.specs.Projects.{joined_path, place_of, found_as}
use Rattle.inc_lookup.specs.Invariants.{IsNormal}
use Rattle.inc_lookup.specs.ReducedNames.{without_lasts, IsReducedTo, IsReduced}
use Rattle.inc_lookup.proofs.PathLemmas.{has_slash, continued, refused, after_last, join-nil, components-cut, components_one}
use Rattle.inc_lookup.proofs.NormalLemmas.{shown_normal, normal_form-joined, root_of, names-from_kept, with_components-kept, found_as-joined}

---- parts without the last ones

then_some : (o : Option (List (List ℕ))) → option_and_then (without_lasts zero) o ≡ o
then_some None = refl
then_some (Some ps) = refl

-- one more is the last of what is left
pub without_lasts-more : (n : ℕ) (parts : List (List ℕ)) → without_lasts (suc n) parts ≡ option_and_then without_last (without_lasts n parts)
without_lasts-more zero parts = then_some (without_last parts)
without_lasts-more (suc n) parts = by (λ ps. without_lasts-more n ps) (without_last parts)
  where
    by : ((ps : List (List ℕ)) → without_lasts (suc n) ps ≡ option_and_then without_last (without_lasts n ps)) → (o : Option (List (List ℕ)))
        → option_and_then (without_lasts (suc n)) o ≡ option_and_then without_last (option_and_then (without_lasts n) o)
    by more None = refl
    by more (Some ps) = more ps

-- where there are not so many there are not more
pub without_lasts-none : (n m : ℕ) (parts : List (List ℕ)) → without_lasts n parts ≡ None → without_lasts (n + m) parts ≡ None
without_lasts-none n zero parts none = let same : n + 0 ≡ n = omega arith in ap (λ (k : ℕ). without_lasts k parts) same ∙ none
without_lasts-none n (suc m) parts none =
    let same : n + suc m ≡ suc (n + m) = omega arith in
    ap (λ (k : ℕ). without_lasts k parts) same ∙ without_lasts-more (n + m) parts ∙ ap (option_and_then without_last) (without_lasts-none n m parts none)

-- the last of a list that is not empty is that of a longer one
without_last-cons : (x : List ℕ) (parts front : List (List ℕ)) → without_last parts ≡ Some front → without_last (x ∷ parts) ≡ Some (x ∷ front)
without_last-cons x [] front is = cc
without_last-cons x (p ∷ ps) front is = ap (option_map (λ (f : List (List ℕ)). x ∷ f)) is

without_last-behind : (before parts front : List (List ℕ)) → without_last parts ≡ Some front → without_last (before ++ parts) ≡ Some (before ++ front)
without_last-behind [] parts front is = is
without_last-behind (x ∷ before) parts front is = without_last-cons x (before ++ parts) (before ++ front) (without_last-behind before parts front is)

none_mapped : (x : List ℕ) (o : Option (List (List ℕ))) → option_map (λ (f : List (List ℕ)). x ∷ f) o ≡ None → o ≡ None
none_mapped x None none = refl
none_mapped x (Some f) none = cc

without_last-none : (parts : List (List ℕ)) → without_last parts ≡ None → parts ≡ []
without_last-none [] none = refl
without_last-none (x ∷ []) none = cc
without_last-none (x ∷ y ∷ parts) none =
    let empty : y ∷ parts ≡ [] = without_last-none (y ∷ parts) (none_mapped x (without_last (y ∷ parts)) none) in
    cc

---- one component after other parts

with_component-behind : (before parts front : List (List ℕ)) (c : List ℕ) → with_component parts c ≡ Some front → with_component (before ++ parts) c ≡ Some (before ++ front)
with_component-behind before parts front c is = elim (cases_Bool (bytes_eq c [] || bytes_eq c (codes "."))) [
  | inl skip ↦
      let same : Some parts ≡ Some front = rw skip at is in
      let parts_are : parts ≡ front = cc in
      rw (skip, parts_are) refl
  | inr kept ↦ elim (cases_Bool (bytes_eq c (codes ".."))) [
    | inl up ↦
        let same : without_last parts ≡ Some front = rw (kept, up) at is in
        rw (kept, up) (without_last-behind before parts front same)
    | inr down ↦
        let same : Some (parts ++ c ∷ []) ≡ Some front = rw (kept, down) at is in
        let parts_are : parts ++ c ∷ [] ≡ front = cc in
        rw (kept, down, ← parts_are) (ap (λ (l : List (List ℕ)). Some l) (append_assoc before parts (c ∷ [])))
  ]
]

-- a component that climbs where there is nothing drops the last of other parts
with_component-climbs : (parts : List (List ℕ)) (c : List ℕ) → with_component parts c ≡ None → (parts ≡ []) × ((before : List (List ℕ)) → with_component before c ≡ without_last before)
with_component-climbs parts c is = elim (cases_Bool (bytes_eq c [] || bytes_eq c (codes "."))) [
  | inl skip ↦ let same : Some parts ≡ None = rw skip at is in cc
  | inr kept ↦ elim (cases_Bool (bytes_eq c (codes ".."))) [
    | inl up ↦
        let same : without_last parts ≡ None = rw (kept, up) at is in
        (without_last-none parts same, λ before. rw (kept, up) refl)
    | inr down ↦ let same : Some (parts ++ c ∷ []) ≡ None = rw (kept, down) at is in cc
  ]
]

then_same : (F G : List (List ℕ) → Option (List (List ℕ))) → ((front : List (List ℕ)) → F front ≡ G front) → (o : Option (List (List ℕ))) → option_and_then F o ≡ option_and_then G o
then_same F G same None = refl
then_same F G same (Some front) = same front

then_twice : (F G : List (List ℕ) → Option (List (List ℕ))) (o : Option (List (List ℕ))) → option_and_then F (option_and_then G o) ≡ option_and_then (λ front. option_and_then F (G front)) o
then_twice F G None = refl
then_twice F G (Some front) = refl

---- a name, component by component

pub reduced_start : (cs : List (List ℕ)) (rest : List ℕ) → rest ≡ [] → IsReducedTo cs 0 rest cs
reduced_start cs rest empty = rw empty record {
  names = [];
  shown = record { within = omega arith; joined = refl; names = refl };
  same = λ parts. ap (λ (l : List (List ℕ)). with_components l cs) (sym (append-nil parts));
}

-- a component that stays
pub reduced_more : (cs left : List (List ℕ)) (climbs : ℕ) (rest new c : List ℕ) → IsReducedTo cs climbs rest (c ∷ left) → ((ps : List (List ℕ)) → Shows 0 ps rest → ShowsAfter 0 (with_component ps c) rest true new) → IsReducedTo cs climbs new left
reduced_more cs left climbs rest new c r step =
    let next = continued 0 rest rest new (with_component r.names c) (step r.names r.shown) refl in
    record {
      names = next.0;
      shown = next.2;
      same = λ parts.
          r.same parts
          ∙ then_same (λ front. with_components (front ++ r.names) (c ∷ left)) (λ front. with_components (front ++ next.0) left)
          (λ front. ap (option_and_then (λ (f : List (List ℕ)). with_components f left)) (with_component-behind front r.names next.0 c next.1)) (without_lasts climbs parts);
    }

-- a component that climbs
pub reduced_climbs : (cs left : List (List ℕ)) (climbs : ℕ) (rest new c : List ℕ) → IsReducedTo cs climbs rest (c ∷ left) → ((ps : List (List ℕ)) → Shows 0 ps rest → ShowsAfter 0 (with_component ps c) rest false new) → IsReducedTo cs (climbs + 1) rest left
reduced_climbs cs left climbs rest new c r step =
    let climbed = with_component-climbs r.names c (refused (with_component r.names c) 0 rest new (step r.names r.shown)) in
    rw add-one record {
      names = r.names;
      shown = r.shown;
      same = λ parts.
          r.same parts
          ∙ then_same (λ front. with_components (front ++ r.names) (c ∷ left)) (λ front. option_and_then (λ f. with_components (f ++ r.names) left) (without_last front))
          (λ front. rw (climbed.0, append-nil front, climbed.1 front) (then_same (λ f. with_components f left) (λ f. with_components (f ++ []) left) (λ f. ap (λ (l : List (List ℕ)). with_components l left) (sym (append-nil f))) (without_last front)))
          (without_lasts climbs parts)
          ∙ sym (then_twice (λ f. with_components (f ++ r.names) left) without_last (without_lasts climbs parts))
          ∙ ap (option_and_then (λ f. with_components (f ++ r.names) left)) (sym (without_lasts-more climbs parts));
    }

---- the name after a directory

-- so many components are taken off
abbrev pub IsWithout : ℕ → ℕ → (old new : List ℕ) → Type 0
IsWithout root n old new = (parts : List (List ℕ)) → Shows root parts old → ShowsAfter root (without_lasts n parts) old true new

pub without_more : (root n : ℕ) (old now new : List ℕ) → IsWithout root n old now → ((ps : List (List ℕ)) → Shows root ps now → ShowsAfter root (without_last ps) now true new) → IsWithout root (n + 1) old new
without_more root n old now new so_far step = λ parts shows.
    let next = continued root old old now (without_lasts n parts) (so_far parts shows) refl in
    rw (add-one, without_lasts-more n parts, next.1) (after_last root old now new true (without_last next.0) (step next.0 next.2) next.3)

pub without_stop : (root n count : ℕ) (old now new : List ℕ) → IsWithout root n old now → n < count → ((ps : List (List ℕ)) → Shows root ps now → ShowsAfter root (without_last ps) now false new)
    → (parts : List (List ℕ)) → Shows root parts old → ShowsAfter root (without_lasts count parts) old false new
without_stop root n count old now new so_far low step parts shows =
    let next = continued root old old now (without_lasts n parts) (so_far parts shows) refl in
    let none : without_lasts (suc n) parts ≡ None = without_lasts-more n parts ∙ ap (option_and_then without_last) next.1 ∙ refused (without_last next.0) root now new (step next.0 next.2) in
    let more : suc n + (count - suc n) ≡ count = omega arith in
    rw (sym (ap (λ (k : ℕ). without_lasts k parts) more) ∙ without_lasts-none (suc n) (count - suc n) parts none) refl

-- names after names
join-append : (p : List ℕ) (ps : List (List ℕ)) (q : List ℕ) (qs : List (List ℕ)) → join_with_byte 47 ((p ∷ ps) ++ (q ∷ qs)) ≡ join_with_byte 47 (p ∷ ps) ++ 47 ∷ join_with_byte 47 (q ∷ qs)
join-append p [] q qs = refl
join-append p (r ∷ ps) q qs =
    ap (λ (l : List ℕ). p ++ 47 ∷ l) (join-append r ps q qs) ∙ sym (append_assoc p (47 ∷ join_with_byte 47 (r ∷ ps)) (47 ∷ join_with_byte 47 (q ∷ qs)))

-- no names
pub names_none : (root : ℕ) (parts more : List (List ℕ)) (text names : List ℕ) → Shows root parts text → Shows 0 more names → length names ≡ 0 → ShowsAfter root (Some (parts ++ more)) text true text
names_none root parts more text names shows behind empty =
    let nothing : names ≡ [] = nil_from_length names empty in
    rw (join-nil more behind.names (sym behind.joined ∙ nothing), append-nil parts) (refl, shows, refl)

-- names after the root
pub names_first : (root : ℕ) (parts more : List (List ℕ)) (text names : List ℕ) → Shows root parts text → Shows 0 more names → length text ≤ root → ShowsAfter root (Some (parts ++ more)) text true (text ++ names)
names_first root parts more text names shows behind short =
    let exact : length text ≡ root = omega (arith, shows.within) in
    let empty : drop root text ≡ [] = nil_from_length _ (simp length-drop (omega arith)) in
    rw (join-nil parts shows.names (sym shows.joined ∙ empty)) (
      refl,
      record {
        within = simp length-append (omega arith);
        joined = drop_at text names root exact ∙ behind.joined;
        names = behind.names;
      },
      take-append-le root text names shows.within,
    )

-- names after other names
pub names_behind : (root : ℕ) (parts more : List (List ℕ)) (text names : List ℕ) → Shows root parts text → Shows 0 more names → root < length text → 0 < length names → ShowsAfter root (Some (parts ++ more)) text true ((text ++ 47 ∷ []) ++ names)
names_behind root [] more text names shows behind some more_some =
    let none : length text - root ≡ 0 = simp length-drop at (ap length shows.joined) in
    absurd (omega arith)
names_behind root (p ∷ ps) [] text names shows behind some more_some =
    let none : length names ≡ 0 = ap length behind.joined in
    absurd (omega arith)
names_behind root (p ∷ ps) (q ∷ qs) text names shows behind some more_some = (
  refl,
  record {
    within = simp (length-append, append_assoc) (omega arith);
    joined =
        ap (drop root) (append_assoc text (47 ∷ []) names) ∙ drop-append-le root text (47 ∷ names) (omega arith)
        ∙ ap (λ (l : List ℕ). l ++ 47 ∷ names) shows.joined ∙ ap (λ (l : List ℕ). join_with_byte 47 (p ∷ ps) ++ 47 ∷ l) behind.joined
        ∙ sym (join-append p ps q qs);
    names = list_all-append is_name (p ∷ ps) (q ∷ qs) ∙ and_from _ _ shows.names behind.names;
  },
  ap (take root) (append_assoc text (47 ∷ []) names) ∙ take-append-le root text (47 ∷ names) shows.within,
)

---- the whole

-- the directory has too few components
pub onto_none : (root climbs : ℕ) (old new name rest : List ℕ) (parts : List (List ℕ)) → IsReduced name climbs rest → Shows root parts old
    → ((ps : List (List ℕ)) → Shows root ps old → ShowsAfter root (without_lasts climbs ps) old false new) → ShowsAfter root (with_components parts (components name)) old false new
onto_none root climbs old new name rest parts r shows step =
    let none = refused (without_lasts climbs parts) root old new (step parts shows) in
    rw (r.same parts, none) refl

pub onto_some : (root climbs : ℕ) (old now new name rest : List ℕ) (parts : List (List ℕ)) → IsReduced name climbs rest → Shows root parts old
    → IsWithout root climbs old now
    → ((ps more : List (List ℕ)) → Shows root ps now → Shows 0 more rest → ShowsAfter root (Some (ps ++ more)) now true new) → ShowsAfter root (with_components parts (components name)) old true new
onto_some root climbs old now new name rest parts r shows without step =
    let next = continued root old old now (without_lasts climbs parts) (without parts shows) refl in
    rw (r.same parts, next.1) (after_last root old now new true (Some (next.0 ++ r.names)) (step next.0 r.names next.2 r.shown) next.3)

---- a name that is longer than every path

join-longer : (ps qs : List (List ℕ)) → length (join_with_byte 47 qs) ≤ length (join_with_byte 47 (ps ++ qs))
join-longer [] qs = omega arith
join-longer (p ∷ ps) [] = omega arith
join-longer (p ∷ ps) (q ∷ qs) =
    let cut : length (join_with_byte 47 ((p ∷ ps) ++ (q ∷ qs))) ≡ length (join_with_byte 47 (p ∷ ps)) + suc (length (join_with_byte 47 (q ∷ qs))) = ap length (join-append p ps q qs) ∙ length-append (join_with_byte 47 (p ∷ ps)) (47 ∷ join_with_byte 47 (q ∷ qs)) in
    omega arith

no_place : (path : List ℕ) (paths : List (List ℕ)) (o : Option ℕ) → position (bytes_eq path) paths ≡ o → All (λ (p : List ℕ). length p < length path) paths → o ≡ None
no_place path paths None is shorter = refl
no_place path paths (Some i) is shorter =
    let found = position-Some (bytes_eq path) paths i [] is in
    let same : path ≡ get_or paths i [] = (bytes_eq-Decides path (get_or paths i [])).0 found.1 in
    let less = shorter i [] found.0 in
    absurd (omega (arith, ap length same))

-- the path of each file is shorter than what the name puts after
pub none_so_long : (paths : List (List ℕ)) (longest : ℕ) (dir name : List ℕ) (climbs : ℕ) (rest : List ℕ) → All (λ (p : List ℕ). length p ≤ longest) paths → longest < length rest
    → IsNormal dir → (is_absolute name ≡ true → 0 < length dir) → IsReduced name climbs rest → found_as paths (joined_path dir name) ≡ None
none_so_long paths longest dir name climbs rest short long normal below r =
    let shown = shown_normal dir normal in
    rw (normal_form-joined dir name shown.0 shown.2 below, r.same shown.0) (by (without_lasts climbs shown.0))
  where
    by : (o : Option (List (List ℕ))) → option_and_then (λ path. place_of path paths) (option_map (λ (ps : List (List ℕ)). root_of (is_absolute dir) ++ join_with_byte 47 ps)
        (option_and_then (λ front. with_components (front ++ r.names) []) o)) ≡ None
    by None = refl
    by (Some front) =
        let path = root_of (is_absolute dir) ++ join_with_byte 47 (front ++ r.names) in
        let behind : length rest ≡ length (join_with_byte 47 r.names) = ap length r.shown.joined in
        let whole : length path ≡ length (root_of (is_absolute dir)) + length (join_with_byte 47 (front ++ r.names)) = length-append (root_of (is_absolute dir)) (join_with_byte 47 (front ++ r.names)) in
        let longer = join-longer front r.names in
        let far : longest < length path = omega arith in
        no_place path paths (position (bytes_eq path) paths) refl (λ k d low. let at = short k d low in omega arith)

---- names that stay as they are

-- no component of a plain name changes a directory but by being after it
pub plain_reduced : (name : List ℕ) → list_all is_kept (components name) ≡ true → IsReduced name 0 name
plain_reduced name plain = record {
  names = components name;
  shown = record {
    within = omega arith;
    joined = sym (join_with_byte-slice_split 47 name);
    names = names-from_kept (components name) plain;
  };
  same = λ parts. with_components-kept parts (components name) plain;
}

-- in the directory with an empty path a name that drops nothing is found as what it is reduced to
pub bare_found : (paths : List (List ℕ)) (dir text rest : List ℕ) (climbs : ℕ) → (length dir == 0) ≡ true → climbs ≡ 0 → (is_absolute text ≡ true → 0 < length dir) → IsReduced text climbs rest → place_of rest paths ≡ found_as paths (joined_path dir text)
bare_found paths (b ∷ dir) text rest climbs empty none below r =
    let nothing : length (b ∷ dir) ≡ 0 = eqb-true (length (b ∷ dir)) 0 empty in
    absurd (omega (arith, nothing))
bare_found paths [] text rest climbs empty none below reduced =
    let r = subst (λ (n : ℕ). IsReduced text n rest) none reduced in
    found_as-joined paths [] text rest true refl below (λ parts shows.
    let nothing : parts ≡ [] = join-nil parts shows.names (sym shows.joined) in
    rw (r.same parts, nothing) (refl, r.shown, refl))

---- whether a name is plain

pub plain_not : (d A B : List ℕ) → d ≡ A ++ 47 ∷ B → has_slash A ≡ false → is_kept A ≡ false → list_all is_kept (components d) ≡ false
plain_not d A B cut bare out = ap (list_all is_kept) (components-cut d A B cut bare) ∙ (rw out refl)

pub plain_more : (d A B : List ℕ) → d ≡ A ++ 47 ∷ B → has_slash A ≡ false → is_kept A ≡ true → list_all is_kept (components d) ≡ list_all is_kept (components B)
plain_more d A B cut bare stays = ap (list_all is_kept) (components-cut d A B cut bare) ∙ (rw stays refl)

pub plain_last : (d : List ℕ) → has_slash d ≡ false → is_kept d ≡ list_all is_kept (components d)
plain_last d bare = last (is_kept d) ∙ sym (ap (list_all is_kept) (components_one d bare))
  where
    last : (b : Bool) → b ≡ (b && true)
    last true = refl
    last false = refl

-- a plain name does not begin with /
pub plain_relative : (name : List ℕ) → list_all is_kept (components name) ≡ true → is_absolute name ≡ false
plain_relative [] plain = refl
plain_relative (b ∷ bs) plain = elim (cases_Bool (b == 47)) [
  | inl slash ↦ absurd (false≢true (rw (slice_split-cons_yes (λ x. x == 47) b bs slash) at plain))
  | inr other ↦ other
]

---- paths that are their own normal forms

pub normal_form-plain : (path : List ℕ) → list_all is_kept (components path) ≡ true → normal_form path ≡ Some path
normal_form-plain path plain =
    rw (plain_relative path plain, with_components-kept [] (components path) plain) (ap (λ (l : List ℕ). Some l) (join_with_byte-slice_split 47 path))

-- a path that begins in ./ is that and what comes after it
pub dotted : (path rest : List ℕ) → take 2 path ≡ 46 ∷ 47 ∷ [] → rest ≡ drop 2 path → path ≡ 46 ∷ 47 ∷ rest
dotted path rest front is = sym (take-append-drop 2 path) ∙ ap (λ (l : List ℕ). l ++ drop 2 path) front ∙ ap (λ (l : List ℕ). 46 ∷ 47 ∷ l) (sym is)

-- a ./ in front of a plain path is dropped
pub normal_form-dotted : (rest : List ℕ) → list_all is_kept (components rest) ≡ true → normal_form (46 ∷ 47 ∷ rest) ≡ Some rest
normal_form-dotted rest plain =
    let split : components (46 ∷ 47 ∷ rest) ≡ (46 ∷ []) ∷ components rest = slice_split-cons_no (λ b. b == 47) 46 (47 ∷ rest) refl ∙ ap (onto_first 46) (slice_split-cons_yes (λ b. b == 47) 47 rest refl) in
    let kept : with_components [] (components rest) ≡ Some (components rest) = with_components-kept [] (components rest) plain in
    ap (λ (cs : List (List ℕ)). option_map (λ (parts : List (List ℕ)). join_with_byte 47 parts) (with_components [] cs)) split
    ∙ ap (option_map (λ (parts : List (List ℕ)). join_with_byte 47 parts)) kept
    ∙ ap (λ (l : List ℕ). Some l) (join_with_byte-slice_split 47 rest)

root_plain : (rest : List ℕ) → list_all is_kept (components rest) ≡ true → normal_form (47 ∷ rest) ≡ Some (47 ∷ rest)
root_plain rest plain =
    let first : components (47 ∷ rest) ≡ [] ∷ components rest = slice_split-cons_yes (λ b. b == 47) 47 rest refl in
    ap (λ (cs : List (List ℕ)). option_map (λ (parts : List (List ℕ)). codes "/" ++ join_with_byte 47 parts) (with_components [] cs)) first
    ∙ ap (option_map (λ (parts : List (List ℕ)). codes "/" ++ join_with_byte 47 parts)) (with_components-kept [] (components rest) plain)
    ∙ ap (λ (l : List ℕ). Some (47 ∷ l)) (join_with_byte-slice_split 47 rest)

pub normal_form-rooted : (path : List ℕ) → is_absolute path ≡ true → list_all is_kept (components (drop 1 path)) ≡ true → normal_form path ≡ Some path
normal_form-rooted [] root plain = absurd (false≢true root)
normal_form-rooted (b ∷ rest) root plain =
    let slash : 47 ≡ b = sym (eqb-true b 47 root) in
    subst (λ (x : ℕ). normal_form (x ∷ rest) ≡ Some (x ∷ rest)) slash (root_plain rest plain)
