-- Normal forms: the parts that they show, and names put after them.
use Rattle.std.proofs.Common.{◌≡◌, ℕ, ◌+◌, ◌<◌, ◌≤◌, Bool, true, false, ◌&&◌, ◌||◌, cond, List, [], ◌∷◌, ◌++◌, Option, Some, None, length, take, drop, get_or, inl, inr, subst, refl, sym, ap, ◌∙◌, arith}
use Rattle.std.specs.Prelude.{◌==◌, option_map, option_and_then, unwrap_or, codes, bytes_eq, not, if◌then◌else◌, MatchOption, map, position, slice_get}
use Rattle.std.specs.Global.{Vec}
use Rattle.std.specs.List.{All, list_all, onto_first, join_with_byte, prefix_len}
use Rattle.std.proofs.lemmas.Bool.{and_parts, and_from, or_parts, or_from, false≢true, true≢false, cases_Bool, not_from_false, not-true, false_from_ne_true}
use Rattle.std.proofs.lemmas.List.{take-append-drop, append_assoc, append-nil, length-append, length-map, get_or-map}
use Rattle.std.proofs.lemmas.Option.{slice_get_within, get_or_from_slice_get}
use Rattle.std.proofs.lemmas.List.Folds.{list_all-append}
use Rattle.std.proofs.lemmas.List.Splits.{slice_split-cons_yes, slice_split-cons_no, join_with_byte-slice_split}
use Rattle.inc_lookup.specs.Paths.{components, without_last, with_component, with_components, normal_form, is_absolute}
use Rattle.inc_lookup.specs.Projects.{directory_of, joined_path, place_of, found_as}
use Rattle.inc_lookup.specs.Invariants.{IsNormal, root_len}
use Rattle.inc_lookup.specs.PathParts.{is_name, is_kept, Shows, ShowsAfter}
use Rattle.inc_lookup.proofs.PathLemmas.{has_slash, components-slash, components-cons, components-join, components_one, without_last-push}

-- a component has no /
abbrev pub is_bare : List ℕ → Bool
is_bare c = not (has_slash c)

onto_bare : (b : ℕ) (p : List ℕ) (ps : List (List ℕ)) → (b == 47) ≡ false → list_all is_bare (p ∷ ps) ≡ true → list_all is_bare (onto_first b (p ∷ ps)) ≡ true
onto_bare b p ps isnt bare =
    let parts = and_parts (is_bare p) (list_all is_bare ps) bare in
    and_from _ _ (not_from_false _ (or_from _ _ isnt (not-true _ parts.0))) parts.1

pub components-bare : (xs : List ℕ) → list_all is_bare (components xs) ≡ true
components-bare [] = refl
components-bare (x ∷ xs) =
    let rest = components-bare xs in
    let parts = components-cons xs in
    elim (cases_Bool (x == 47)) [
      | inl is ↦ rw (slice_split-cons_yes (λ b. b == 47) x xs is) rest
      | inr isnt ↦ rw (slice_split-cons_no (λ b. b == 47) x xs isnt, parts.2) (onto_bare x parts.0 parts.1 isnt (rw parts.2 at rest))
    ]

in_two : (cs ds : List (List ℕ)) → ((front : List (List ℕ)) → with_components front (cs ++ ds) ≡ option_and_then (λ (f : List (List ℕ)). with_components f ds) (with_components front cs)) → (o : Option (List (List ℕ))) → option_and_then (λ (f : List (List ℕ)). with_components f (cs ++ ds)) o ≡ option_and_then (λ (f : List (List ℕ)). with_components f ds) (option_and_then (λ (f : List (List ℕ)). with_components f cs) o)
in_two cs ds step None = refl
in_two cs ds step (Some front) = step front

-- more components in two steps
pub with_components-append : (done cs ds : List (List ℕ)) → with_components done (cs ++ ds) ≡ option_and_then (λ (f : List (List ℕ)). with_components f ds) (with_components done cs)
with_components-append done [] ds = refl
with_components-append done (c ∷ cs) ds = in_two cs ds (λ front. with_components-append front cs ds) (with_component done c)

-- all parts of a list pass a test without the last
front_pass : (test : List ℕ → Bool) (x : List ℕ) (o : Option (List (List ℕ))) (parts : List (List ℕ)) → test x ≡ true → ((front : List (List ℕ)) → o ≡ Some front → list_all test front ≡ true) → option_map (λ (front : List (List ℕ)). x ∷ front) o ≡ Some parts → list_all test parts ≡ true
front_pass test x None parts first rest e = cc
front_pass test x (Some front) parts first rest e =
    let same : x ∷ front ≡ parts = cc in
    rw (← same) (and_from _ _ first (rest front refl))

pub all-without_last : (test : List ℕ → Bool) (done parts : List (List ℕ)) → list_all test done ≡ true → without_last done ≡ Some parts → list_all test parts ≡ true
all-without_last test [] parts all e = cc
all-without_last test (x ∷ []) parts all e =
    let none : [] ≡ parts = cc in
    rw (← none) refl
all-without_last test (x ∷ y ∷ xs) parts all e =
    let both = and_parts (test x) (list_all test (y ∷ xs)) all in
    front_pass test x (without_last (y ∷ xs)) parts both.0 (λ front is. all-without_last test (y ∷ xs) front both.1 is) e

kept_one : (c : List ℕ) → is_bare c ≡ true → bytes_eq c [] ≡ false → bytes_eq c (codes ".") ≡ false → bytes_eq c (codes "..") ≡ false → is_kept c ≡ true
kept_one [] bare some dot dots = absurd (true≢false some)
kept_one (b ∷ bs) bare some dot dots = and_from _ _ (and_from _ _ bare (not_from_false _ dot)) (not_from_false _ dots)

-- one component keeps the parts kept
pub kept-with_component : (done parts : List (List ℕ)) (c : List ℕ) → list_all is_kept done ≡ true → is_bare c ≡ true → with_component done c ≡ Some parts → list_all is_kept parts ≡ true
kept-with_component done parts c all bare e = elim (cases_Bool (bytes_eq c [] || bytes_eq c (codes "."))) [
  | inl is ↦
      let same : Some done ≡ Some parts = rw is at e in
      let parts_are : done ≡ parts = cc in
      rw (← parts_are) all
  | inr isnt ↦
      let tests : (bytes_eq c [] ≡ false) × (bytes_eq c (codes ".") ≡ false) = or_parts _ _ isnt in
      elim (cases_Bool (bytes_eq c (codes ".."))) [
        | inl up ↦ all-without_last is_kept done parts all (rw (isnt, up) at e)
        | inr down ↦
            let same : Some (done ++ c ∷ []) ≡ Some parts = rw (isnt, down) at e in
            let parts_are : done ++ c ∷ [] ≡ parts = cc in
            rw (← parts_are, list_all-append is_kept done (c ∷ [])) (and_from _ _ all (and_from _ _ (kept_one c bare tests.0 tests.1 down) refl))
      ]
]

kept_after : (o : Option (List (List ℕ))) (cs parts : List (List ℕ)) → ((front : List (List ℕ)) → o ≡ Some front → with_components front cs ≡ Some parts → list_all is_kept parts ≡ true) → option_and_then (λ (front : List (List ℕ)). with_components front cs) o ≡ Some parts → list_all is_kept parts ≡ true
kept_after None cs parts step e = cc
kept_after (Some front) cs parts step e = step front refl e

-- components keep the parts kept
pub kept-with_components : (done cs parts : List (List ℕ)) → list_all is_kept done ≡ true → list_all is_bare cs ≡ true → with_components done cs ≡ Some parts → list_all is_kept parts ≡ true
kept-with_components done [] parts all bare e =
    let same : done ≡ parts = cc in
    rw (← same) all
kept-with_components done (c ∷ cs) parts all bare e =
    let both = and_parts (is_bare c) (list_all is_bare cs) bare in
    kept_after (with_component done c) cs parts (λ front is more. kept-with_components front cs parts (kept-with_component done front c all both.0 is) both.1 more) e

-- kept components are names
pub names-from_kept : (parts : List (List ℕ)) → list_all is_kept parts ≡ true → list_all is_name parts ≡ true
names-from_kept [] all = refl
names-from_kept (p ∷ ps) all =
    let both = and_parts (is_kept p) (list_all is_kept ps) all in
    and_from _ _ (and_parts _ _ (and_parts _ _ both.0).0).0 (names-from_kept ps both.1)

-- the leading / of a path, where it has one
abbrev pub root_of : Bool → List ℕ
root_of absolute = if absolute then codes "/" else []

root_cut : (absolute : Bool) (text path : List ℕ) → root_of absolute ++ text ≡ path → ((if absolute then 1 else 0) ≤ length path) × (drop (if absolute then 1 else 0) path ≡ text) × (take (if absolute then 1 else 0) path ≡ root_of absolute)
root_cut true text path e = rw (← e) (omega arith, refl, refl)
root_cut false text path e = rw (← e) (omega arith, refl, refl)

shown_parts : (path : List ℕ) (o : Option (List (List ℕ))) → with_components [] (components path) ≡ o → option_map (λ (ps : List (List ℕ)). root_of (is_absolute path) ++ join_with_byte 47 ps) o ≡ Some path → (parts : List (List ℕ)) × Shows (root_len path) parts path × (with_components [] (components path) ≡ Some parts) × (take (root_len path) path ≡ root_of (is_absolute path))
shown_parts path None is e = cc
shown_parts path (Some ps) is e =
    let whole : root_of (is_absolute path) ++ join_with_byte 47 ps ≡ path = cc in
    let cut = root_cut (is_absolute path) (join_with_byte 47 ps) path whole in (
      ps,
      record {
        within = cut.0;
        joined = cut.1;
        names = names-from_kept ps (kept-with_components [] (components path) ps refl (components-bare path) is);
      },
      is,
      cut.2,
    )

-- the parts of a normal form
pub shown_normal : (path : List ℕ) → IsNormal path → (parts : List (List ℕ)) × Shows (root_len path) parts path × (with_components [] (components path) ≡ Some parts) × (take (root_len path) path ≡ root_of (is_absolute path))
shown_normal path normal = shown_parts path (with_components [] (components path)) refl normal

is_absolute-append : (dir more : List ℕ) → 0 < length dir → is_absolute (dir ++ more) ≡ is_absolute dir
is_absolute-append [] more some = absurd (omega arith)
is_absolute-append (b ∷ bs) more some = refl

normal_form-slash : (dir name : List ℕ) (parts : List (List ℕ)) → 0 < length dir → with_components [] (components dir) ≡ Some parts → normal_form (dir ++ 47 ∷ name) ≡ option_map (λ (ps : List (List ℕ)). root_of (is_absolute dir) ++ join_with_byte 47 ps) (with_components parts (components name))
normal_form-slash dir name parts some is =
    let split : with_components [] (components (dir ++ 47 ∷ name)) ≡ with_components parts (components name) =
    ap (with_components []) (components-slash dir name) ∙ with_components-append [] (components dir) (components name)
    ∙ ap (option_and_then (λ (f : List (List ℕ)). with_components f (components name))) is in
    ap (λ (a : Bool). option_map (λ (ps : List (List ℕ)). root_of a ++ join_with_byte 47 ps) (with_components [] (components (dir ++ 47 ∷ name)))) (is_absolute-append dir (47 ∷ name) some)
    ∙ ap (option_map (λ (ps : List (List ℕ)). root_of (is_absolute dir) ++ join_with_byte 47 ps)) split

-- the normal form of a name in a directory
pub normal_form-joined : (dir name : List ℕ) (parts : List (List ℕ)) → with_components [] (components dir) ≡ Some parts → (is_absolute name ≡ true → 0 < length dir) → normal_form (joined_path dir name) ≡ option_map (λ (ps : List (List ℕ)). root_of (is_absolute dir) ++ join_with_byte 47 ps) (with_components parts (components name))
normal_form-joined [] name parts is below =
    let relative : is_absolute name ≡ false = false_from_ne_true _ (λ absolute. let none = below absolute in omega arith) in
    let start : [] ≡ parts = cc in
    rw (relative, ← start) refl
normal_form-joined (b ∷ bs) name parts is below =
    ap normal_form (append_assoc (b ∷ bs) (codes "/") name) ∙ normal_form-slash (b ∷ bs) name parts (omega arith) is

found_parts : (paths : List (List ℕ)) (root : ℕ) (absolute : Bool) (old new : List ℕ) (fits : Bool) (o : Option (List (List ℕ))) → take root old ≡ root_of absolute → MatchOption o (fits ≡ false) (λ ps. (fits ≡ true) × Shows root ps new × (take root new ≡ take root old)) → (if fits then place_of new paths else None) ≡ option_and_then (λ (path : List ℕ). place_of path paths) (option_map (λ (ps : List (List ℕ)). root_of absolute ++ join_with_byte 47 ps) o)
found_parts paths root absolute old new fits None kept told = rw told refl
found_parts paths root absolute old new fits (Some ps) kept told =
    let whole : root_of absolute ++ join_with_byte 47 ps ≡ new =
    ap (λ (r : List ℕ). r ++ join_with_byte 47 ps) (sym kept ∙ sym told.2) ∙ ap (λ (l : List ℕ). take root new ++ l) (sym told.1.joined) ∙ take-append-drop root new in
    rw (told.0, whole) refl

-- the file that is found where the name is put after the directory
pub found_as-joined : (paths : List (List ℕ)) (dir name new : List ℕ) (fits : Bool) → IsNormal dir → (is_absolute name ≡ true → 0 < length dir) → ((parts : List (List ℕ)) → Shows (root_len dir) parts dir → ShowsAfter (root_len dir) (with_components parts (components name)) dir fits new) → (if fits then place_of new paths else None) ≡ found_as paths (joined_path dir name)
found_as-joined paths dir name new fits normal below told =
    let shown = shown_normal dir normal in
    rw (normal_form-joined dir name shown.0 shown.2 below)
    (found_parts paths (root_len dir) (is_absolute dir) dir new fits (with_components shown.0 (components name)) shown.3 (told shown.0 shown.1))

prefix_len-map : {X Y : Type 0} (p : Y → Bool) (f : X → Y) (xs : List X) → prefix_len p (map f xs) ≡ prefix_len (λ x. p (f x)) xs
prefix_len-map p f [] = refl
prefix_len-map p f (x ∷ xs) = ap (λ (n : ℕ). cond (p (f x)) (1 + n) 0) (prefix_len-map p f xs)

-- the first place of an image
pub position-map : {X Y : Type 0} (p : Y → Bool) (f : X → Y) (xs : List X) → position p (map f xs) ≡ position (λ x. p (f x)) xs
position-map p f xs = rw (prefix_len-map (λ y. not (p y)) f xs, length-map xs f) refl

name_some : (p : List ℕ) → is_name p ≡ true → bytes_eq p [] ≡ false
name_some [] name = absurd (false≢true name)
name_some (b ∷ bs) name = refl

kept-more : (done : List (List ℕ)) (p : List ℕ) → is_kept p ≡ true → with_component done p ≡ Some (done ++ p ∷ [])
kept-more done p kept =
    let both = and_parts (is_name p && not (bytes_eq p (codes "."))) (not (bytes_eq p (codes ".."))) kept in
    let name = and_parts (is_name p) (not (bytes_eq p (codes "."))) both.0 in
    rw (or_from _ _ (name_some p name.0) (not-true _ name.1), not-true _ both.1) refl

-- kept components are all kept
pub with_components-kept : (done ps : List (List ℕ)) → list_all is_kept ps ≡ true → with_components done ps ≡ Some (done ++ ps)
with_components-kept done [] kept = ap (λ (l : List (List ℕ)). Some l) (sym (append-nil done))
with_components-kept done (p ∷ ps) kept =
    let both = and_parts (is_kept p) (list_all is_kept ps) kept in
    ap (option_and_then (λ (front : List (List ℕ)). with_components front ps)) (kept-more done p both.0)
    ∙ with_components-kept (done ++ p ∷ []) ps both.1
    ∙ ap (λ (l : List (List ℕ)). Some l) (append_assoc done (p ∷ []) ps)

relative-join : (p : List ℕ) (ps : List (List ℕ)) → is_name p ≡ true → is_absolute (join_with_byte 47 (p ∷ ps)) ≡ false
relative-join [] ps name = absurd (false≢true name)
relative-join (b ∷ bs) [] name = (or_parts _ _ (not-true _ name)).0
relative-join (b ∷ bs) (q ∷ qs) name = (or_parts _ _ (not-true _ name)).0

-- a root and kept components are in normal form
pub normal-kept : (absolute : Bool) (ps : List (List ℕ)) → list_all is_kept ps ≡ true → IsNormal (root_of absolute ++ join_with_byte 47 ps)
normal-kept true [] kept = refl
normal-kept false [] kept = refl
normal-kept true (p ∷ ps) kept =
    rw (components-join p ps (names-from_kept (p ∷ ps) kept), with_components-kept [] (p ∷ ps) kept) refl
normal-kept false (p ∷ ps) kept =
    let names = names-from_kept (p ∷ ps) kept in
    rw (relative-join p ps (and_parts _ _ names).0, components-join p ps names, with_components-kept [] (p ∷ ps) kept) refl

normal-from : (path form : List ℕ) (o : Option (List (List ℕ))) → with_components [] (components path) ≡ o → option_map (λ (ps : List (List ℕ)). root_of (is_absolute path) ++ join_with_byte 47 ps) o ≡ Some form → IsNormal form
normal-from path form None is e = cc
normal-from path form (Some ps) is e =
    let whole : root_of (is_absolute path) ++ join_with_byte 47 ps ≡ form = cc in
    rw (← whole) (normal-kept (is_absolute path) ps (kept-with_components [] (components path) ps refl (components-bare path) is))

-- a normal form is its own normal form
pub normal_form-normal : (path form : List ℕ) → normal_form path ≡ Some form → IsNormal form
normal_form-normal path form e = normal-from path form (with_components [] (components path)) refl e

names-from : (path form : List ℕ) (o : Option (List (List ℕ))) → with_components [] (components path) ≡ o → option_map (λ (ps : List (List ℕ)). root_of (is_absolute path) ++ join_with_byte 47 ps) o ≡ Some form → (names : List (List ℕ)) × (form ≡ root_of (is_absolute path) ++ join_with_byte 47 names) × (list_all is_kept names ≡ true)
names-from path form None is e = cc
names-from path form (Some ps) is e =
    let whole : form ≡ root_of (is_absolute path) ++ join_with_byte 47 ps = cc in
    (ps, whole, kept-with_components [] (components path) ps refl (components-bare path) is)

-- the names of a normal form
pub normal_form-names : (path form : List ℕ) → normal_form path ≡ Some form → (names : List (List ℕ)) × (form ≡ root_of (is_absolute path) ++ join_with_byte 47 names) × (list_all is_kept names ≡ true)
normal_form-names path form e = names-from path form (with_components [] (components path)) refl e

-- the directory of a path, by the parts before the last /
pub directory_of-cut : (A B : List ℕ) → has_slash B ≡ false → directory_of (A ++ 47 ∷ B) ≡ (if is_absolute (A ++ 47 ∷ B) && bytes_eq A [] then codes "/" else A)
directory_of-cut A B bare =
    let front : join_with_byte 47 (unwrap_or (without_last (components (A ++ 47 ∷ B))) []) ≡ A =
    ap (λ (l : List (List ℕ)). join_with_byte 47 (unwrap_or (without_last l) [])) (components-slash A B ∙ ap (λ (l : List (List ℕ)). components A ++ l) (components_one B bare))
    ∙ ap (λ (o : Option (List (List ℕ))). join_with_byte 47 (unwrap_or o [])) (without_last-push (components A) B)
    ∙ join_with_byte-slice_split 47 A in
    ap (λ (f : List ℕ). if is_absolute (A ++ 47 ∷ B) && bytes_eq f [] then codes "/" else f) front

-- without a / it is the start
pub directory_of_bare : (path : List ℕ) → has_slash path ≡ false → directory_of path ≡ []
directory_of_bare [] bare = refl
directory_of_bare (b ∷ bs) bare =
    let relative : is_absolute (b ∷ bs) ≡ false = (or_parts _ _ bare).0 in
    rw (components_one (b ∷ bs) bare, relative) refl

normal_parts-from : (path : List ℕ) (o : Option (List (List ℕ))) → with_components [] (components path) ≡ o → option_map (λ (ps : List (List ℕ)). root_of (is_absolute path) ++ join_with_byte 47 ps) o ≡ Some path → (ps : List (List ℕ)) × (list_all is_kept ps ≡ true) × (root_of (is_absolute path) ++ join_with_byte 47 ps ≡ path)
normal_parts-from path None is e = cc
normal_parts-from path (Some ps) is e =
    let whole : root_of (is_absolute path) ++ join_with_byte 47 ps ≡ path = cc in
    (ps, kept-with_components [] (components path) ps refl (components-bare path) is, whole)

too_short : (A B : List ℕ) (path : List ℕ) → path ≡ A ++ 47 ∷ B → 0 < length A → length path ≤ 1 → ⊥
too_short A B path cut some short =
    let long : length path ≡ length A + length (47 ∷ B) = simp length-append at (ap length cut) in
    omega arith

kept_front : (A B : List ℕ) (first : List (List ℕ)) → first ≡ components A ++ B ∷ [] → list_all is_kept first ≡ true → list_all is_kept (components A) ≡ true
kept_front A B first is kept = (and_parts _ _ (sym (list_all-append is_kept (components A) (B ∷ [])) ∙ ap (list_all is_kept) (sym is) ∙ kept)).0

absolute_front : (A B : List ℕ) (xs : List (List ℕ)) (kept : List (List ℕ)) → 0 < length A → components A ≡ [] ∷ xs → kept ≡ xs ++ B ∷ [] → list_all is_kept kept ≡ true → IsNormal A
absolute_front A B [] kept some is behind all =
    let empty : A ≡ [] = sym (join_with_byte-slice_split 47 A) ∙ ap (join_with_byte 47) is in
    let none : length A ≡ 0 = ap length empty in
    absurd (omega arith)
absolute_front A B (y ∷ ys) kept some is behind all =
    let whole : A ≡ codes "/" ++ join_with_byte 47 (y ∷ ys) = sym (join_with_byte-slice_split 47 A) ∙ ap (join_with_byte 47) is in
    rw whole (normal-kept true (y ∷ ys) (and_parts _ _ (sym (list_all-append is_kept (y ∷ ys) (B ∷ [])) ∙ ap (list_all is_kept) (sym behind) ∙ all)).0)

normal_front : (absolute : Bool) (ps : List (List ℕ)) (A B path : List ℕ) → path ≡ A ++ 47 ∷ B → has_slash B ≡ false → 0 < length A → list_all is_kept ps ≡ true → root_of absolute ++ join_with_byte 47 ps ≡ path → IsNormal A
normal_front false [] A B path cut bare some all whole = absurd (too_short A B path cut some (rw (← whole) (omega arith)))
normal_front true [] A B path cut bare some all whole = absurd (too_short A B path cut some (rw (← whole) (omega arith)))
normal_front false (p ∷ ps) A B path cut bare some all whole =
    let apart : p ∷ ps ≡ components A ++ B ∷ [] =
    sym (components-join p ps (names-from_kept (p ∷ ps) all)) ∙ ap components (whole ∙ cut) ∙ components-slash A B ∙ ap (λ (l : List (List ℕ)). components A ++ l) (components_one B bare) in
    rw (← join_with_byte-slice_split 47 A) (normal-kept false (components A) (kept_front A B (p ∷ ps) apart all))
normal_front true (p ∷ ps) A B path cut bare some all whole =
    let parts = components-cons A in
    let apart : [] ∷ (p ∷ ps) ≡ parts.0 ∷ (parts.1 ++ B ∷ []) =
    ap (λ (l : List (List ℕ)). [] ∷ l) (sym (components-join p ps (names-from_kept (p ∷ ps) all)))
    ∙ ap components (whole ∙ cut) ∙ components-slash A B ∙ ap (λ (l : List (List ℕ)). components A ++ l) (components_one B bare) ∙ ap (λ (l : List (List ℕ)). l ++ B ∷ []) parts.2 in
    let first : [] ≡ parts.0 = cc in
    let behind : p ∷ ps ≡ parts.1 ++ B ∷ [] = cc in
    absolute_front A B parts.1 (p ∷ ps) some (parts.2 ∙ ap (λ (x : List ℕ). x ∷ parts.1) (sym first)) behind all

-- what is before the last / of a normal form is one
pub normal-before_slash : (A B path : List ℕ) → path ≡ A ++ 47 ∷ B → has_slash B ≡ false → 0 < length A → IsNormal path → IsNormal A
normal-before_slash A B path cut bare some normal =
    let parts = normal_parts-from path (with_components [] (components path)) refl normal in
    normal_front (is_absolute path) parts.0 A B path cut bare some parts.1 parts.2

-- a path, where all are in normal form
pub normal_path : (paths : List (List ℕ)) (i : ℕ) (path : List ℕ) → All IsNormal paths → slice_get paths i ≡ Some path → IsNormal path
normal_path paths i path all is =
    subst IsNormal (get_or_from_slice_get paths i path path is) (all i path (slice_get_within paths i path is))

-- a directory, where all are in normal form
-- the directory at a place
pub dir_at : (dirs : List (Vec ℕ)) (i : ℕ) (dir : Vec ℕ) → i < length dirs → dir ≡ get_or dirs i dir
    → get_or (map (λ (v : Vec ℕ). v.items) dirs) i [] ≡ dir.items
dir_at dirs i dir low is = get_or-map (λ (v : Vec ℕ). v.items) dirs i dir [] low ∙ ap (λ (v : Vec ℕ). v.items) (sym is)

pub normal_dir : (dirs : List (Vec ℕ)) (i : ℕ) (dir : Vec ℕ) → All IsNormal (map (λ (v : Vec ℕ). v.items) dirs) → i < length dirs
    → dir ≡ get_or dirs i dir → IsNormal dir.items
normal_dir dirs i dir all low is =
    subst IsNormal (dir_at dirs i dir low is) (all i [] (rw (length-map dirs (λ (v : Vec ℕ). v.items)) low))
