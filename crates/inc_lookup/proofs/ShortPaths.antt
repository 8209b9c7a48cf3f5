-- The normal form of a path is no longer than the path.
use Rattle.std.proofs.Common.{◌≡◌, ℕ, ◌+◌, ◌-◌, ◌≤◌, Bool, true, false, ◌||◌, List, [], ◌∷◌, ◌++◌, Option, Some, None, All, length, map, inl, inr, refl, sym, ap, ◌∙◌, zero-add, arith}
use Rattle.std.specs.Prelude.{◌==◌, nat_lt, option_map, option_and_then, codes, bytes_eq}
use Rattle.std.specs.List.{list_any, onto_first, join_with_byte}
use Rattle.std.proofs.lemmas.Bool.{or_parts, cases_Bool, eqb-true, ltb-false}
use Rattle.std.proofs.lemmas.List.{length-append}
use Rattle.std.proofs.lemmas.List.Elements.{All-nil, All-cons}
use Rattle.std.proofs.lemmas.List.Splits.{slice_split-cons_yes, slice_split-cons_no}
use Rattle.inc_lookup.specs.declared.listings.TheConstants.{LONGEST_PATH}
use Rattle.inc_lookup.specs.Paths.{components, without_last, with_component, with_components, resolved, is_absolute, normal_form}
use Rattle.inc_lookup.specs.Projects.{is_bad_path, is_no_file, is_bad_file_path}
use Rattle.inc_lookup.proofs.PathLemmas.{components-cons}
use Rattle.inc_lookup.proofs.NormalLemmas.{root_of}

-- the bytes of components, and one more for each
abbrev size : List (List ℕ) → ℕ
size [] = 0
size (p ∷ ps) = 1 + length p + size ps

size-append : (ps qs : List (List ℕ)) → size (ps ++ qs) ≡ size ps + size qs
size-append [] qs = sym (zero-add (size qs))
size-append (p ∷ ps) qs = let rest = size-append ps qs in omega arith

size-onto : (b : ℕ) (p : List ℕ) (ps : List (List ℕ)) → size (onto_first b (p ∷ ps)) ≡ 1 + size (p ∷ ps)
size-onto b p ps = omega arith

-- a path has one / less than it has components
size-components : (path : List ℕ) → size (components path) ≡ 1 + length path
size-components [] = refl
size-components (x ∷ xs) =
    let rest = size-components xs in
    let parts = components-cons xs in
    elim (cases_Bool (x == 47)) [
      | inl is ↦ rw (slice_split-cons_yes (λ b. b == 47) x xs is) (omega (arith, rest))
      | inr isnt ↦
          let first = size-onto x parts.0 parts.1 ∙ ap (λ n. 1 + n) (sym (ap size parts.2) ∙ rest) in
          rw (slice_split-cons_no (λ b. b == 47) x xs isnt, parts.2) (omega (arith, first))
    ]

---- components that are left

front_size : (x : List ℕ) (o : Option (List (List ℕ))) (parts : List (List ℕ)) (n : ℕ)
    → ((front : List (List ℕ)) → o ≡ Some front → size front ≤ n)
    → option_map (λ (front : List (List ℕ)). x ∷ front) o ≡ Some parts → size parts ≤ 1 + length x + n
front_size x None parts n rest e = cc
front_size x (Some front) parts n rest e =
    let same : x ∷ front ≡ parts = cc in
    let low = rest front refl in
    rw (← same) (omega arith)

size-without_last : (done parts : List (List ℕ)) → without_last done ≡ Some parts → size parts ≤ size done
size-without_last [] parts e = cc
size-without_last (x ∷ []) parts e =
    let none : [] ≡ parts = cc in
    rw (← none) (omega arith)
size-without_last (x ∷ y ∷ xs) parts e =
    front_size x (without_last (y ∷ xs)) parts (size (y ∷ xs)) (λ front is. size-without_last (y ∷ xs) front is) e

size_one : (done parts : List (List ℕ)) (c : List ℕ) → with_component done c ≡ Some parts
    → size parts ≤ size done + (1 + length c)
size_one done parts c e = elim (cases_Bool (bytes_eq c [] || bytes_eq c (codes "."))) [
  | inl is ↦
      let same : Some done ≡ Some parts = rw is at e in
      let parts_are : done ≡ parts = cc in
      rw (← parts_are) (omega arith)
  | inr isnt ↦
      elim (cases_Bool (bytes_eq c (codes ".."))) [
        | inl up ↦ let low = size-without_last done parts (rw (isnt, up) at e) in omega arith
        | inr down ↦
            let same : Some (done ++ c ∷ []) ≡ Some parts = rw (isnt, down) at e in
            let parts_are : done ++ c ∷ [] ≡ parts = cc in
            let all = size-append done (c ∷ []) in
            rw (← parts_are) (omega arith)
      ]
]

size_after : (o : Option (List (List ℕ))) (cs parts : List (List ℕ)) (n : ℕ)
    → ((front : List (List ℕ)) → o ≡ Some front → with_components front cs ≡ Some parts → size parts ≤ n)
    → option_and_then (λ (front : List (List ℕ)). with_components front cs) o ≡ Some parts → size parts ≤ n
size_after None cs parts n step e = cc
size_after (Some front) cs parts n step e = step front refl e

size_all : (done cs parts : List (List ℕ)) → with_components done cs ≡ Some parts → size parts ≤ size done + size cs
size_all done [] parts e =
    let same : done ≡ parts = cc in
    rw (← same) (omega arith)
size_all done (c ∷ cs) parts e =
    size_after (with_component done c) cs parts (size done + size (c ∷ cs)) (λ front is more.
    let here = size_one done front c is in
    let rest = size_all front cs parts more in
    omega arith) e

length-join : (ps : List (List ℕ)) → length (join_with_byte 47 ps) ≡ size ps - 1
length-join [] = refl
length-join (p ∷ []) = omega arith
length-join (p ∷ q ∷ ps) =
    let rest = length-join (q ∷ ps) in
    let all = length-append p (47 ∷ join_with_byte 47 (q ∷ ps)) in
    omega arith

---- normal forms

-- the first component of an absolute path is empty, and is dropped
length-absolute : (xs : List ℕ) (ps : List (List ℕ)) → with_components [] (components (47 ∷ xs)) ≡ Some ps
    → 1 + length (join_with_byte 47 ps) ≤ 1 + length xs
length-absolute xs ps e =
    let apart : components (47 ∷ xs) ≡ [] ∷ components xs = slice_split-cons_yes (λ b. b == 47) 47 xs refl in
    let low = size_all [] (components xs) ps (ap (with_components []) (sym apart) ∙ e) in
    let size = size-components xs in
    let joined = length-join ps in
    omega arith

length-relative : (path : List ℕ) (ps : List (List ℕ)) → with_components [] (components path) ≡ Some ps
    → length (join_with_byte 47 ps) ≤ length path
length-relative path ps e =
    let low = size_all [] (components path) ps e in
    let size = size-components path in
    let joined = length-join ps in
    omega arith

length-rooted : (absolute : Bool) (path : List ℕ) (ps : List (List ℕ)) → is_absolute path ≡ absolute
    → with_components [] (components path) ≡ Some ps → length (root_of absolute ++ join_with_byte 47 ps) ≤ length path
length-rooted false path ps is e = length-relative path ps e
length-rooted true [] ps is e = cc
length-rooted true (b ∷ bs) ps is e =
    let low = length-absolute bs ps (rw (eqb-true b 47 is) at e) in omega arith

length-shown : (path : List ℕ) (o : Option (List (List ℕ))) (form : List ℕ) → with_components [] (components path) ≡ o
    → option_map (λ (ps : List (List ℕ)). root_of (is_absolute path) ++ join_with_byte 47 ps) o ≡ Some form
    → length form ≤ length path
length-shown path None form is e = cc
length-shown path (Some ps) form is e =
    let same : root_of (is_absolute path) ++ join_with_byte 47 ps ≡ form = cc in
    rw (← same) (length-rooted (is_absolute path) path ps refl is)

pub length-normal_form : (path form : List ℕ) → normal_form path ≡ Some form → length form ≤ length path
length-normal_form path form e = length-shown path (resolved (components path)) form refl e

-- a path that is not bad has a short normal form
form_short : (path form : List ℕ) → is_bad_file_path path ≡ false → normal_form path ≡ Some form
    → length form ≤ LONGEST_PATH
form_short path form good is =
    let both = or_parts (is_bad_path path) (is_no_file (normal_form path)) good in
    let front = or_parts _ _ both.0 in
    let ends = or_parts (list_any (λ b. (b == 0) || (b == 10)) path) (nat_lt LONGEST_PATH (length path)) front.0 in
    let low = ltb-false LONGEST_PATH (length path) ends.1 in
    let form_low = length-normal_form path form is in
    omega arith

abbrev IsShort : List ℕ → Type 0
IsShort form = length form ≤ LONGEST_PATH

pub forms_short : (paths forms : List (List ℕ)) → list_any is_bad_file_path paths ≡ false
    → map normal_form paths ≡ map (λ (f : List ℕ). Some f) forms → All (λ (form : List ℕ). length form ≤ LONGEST_PATH) forms
forms_short paths [] good are = All-nil IsShort
forms_short [] (f ∷ fs) good are = cc
forms_short (p ∷ ps) (f ∷ fs) good are =
    let here = or_parts (is_bad_file_path p) (list_any is_bad_file_path ps) good in
    let first : normal_form p ≡ Some f = cc in
    let more : map normal_form ps ≡ map (λ (g : List ℕ). Some g) fs = cc in
    All-cons IsShort f fs (form_short p f here.0 first) (forms_short ps fs here.1 more)
