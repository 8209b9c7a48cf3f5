-- The paths of files are not empty and hold no LF.
use Rattle.std.proofs.Common.{◌≡◌, ℕ, Bool, true, false, ◌||◌, List, [], ◌∷◌, ◌++◌, Option, Some, None, All, IsTrue, length, map, inl, inr, refl, sym, ap, ◌∙◌, arith}
use Rattle.std.specs.Prelude.{◌==◌, not, is_none, option_map, option_and_then, codes, bytes_eq}
use Rattle.std.specs.List.{list_all, list_any, onto_first, join_with_byte}
use Rattle.std.proofs.lemmas.Bool.{and_parts, and_from, or_parts, or_from, true≢false, cases_Bool, not_from_false, not-true, lt-ltb}
use Rattle.std.proofs.lemmas.List.Elements.{All-nil, All-cons}
use Rattle.std.proofs.lemmas.List.Folds.{list_all-append, list_any-append}
use Rattle.std.proofs.lemmas.List.Splits.{slice_split-cons_yes, slice_split-cons_no}
use Rattle.inc_lookup.specs.Paths.{components, with_component, with_components, resolved, is_absolute, normal_form}
use Rattle.inc_lookup.specs.Projects.{is_bad_path, is_no_file, is_bad_file_path, is_clean_path}
use Rattle.inc_lookup.proofs.PathLemmas.{components-cons}
use Rattle.inc_lookup.proofs.NormalLemmas.{all-without_last, root_of}

abbrev has_line_feed : List ℕ → Bool
has_line_feed path = list_any (λ b. b == 10) path

-- a text of one line
abbrev is_one_line : List ℕ → Bool
is_one_line path = not (has_line_feed path)

onto_line : (b : ℕ) (p : List ℕ) (ps : List (List ℕ)) → (b == 10) ≡ false → list_all is_one_line (p ∷ ps) ≡ true → list_all is_one_line (onto_first b (p ∷ ps)) ≡ true
onto_line b p ps isnt all =
    let parts = and_parts (is_one_line p) (list_all is_one_line ps) all in
    and_from _ _ (not_from_false _ (or_from _ _ isnt (not-true _ parts.0))) parts.1

components-lines : (xs : List ℕ) → has_line_feed xs ≡ false → list_all is_one_line (components xs) ≡ true
components-lines [] none = refl
components-lines (x ∷ xs) none =
    let here = or_parts (x == 10) (has_line_feed xs) none in
    let rest = components-lines xs here.1 in
    let parts = components-cons xs in
    elim (cases_Bool (x == 47)) [
      | inl is ↦ rw (slice_split-cons_yes (λ b. b == 47) x xs is) rest
      | inr isnt ↦ rw (slice_split-cons_no (λ b. b == 47) x xs isnt, parts.2) (onto_line x parts.0 parts.1 here.0 (rw parts.2 at rest))
    ]

-- components that pass a test leave parts that pass it
module _ (test : List ℕ → Bool) where
  pass_one : (done parts : List (List ℕ)) (c : List ℕ) → list_all test done ≡ true → test c ≡ true → with_component done c ≡ Some parts → list_all test parts ≡ true
  pass_one done parts c all passes e = elim (cases_Bool (bytes_eq c [] || bytes_eq c (codes "."))) [
    | inl is ↦
        let same : Some done ≡ Some parts = rw is at e in
        let parts_are : done ≡ parts = cc in
        rw (← parts_are) all
    | inr isnt ↦
        elim (cases_Bool (bytes_eq c (codes ".."))) [
          | inl up ↦ all-without_last test done parts all (rw (isnt, up) at e)
          | inr down ↦
              let same : Some (done ++ c ∷ []) ≡ Some parts = rw (isnt, down) at e in
              let parts_are : done ++ c ∷ [] ≡ parts = cc in
              rw (← parts_are, list_all-append test done (c ∷ [])) (and_from _ _ all (and_from _ _ passes refl))
        ]
  ]

  pass_after : (o : Option (List (List ℕ))) (cs parts : List (List ℕ)) → ((front : List (List ℕ)) → o ≡ Some front → with_components front cs ≡ Some parts → list_all test parts ≡ true)
      → option_and_then (λ (front : List (List ℕ)). with_components front cs) o ≡ Some parts → list_all test parts ≡ true
  pass_after None cs parts step e = cc
  pass_after (Some front) cs parts step e = step front refl e

  pass_all : (done cs parts : List (List ℕ)) → list_all test done ≡ true → list_all test cs ≡ true → with_components done cs ≡ Some parts → list_all test parts ≡ true
  pass_all done [] parts all pass e =
      let same : done ≡ parts = cc in
      rw (← same) all
  pass_all done (c ∷ cs) parts all pass e =
      let both = and_parts (test c) (list_all test cs) pass in
      pass_after (with_component done c) cs parts (λ front is more. pass_all front cs parts (pass_one done front c all both.0 is) both.1 more) e

joined-line : (ps : List (List ℕ)) → list_all is_one_line ps ≡ true → has_line_feed (join_with_byte 47 ps) ≡ false
joined-line [] all = refl
joined-line (p ∷ []) all = not-true _ (and_parts (is_one_line p) true all).0
joined-line (p ∷ q ∷ ps) all =
    let both = and_parts (is_one_line p) (list_all is_one_line (q ∷ ps)) all in
    rw (list_any-append (λ b. b == 10) p (47 ∷ join_with_byte 47 (q ∷ ps))) (or_from _ _ (not-true _ both.0) (joined-line (q ∷ ps) both.1))

rooted-line : (absolute : Bool) (text : List ℕ) → has_line_feed text ≡ false → has_line_feed (root_of absolute ++ text) ≡ false
rooted-line true text none = none
rooted-line false text none = none

shown-line : (absolute : Bool) (o : Option (List (List ℕ))) (form : List ℕ) → ((ps : List (List ℕ)) → o ≡ Some ps → list_all is_one_line ps ≡ true)
    → option_map (λ (ps : List (List ℕ)). root_of absolute ++ join_with_byte 47 ps) o ≡ Some form → has_line_feed form ≡ false
shown-line absolute None form pass e = cc
shown-line absolute (Some ps) form pass e =
    let same : root_of absolute ++ join_with_byte 47 ps ≡ form = cc in
    ap has_line_feed (sym same) ∙ rooted-line absolute (join_with_byte 47 ps) (joined-line ps (pass ps refl))

-- the normal form of a text of one line is one too
normal_form-line : (path form : List ℕ) → has_line_feed path ≡ false → normal_form path ≡ Some form → has_line_feed form ≡ false
normal_form-line path form none e =
    shown-line (is_absolute path) (resolved (components path)) form (λ ps is. pass_all is_one_line [] (components path) ps refl (components-lines path none) is) e

-- neither NUL nor LF is no LF
no_line_feed : (path : List ℕ) → list_any (λ b. (b == 0) || (b == 10)) path ≡ false → has_line_feed path ≡ false
no_line_feed [] none = refl
no_line_feed (b ∷ bs) none =
    let here = or_parts ((b == 0) || (b == 10)) (list_any (λ x. (x == 0) || (x == 10)) bs) none in
    or_from _ _ (or_parts (b == 0) (b == 10) here.0).1 (no_line_feed bs here.1)

clean : (form : List ℕ) → bytes_eq form [] ≡ false → has_line_feed form ≡ false → is_clean_path form ≡ true
clean [] some line = absurd (true≢false some)
clean (b ∷ bs) some line = and_from _ _ (lt-ltb 0 (length (b ∷ bs)) (omega arith)) (not_from_false _ line)

-- a path that is not bad has a clean normal form
form_clean : (path form : List ℕ) → is_bad_file_path path ≡ false → normal_form path ≡ Some form → is_clean_path form ≡ true
form_clean path form good is =
    let both = or_parts (is_bad_path path) (is_no_file (normal_form path)) good in
    let front = or_parts _ (is_none (normal_form path)) both.0 in
    let ends = or_parts (list_any (λ b. (b == 0) || (b == 10)) path) _ front.0 in
    let some = or_parts (bytes_eq form []) (bytes_eq form (codes "/")) (ap is_no_file (sym is) ∙ both.1) in
    clean form some.0 (normal_form-line path form (no_line_feed path ends.0) is)

pub forms_clean : (paths forms : List (List ℕ)) → list_any is_bad_file_path paths ≡ false → map normal_form paths ≡ map (λ (f : List ℕ). Some f) forms → All (λ (form : List ℕ). IsTrue (is_clean_path form)) forms
forms_clean paths [] good are = All-nil (λ (form : List ℕ). IsTrue (is_clean_path form))
forms_clean [] (f ∷ fs) good are = cc
forms_clean (p ∷ ps) (f ∷ fs) good are =
    let here = or_parts (is_bad_file_path p) (list_any is_bad_file_path ps) good in
    let first : normal_form p ≡ Some f = cc in
    let more : map normal_form ps ≡ map (λ (g : List ℕ). Some g) fs = cc in
    All-cons (λ (form : List ℕ). IsTrue (is_clean_path form)) f fs (form_clean p f here.0 first) (forms_clean ps fs here.1 more)
