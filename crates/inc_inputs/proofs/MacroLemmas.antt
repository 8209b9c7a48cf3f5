-- What is left of words for macros, of which some take definitions away.
use Rattle.std.proofs.Common.{◌≡◌, ◌≢◌, ℕ, suc, Bool, true, false, List, [], ◌∷◌, ◌++◌, length, map, inl, inr, refl, sym, ap, ◌∙◌}
use Rattle.std.proofs.lemmas.Bool.{cases_Bool}
use Rattle.std.proofs.lemmas.Grind.{reverse_onto}
use Rattle.std.proofs.lemmas.List.{append-nil, append_assoc, map-append, reverse-append}
use Rattle.std.proofs.lemmas.List.Elements.{filter-append}
use Rattle.std.specs.Prelude.{◌&&◌, ◌||◌, bytes_eq, filter, if◌then◌else◌, not, reverse}
use Rattle.std.specs.List.{list_any}
use Rattle.inc_build.specs.Builds.{with_name}
use Rattle.inc_build.specs.declared.compiler_words.Kind.{Kind}
use Rattle.inc_inputs.specs.BuildMacros.{kept_in, stays, undefined_in}
use Rattle.inc_inputs.specs.BuildProjects.{are_same, is_other, is_same, macro_word, name_in, with_macros}
use Rattle.inc_inputs.specs.Views.{macro_of}
use Rattle.inc_inputs.specs.declared.build_macros.MacroWord.{MacroWord}
use Rattle.inc_inputs.proofs.FrontLemmas.{any_with}

pub map_kept : {X : Type 0} (f : X → List ℕ) (p : List ℕ → Bool) (xs : List X) → map f (filter (λ x. p (f x)) xs) ≡ filter p (map f xs)
map_kept f p [] = refl
map_kept f p (x ∷ xs) =
    elim (cases_Bool (p (f x))) [
      | inl kept ↦ rw kept (ap (λ ws. f x ∷ ws) (map_kept f p xs))
      | inr gone ↦ rw gone (map_kept f p xs)
    ]

pub map_reverse : {X : Type 0} (f : X → List ℕ) (xs : List X) → map f (reverse xs) ≡ reverse (map f xs)
map_reverse f [] = refl
map_reverse f (x ∷ xs) =
    ap (λ (ys : List _). map f ys) (reverse_onto xs x []) ∙ map-append f (reverse xs) (x ∷ []) ∙ ap (λ (ys : List (List ℕ)). ys ++ f x ∷ []) (map_reverse f xs)
    ∙ sym (reverse_onto (map f xs) (f x) [])

---- words that stay

not_or : (a b : Bool) → not (a || b) ≡ (not b && not a)
not_or true true = refl
not_or true false = refl
not_or false true = refl
not_or false false = refl

-- where one more name is taken away
stays_with : (name : List ℕ) (names : List (List ℕ)) (word : List ℕ) → stays (with_name name names) word ≡ (is_other name word && stays names word)
stays_with name names word =
    ap not (any_with (λ x. bytes_eq (name_in word) x) name names) ∙ not_or (stays_not names word) (bytes_eq (name_in word) name)
  where
    stays_not : List (List ℕ) → List ℕ → Bool
    stays_not names word = list_any (λ x. bytes_eq (name_in word) x) names

filter_both : {X : Type 0} (p q r : X → Bool) → ((x : X) → r x ≡ (p x && q x)) → (xs : List X) → filter r xs ≡ filter q (filter p xs)
filter_both p q r both [] = refl
filter_both p q r both (x ∷ xs) =
    elim (cases_Bool (p x)) [
      | inl is ↦ rw (both x) (rw is (ap (λ (ys : List _). if q x then x ∷ ys else ys) (filter_both p q r both xs)))
      | inr isnt ↦ rw (both x) (rw isnt (filter_both p q r both xs))
    ]

filter_all : (words : List (List ℕ)) → filter (stays []) words ≡ words
filter_all [] = refl
filter_all (w ∷ ws) = ap (λ (vs : List (List ℕ)). w ∷ vs) (filter_all ws)

reverse_one : (p : List ℕ → Bool) (word : List ℕ) → reverse (filter p (word ∷ [])) ≡ filter p (word ∷ [])
reverse_one p word =
    elim (cases_Bool (p word)) [
      | inl is ↦ rw is refl
      | inr isnt ↦ rw isnt refl
    ]

-- what stays of words, and of those of an entry, once these are read from the last one on
abbrev left_of : List (List ℕ) → List (Kind × List ℕ) → List (List ℕ)
left_of words ms = filter (stays (undefined_in ms)) words ++ reverse (kept_in ms)

left_one : (defines : Bool) (text : List ℕ) (ms : List (Kind × List ℕ)) (words : List (List ℕ))
    → ((vs : List (List ℕ)) → left_of vs ms ≡ with_macros vs ms) → left_of words (macro_word defines text ∷ ms) ≡ with_macros words (macro_word defines text ∷ ms)
left_one false text ms words rest =
    ap (λ (vs : List (List ℕ)). filter (stays (with_name text (undefined_in ms))) words ++ reverse vs) (append-nil (kept_in ms))
    ∙ ap (λ (vs : List (List ℕ)). vs ++ reverse (kept_in ms))
    (filter_both (is_other text) (stays (undefined_in ms)) (stays (with_name text (undefined_in ms))) (stays_with text (undefined_in ms)) words)
    ∙ rest (filter (is_other text) words)
left_one true text ms words rest =
    let p = stays (undefined_in ms) in
    ap (λ (vs : List (List ℕ)). filter p words ++ vs) (reverse-append (kept_in ms) (filter p (text ∷ [])))
    ∙ ap (λ (vs : List (List ℕ)). filter p words ++ (vs ++ reverse (kept_in ms))) (reverse_one p text)
    ∙ sym (append_assoc (filter p words) (filter p (text ∷ [])) (reverse (kept_in ms)))
    ∙ ap (λ (vs : List (List ℕ)). vs ++ reverse (kept_in ms)) (sym (filter-append p words (text ∷ [])))
    ∙ rest (words ++ text ∷ [])

-- that is what is left of them one after the other
pub left_all : (ms : List MacroWord) (words : List (List ℕ)) → left_of words (map macro_of ms) ≡ with_macros words (map macro_of ms)
left_all [] words = append-nil (filter (stays []) words) ∙ filter_all words
left_all (m ∷ ms) words = left_one m.defines m.text.items (map macro_of ms) words (left_all ms)

---- words that are the same

and_false : (b : Bool) → (b && false) ≡ false
and_false true = refl
and_false false = refl

-- lists of other lengths are not the same
pub other_lengths : {X : Type 0} (f : X → Kind × List ℕ) (xs ys : List X) → length xs ≢ length ys → are_same (map f xs) (map f ys) ≡ false
other_lengths f [] [] differ = absurd (differ refl)
other_lengths f [] (y ∷ ys) differ = refl
other_lengths f (x ∷ xs) [] differ = refl
other_lengths f (x ∷ xs) (y ∷ ys) differ =
    ap (λ (b : Bool). is_same (f x) (f y) && b) (other_lengths f xs ys (λ e. differ (ap suc e))) ∙ and_false (is_same (f x) (f y))
