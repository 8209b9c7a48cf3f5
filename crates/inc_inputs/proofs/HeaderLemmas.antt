-- Words that name headers: where there is no file, and one word more at a time.
use Rattle.std.proofs.Common.{◌≡◌, ◌∙◌, ℕ, ◌+◌, ◌<◌, Bool, true, false, List, [], ◌∷◌, ◌++◌, Option, Some, None, length, take, get_or, map, refl, sym, ap, arith, add-one, is_some, lt-ltb, true≢false}
use Rattle.std.specs.Prelude.{flat_map, nat_lt, if◌then◌else◌, option_and_then, option_map}
use Rattle.std.proofs.Math.Seq.{take-suc}
use Rattle.std.proofs.lemmas.List.{append-nil, append_assoc, get_or-map, length-map}
use Rattle.std.proofs.lemmas.Grind.{flat_map-append}
use Rattle.inc_lookup.specs.Paths.{normal_form}
use Rattle.inc_lookup.specs.Projects.{Layout, Spot, candidates, found_among, found_as, found_at, first_some, place_of}
use Rattle.inc_lookup.specs.declared.projects.Form.TheVariants.{Angled}
use Rattle.inc_inputs.specs.HeaderNames.{included, word_notes}

---- a project without files

found_nowhere : (path : List ℕ) → found_as [] path ≡ None
found_nowhere path = go (normal_form path)
  where
    go : (o : Option (List ℕ)) → option_and_then (λ p. place_of p []) o ≡ None
    go None = refl
    go (Some p) = refl

none_among : (spots : List Spot) → found_among [] spots ≡ None
none_among [] = refl
none_among (s ∷ ss) =
    ap (λ o. first_some (option_map (λ file. record { file = file; next = s.next }) o ∷ map (found_at []) ss)) (found_nowhere s.path) ∙ none_among ss

found_without : (paths : List (List ℕ)) (spots : List Spot) → nat_lt 0 (length paths) ≡ false
    → ◌≡◌ {A = Option ℕ} None (option_map (λ f. f.file) (found_among paths spots))
found_without [] spots e = sym (ap (option_map (λ f. f.file)) (none_among spots))
found_without (p ∷ ps) spots e = absurd (true≢false (sym (lt-ltb 0 (length (p ∷ ps)) (omega arith)) ∙ e))

not_there : (b : Bool) (o : Option ℕ) → o ≡ (if b then Some 0 else None) → o ≡ None → b ≡ false
not_there true o e n = absurd (true≢false (sym (ap is_some e) ∙ ap is_some n))
not_there false o e n = refl

pub included_nowhere : (layout : Layout) (name : List ℕ) → ◌≡◌ {A = Option ℕ} None (if nat_lt 0 (length layout.paths) then Some 0 else None)
    → ◌≡◌ {A = Option ℕ} None (included layout name)
included_nowhere layout name e =
    found_without layout.paths (candidates layout.search [] Angled None name) (not_there (nat_lt 0 (length layout.paths)) None e refl)

---- notes

module _ {X : Type 0} (f : X → List ℕ) (layout : Layout) (xs : List X) where
  abbrev pub NotesOf : (start notes : List ℕ) → (i : ℕ) → Type 0
  NotesOf start notes i = notes ≡ start ++ flat_map (word_notes layout) (take i (map f xs))

  pub notes_next : (i : ℕ) (d : X) → i < length xs → (start old new : List ℕ) → NotesOf start old i
      → new ≡ old ++ word_notes layout (f (get_or xs i d)) → NotesOf start new (i + 1)
  notes_next i d low start old new so_far is =
      let short : i < length (map f xs) = omega (arith, low, length-map xs f) in
      let here = get_or-map f xs i d [] low in
      let one : flat_map (word_notes layout) (take (i + 1) (map f xs))
      ≡ flat_map (word_notes layout) (take i (map f xs)) ++ word_notes layout (f (get_or xs i d)) =
      ap (λ (n : ℕ). flat_map (word_notes layout) (take n (map f xs))) (add-one i)
      ∙ ap (flat_map (word_notes layout)) (take-suc (map f xs) i [] short)
      ∙ flat_map-append (word_notes layout) (take i (map f xs)) (get_or (map f xs) i [] ∷ [])
      ∙ ap (λ (ns : List ℕ). flat_map (word_notes layout) (take i (map f xs)) ++ ns) (append-nil (word_notes layout (get_or (map f xs) i [])))
      ∙ ap (λ (w : List ℕ). flat_map (word_notes layout) (take i (map f xs)) ++ word_notes layout w) here in
      is ∙ ap (λ (ns : List ℕ). ns ++ word_notes layout (f (get_or xs i d))) so_far
      ∙ append_assoc start (flat_map (word_notes layout) (take i (map f xs))) (word_notes layout (f (get_or xs i d)))
      ∙ ap (λ (ns : List ℕ). start ++ ns) (sym one)
