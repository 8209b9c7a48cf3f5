-- The document of rules, piece by piece.
use Rattle.std.proofs.Common.{◌≡◌, ◌∙◌, ℕ, ◌+◌, ◌<◌, List, [], ◌∷◌, ◌++◌, Result, Ok, Err, OnOk, ap, get_or, length, map, sym, take}
use Rattle.std.specs.Prelude.{flat_map}
use Rattle.std.proofs.lemmas.Grind.{flat_map-append}
use Rattle.std.proofs.lemmas.List.{append-nil, append_assoc, map_more}

module _ {A : Type 0} where
  -- an element, and two lists
  pub added_all : {T E : Type 0} (r : Result T E) (old first second new : List A) (x : A) (xs ys : List A) → first ≡ old ++ x ∷ [] → second ≡ first ++ xs
      → OnOk r (new ≡ second ++ ys) → OnOk r (new ≡ old ++ (x ∷ (xs ++ ys)))
  added_all (Ok t) old first second new x xs ys one two three =
      three ∙ ap (λ l. l ++ ys) (two ∙ ap (λ l. l ++ xs) one) ∙ append_assoc (old ++ x ∷ []) xs ys ∙ append_assoc old (x ∷ []) (xs ++ ys)
  added_all (Err e) old first second new x xs ys one two three = tt

  -- lists from nothing on, an element between them
  pub made_all : (start first second last : List A) (xs : List A) (x : A) (ys : List A) → start ≡ [] → first ≡ start ++ xs → second ≡ first ++ x ∷ [] → last ≡ second ++ ys
      → last ≡ xs ++ (x ∷ ys)
  made_all start first second last xs x ys none one two three =
      three ∙ ap (λ l. l ++ ys) (two ∙ ap (λ l. l ++ x ∷ []) (one ∙ ap (λ l. l ++ xs) none)) ∙ append_assoc xs (x ∷ []) ys

-- what is made of an element is added behind that of those before it
pub flat_added : {X Y A : Type 0} (f : Y → List A) (s : X → Y) (xs : List X) (i : ℕ) (x : X) (start old new : List A) → i < length xs → x ≡ get_or xs i x → new ≡ old ++ f (s x)
    → old ≡ start ++ flat_map f (map s (take i xs)) → new ≡ start ++ flat_map f (map s (take (i + 1) xs))
flat_added f s xs i x start old new low at added so_far =
    let before : List _ = map s (take i xs) in
    let seen : map s (take (i + 1) xs) ≡ before ++ s x ∷ [] = map_more s xs i x low ∙ ap (λ y. before ++ s y ∷ []) (sym at) in
    let more : flat_map f (map s (take (i + 1) xs)) ≡ flat_map f before ++ f (s x) =
    ap (flat_map f) seen ∙ flat_map-append f before (s x ∷ []) ∙ ap (λ l. flat_map f before ++ l) (append-nil (f (s x))) in
    added ∙ ap (λ l. l ++ f (s x)) so_far ∙ append_assoc start (flat_map f before) (f (s x)) ∙ ap (λ l. start ++ l) (sym more)
