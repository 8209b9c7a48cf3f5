-- The document of trees, piece by piece.
use Rattle.std.proofs.Common.{◌≡◌, ◌∙◌, ℕ, ◌+◌, ◌<◌, List, [], ◌∷◌, ◌++◌, ap, get_or, length, map, sym, take}
use Rattle.std.proofs.lemmas.List.{append_assoc, map_more}

-- one block more
pub block_added : {X A : Type 0} (f : X → A) (xs : List X) (i : ℕ) (x : X) (start old new : List A) → i < length xs → x ≡ get_or xs i x → new ≡ old ++ f x ∷ []
    → old ≡ start ++ map f (take i xs) → new ≡ start ++ map f (take (i + 1) xs)
block_added f xs i x start old new low at added so_far =
    added ∙ ap (λ l. l ++ f x ∷ []) so_far ∙ append_assoc start (map f (take i xs)) (f x ∷ [])
    ∙ ap (λ l. start ++ l) (ap (λ y. map f (take i xs) ++ f y ∷ []) at ∙ sym (map_more f xs i x low))

-- two pieces behind a line
pub two : {A : Type 0} (start first second last : List A) (x : A) (a b : List A) → start ≡ [] → first ≡ start ++ x ∷ [] → second ≡ first ++ a → last ≡ second ++ b → last ≡ x ∷ (a ++ b)
two start first second last x a b none one more end = end ∙ ap (λ l. l ++ b) (more ∙ ap (λ l. l ++ a) (one ∙ ap (λ l. l ++ x ∷ []) none))
