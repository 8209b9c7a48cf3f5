-- Words as the lines of a text.
use Rattle.std.proofs.Common.{◌≡◌, ◌∙◌, ℕ, ◌+◌, ◌<◌, ◌≤◌, List, [], ◌∷◌, ◌++◌, add-one, ap, ap₂, append_assoc, drop, get_or, length, map, sym}
use Rattle.std.proofs.Math.Seq.{drop-cons}
use Rattle.std.proofs.lemmas.List.{append-nil, drop_all}
use Rattle.inc_inputs.specs.RuleLists.{lines_of_words}

module _ {X : Type 0} (f : X → List ℕ) (all text : List ℕ) (xs : List X) (i : ℕ) where
  -- a line more
  pub lines_step : (now : List ℕ) (x : X) → i < length xs → x ≡ get_or xs i x → now ≡ text ++ (f x ++ 10 ∷ [])
      → all ≡ text ++ lines_of_words (map f (drop i xs)) → all ≡ now ++ lines_of_words (map f (drop (i + 1) xs))
  lines_step now x low is put before =
      let parts : drop i xs ≡ x ∷ drop (i + 1) xs =
      drop-cons xs i x low ∙ ap₂ (λ (y : X) (ys : List X). y ∷ ys) (sym is) (ap (λ (n : ℕ). drop n xs) (sym (add-one i))) in
      let rest : List ℕ = lines_of_words (map f (drop (i + 1) xs)) in
      before ∙ ap (λ (ys : List X). text ++ lines_of_words (map f ys)) parts ∙ sym (append_assoc text (f x ++ 10 ∷ []) rest)
      ∙ ap (λ (t : List ℕ). t ++ rest) (sym put)

  -- none left
  pub lines_end : length xs ≤ i → all ≡ text ++ lines_of_words (map f (drop i xs)) → text ≡ all
  lines_end high before = sym (before ∙ ap (λ (ys : List X). text ++ lines_of_words (map f ys)) (drop_all i xs high) ∙ append-nil text)
