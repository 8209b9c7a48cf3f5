-- Names that a build cannot leave undefined, one more at a time.
use Rattle.std.proofs.Common.{◌≡◌, ℕ, ◌+◌, ◌<◌, List, [], ◌∷◌, Option, Some, None, length, drop, get_or, map, refl, sym, ap, ◌∙◌, arith}
use Rattle.std.proofs.lemmas.List.{drop_more, get_or-map, length-map}
use Rattle.inc_text.specs.declared.languages.Language.{Language}
use Rattle.inc_globs.specs.Globs.{Piece, pieces}
use Rattle.inc_inputs.specs.GlobWords.{globs_report}
use Rattle.inc_inputs.specs.Reports.{Report, bad_glob}
use Rattle.inc_inputs.specs.UndefinedNames.{name_report, names_report}

module _ {X : Type 0} (f : X → List ℕ) (language : Language) (xs : List X) where
  -- what is reported of the names from one on
  abbrev pub names_left : ℕ → Option Report
  names_left i = names_report language (drop i (map f xs))

  module _ (i : ℕ) (d : X) (low : i < length xs) where
    next : names_left i ≡ elim (name_report language (f (get_or xs i d))) [ Some r ↦ Some r | None ↦ names_left (i + 1) ]
    next =
        ap (names_report language) (drop_more (map f xs) i [] (omega (arith, low, length-map xs f)))
        ∙ ap (λ (w : List ℕ). elim (name_report language w) as (λ _. Option Report) [ Some r ↦ Some r | None ↦ names_left (i + 1) ]) (get_or-map f xs i d [] low)

    pub name_passed : (all : Option Report) → name_report language (f (get_or xs i d)) ≡ None → names_left i ≡ all → names_left (i + 1) ≡ all
    name_passed all is so_far = ap (λ (o : Option Report). elim o as (λ _. Option Report) [ Some r ↦ Some r | None ↦ names_left (i + 1) ]) (sym is) ∙ sym next ∙ so_far

    pub name_found : (all : Option Report) (r : Report) → name_report language (f (get_or xs i d)) ≡ Some r → names_left i ≡ all → all ≡ Some r
    name_found all r is so_far = sym so_far ∙ next ∙ ap (λ (o : Option Report). elim o as (λ _. Option Report) [ Some q ↦ Some q | None ↦ names_left (i + 1) ]) is

  pub names_end : (i : ℕ) (all : Option Report) → i ≡ length xs → names_left i ≡ all → all ≡ None
  names_end i all end so_far =
      sym so_far ∙ ap (λ (ws : List (List ℕ)). names_report language ws) (ap (λ (k : ℕ). drop k (map f xs)) (end ∙ sym (length-map xs f)) ∙ none_left (map f xs))
    where
      none_left : (ws : List (List ℕ)) → drop (length ws) ws ≡ []
      none_left [] = refl
      none_left (w ∷ ws) = none_left ws

---- words that are globs

module _ {X : Type 0} (option : List ℕ) (f : X → List ℕ) (xs : List X) where
  -- what is reported of the words from one on
  abbrev pub globs_left : ℕ → Option Report
  globs_left i = globs_report option (drop i (map f xs))

  module _ (i : ℕ) (d : X) (low : i < length xs) where
    next_word : globs_left i ≡ elim (pieces (f (get_or xs i d))) [ Some ps ↦ globs_left (i + 1) | None ↦ Some (bad_glob option (f (get_or xs i d))) ]
    next_word =
        ap (globs_report option) (drop_more (map f xs) i [] (omega (arith, low, length-map xs f)))
        ∙ ap (λ (w : List ℕ). elim (pieces w) as (λ _. Option Report) [ Some ps ↦ globs_left (i + 1) | None ↦ Some (bad_glob option w) ]) (get_or-map f xs i d [] low)

    pub word_passed : (ps : List Piece) (all : Option Report) → pieces (f (get_or xs i d)) ≡ Some ps → globs_left i ≡ all → globs_left (i + 1) ≡ all
    word_passed ps all is so_far =
        ap (λ (o : Option (List Piece)). elim o as (λ _. Option Report) [ Some qs ↦ globs_left (i + 1) | None ↦ Some (bad_glob option (f (get_or xs i d))) ]) (sym is)
        ∙ sym next_word ∙ so_far

    pub word_found : (all : Option Report) → pieces (f (get_or xs i d)) ≡ None → globs_left i ≡ all → all ≡ Some (bad_glob option (f (get_or xs i d)))
    word_found all is so_far =
        sym so_far ∙ next_word
        ∙ ap (λ (o : Option (List Piece)). elim o as (λ _. Option Report) [ Some qs ↦ globs_left (i + 1) | None ↦ Some (bad_glob option (f (get_or xs i d))) ]) is
