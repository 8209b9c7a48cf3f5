-- Paths of which each file is there once: a path more at a time, and those of a word more.
use Rattle.std.proofs.Common.{◌≡◌, ℕ, ◌+◌, ◌<◌, Bool, true, List, [], ◌∷◌, ◌++◌, Some, None, Ok, Err, length, take, get_or, map, set, refl, sym, ap, ◌∙◌, subst, arith, add-one}
use Rattle.std.specs.List.{fold}
use Rattle.std.proofs.Math.Seq.{take-suc}
use Rattle.std.proofs.lemmas.List.{append-nil, get_or-map, length-map}
use Rattle.std.proofs.lemmas.List.Elements.{filter_map-append}
use Rattle.std.proofs.lemmas.List.Sums.{fold-append, fold_push}
use Rattle.inc_lookup.specs.Projects.{Layout, found_as}
use Rattle.inc_graph.specs.FileSets.{AreFlags}
use Rattle.inc_inputs.specs.Ends.{Paths, before, named_files, once, with_new}
use Rattle.inc_inputs.proofs.EndLemmas.{flag_more, names_none, names_one}

pub before_none : (r : Paths) → before [] r ≡ r
before_none (Ok ps) = refl
before_none (Err r) = refl

-- the paths of a word more
pub once_more : (layout : Layout) (done more old new : List (List ℕ)) → old ≡ once layout done → new ≡ fold (with_new layout) old more → new ≡ once layout (done ++ more)
once_more layout done more old new so_far is =
    is ∙ ap (λ (ps : List (List ℕ)). fold (with_new layout) ps more) so_far ∙ sym (fold-append (with_new layout) [] done more)

-- one path more
pub fold_next : {X : Type 0} (f : X → List ℕ) (layout : Layout) (xs : List X) (i : ℕ) (d : X) → i < length xs → (first old new : List (List ℕ))
    → old ≡ fold (with_new layout) first (take i (map f xs)) → new ≡ with_new layout old (f (get_or xs i d)) → new ≡ fold (with_new layout) first (take (i + 1) (map f xs))
fold_next f layout xs i d low first old new so_far is =
    let within : i < length (map f xs) = omega (arith, low, length-map xs f) in
    is
    ∙ ap (λ (qs : List (List ℕ)). with_new layout qs (f (get_or xs i d))) so_far
    ∙ ap (λ (q : List ℕ). with_new layout (fold (with_new layout) first (take i (map f xs))) q) (sym (get_or-map f xs i d [] low))
    ∙ sym (fold_push (with_new layout) first (take i (map f xs)) (get_or (map f xs) i []))
    ∙ ap (fold (with_new layout) first) (sym (ap (λ (n : ℕ). take n (map f xs)) (add-one i) ∙ take-suc (map f xs) i [] within))

---- flags of the files of paths and one behind them

module _ (layout : Layout) (paths : List (List ℕ)) (path : List ℕ) (flags : List Bool) (are : AreFlags (named_files layout paths) flags) where
  with_named : (files : List ℕ) → named_files layout (path ∷ []) ≡ files → named_files layout (paths ++ path ∷ []) ≡ named_files layout paths ++ files
  with_named files is = filter_map-append (found_as layout.paths) paths (path ∷ []) ∙ ap (λ (fs : List ℕ). named_files layout paths ++ fs) is

  pub flags_file : (f : ℕ) → found_as layout.paths path ≡ Some f → f < length flags → AreFlags (named_files layout (paths ++ path ∷ [])) (set flags f true)
  flags_file f is within =
      subst (λ (fs : List ℕ). AreFlags fs (set flags f true)) (sym (with_named (f ∷ []) (names_one layout path f is))) (flag_more (named_files layout paths) f flags within are)

  pub flags_same : found_as layout.paths path ≡ None → AreFlags (named_files layout (paths ++ path ∷ [])) flags
  flags_same none =
      subst (λ (fs : List ℕ). AreFlags fs flags) (sym (with_named [] (names_none layout path none) ∙ append-nil (named_files layout paths))) are
