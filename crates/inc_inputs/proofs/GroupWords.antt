-- The groups for which words of --to stand, one more at a time.
use Rattle.std.proofs.Common.{◌≡◌, ℕ, zero, suc, ◌+◌, ◌<◌, List, [], ◌∷◌, ◌++◌, Option, Some, None, Result, Ok, Err, length, take, drop, get_or, map, refl, sym, ap, ◌∙◌, arith}
use Rattle.std.specs.Prelude.{slice_get}
use Rattle.std.specs.List.{cons_option}
use Rattle.std.proofs.lemmas.List.{append_assoc, drop_more, get_or-map, length-map}
use Rattle.inc_lookup.specs.Projects.{Layout, found_as}
use Rattle.inc_cost.specs.Costs.{Group}
use Rattle.inc_inputs.specs.Ends.{group_before, group_of, groups_of, named_files, some_group}
use Rattle.inc_inputs.specs.Reports.{Report}
use Rattle.inc_inputs.proofs.EndLemmas.{named_next, names_none, path_behind}

---- words

-- groups before others
abbrev pub with_groups : List Group → Result (List Group) Report → Result (List Group) Report
with_groups xs (Ok ys) = Ok (xs ++ ys)
with_groups xs (Err r) = Err r

one_before : (xs : List Group) (x : Group) (r : Result (List Group) Report) → with_groups xs (group_before (Ok x) r) ≡ with_groups (xs ++ x ∷ []) r
one_before xs x (Ok ys) = ap (λ (zs : List Group). Ok zs) (sym (append_assoc xs (x ∷ []) ys))
one_before xs x (Err r) = refl

module _ {X : Type 0} (f : X → List ℕ) (layout : Layout) (ws : List X) where
  abbrev pub rest : ℕ → Result (List Group) Report
  rest i = groups_of layout (drop i (map f ws))

  module _ (i : ℕ) (d : X) (low : i < length ws) where
    short : i < length (map f ws)
    short = omega (arith, low, length-map ws f)

    next : rest i ≡ group_before (group_of layout (f (get_or ws i d))) (rest (i + 1))
    next =
        ap (groups_of layout) (drop_more (map f ws) i [] short)
        ∙ ap (λ (w : List ℕ). group_before (group_of layout w) (rest (i + 1))) (get_or-map f ws i d [] low)

    pub group_more : (done : List Group) (x : Group) (all : Result (List Group) Report) → group_of layout (f (get_or ws i d)) ≡ Ok x → with_groups done (rest i) ≡ all
        → with_groups (done ++ x ∷ []) (rest (i + 1)) ≡ all
    group_more done x all is so_far =
        sym (one_before done x (rest (i + 1))) ∙ ap (λ r. with_groups done (group_before r (rest (i + 1)))) (sym is) ∙ ap (with_groups done) (sym next) ∙ so_far

    pub group_fault : (done : List Group) (all : Result (List Group) Report) (r : Report) → group_of layout (f (get_or ws i d)) ≡ Err r → with_groups done (rest i) ≡ all → Err r ≡ all
    group_fault done all r is so_far = ap (λ x. with_groups done (group_before x (rest (i + 1)))) (sym is) ∙ ap (with_groups done) (sym next) ∙ so_far

---- the first file that paths name

pub first_found : (layout : Layout) (ps : List (List ℕ)) (i : ℕ) (d : List ℕ) (file : ℕ) → i < length ps → named_files layout (take i ps) ≡ [] → found_as layout.paths (get_or ps i d) ≡ Some file
    → slice_get (named_files layout ps) 0 ≡ Some file
first_found layout [] i d file low none is = absurd (omega (arith, low))
first_found layout (p ∷ ps) zero d file low none is = ap (λ (o : Option ℕ). slice_get (cons_option o (named_files layout ps)) 0) is
first_found layout (p ∷ ps) (suc i) d file low none is =
    by (found_as layout.paths p) refl (λ rest. first_found layout ps i d file (omega (arith, low)) rest is)
  where
    by : (o : Option ℕ) → found_as layout.paths p ≡ o → (named_files layout (take i ps) ≡ [] → slice_get (named_files layout ps) 0 ≡ Some file) → slice_get (named_files layout (p ∷ ps)) 0 ≡ Some file
    by None at later =
        ap (λ (o : Option ℕ). slice_get (cons_option o (named_files layout ps)) 0) at
        ∙ later (sym (ap (λ (o : Option ℕ). cons_option o (named_files layout (take i ps))) at) ∙ none)
    by (Some g) at later = absurd (some (named_files layout (take i ps)) (sym (ap (λ (o : Option ℕ). cons_option o (named_files layout (take i ps))) at) ∙ none))
      where
        some : (xs : List ℕ) → g ∷ xs ≡ [] → ⊥
        some xs e = cc

pub first_at : {X : Type 0} (f : X → List ℕ) (layout : Layout) (xs : List X) (i : ℕ) (d : X) (file : ℕ) → i < length xs → named_files layout (take i (map f xs)) ≡ []
    → found_as layout.paths (f (get_or xs i d)) ≡ Some file → slice_get (named_files layout (map f xs)) 0 ≡ Some file
first_at f layout xs i d file low none is =
    first_found layout (map f xs) i [] file (omega (arith, low, length-map xs f)) none (ap (found_as layout.paths) (path_behind f xs i d low) ∙ is)

-- none of one path more
pub none_more : {X : Type 0} (f : X → List ℕ) (layout : Layout) (xs : List X) (i : ℕ) (d : X) → i < length xs → named_files layout (take i (map f xs)) ≡ []
    → found_as layout.paths (f (get_or xs i d)) ≡ None → named_files layout (take (i + 1) (map f xs)) ≡ []
none_more f layout xs i d low so_far is =
    named_next layout (map f xs) i [] (omega (arith, low, length-map xs f))
    ∙ ap (λ (fs : List ℕ). fs ++ named_files layout (get_or (map f xs) i [] ∷ [])) so_far
    ∙ ap (λ (p : List ℕ). named_files layout (p ∷ [])) (path_behind f xs i d low)
    ∙ names_none layout (f (get_or xs i d)) is

-- paths the first of whose files is this one
pub group_with : (word : List ℕ) (paths : List (List ℕ)) (files : List ℕ) (file : ℕ) → slice_get files 0 ≡ Some file → some_group word paths files ≡ Ok (record { name = word; paths = paths })
group_with word paths [] file first = cc
group_with word paths (f ∷ fs) file first = refl

pub group_without : (word : List ℕ) (paths : List (List ℕ)) (files : List ℕ) → slice_get files 0 ≡ None → some_group word paths files ≡ some_group word paths []
group_without word paths [] none = refl
group_without word paths (f ∷ fs) none = cc
