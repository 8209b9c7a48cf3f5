-- The search along the include path, directory by directory.
use Rattle.std.proofs.Common.{◌≡◌, ℕ, ◌+◌, ◌<◌, ◌≤◌, List, [], ◌∷◌, Option, Some, None, length, drop, map, get_or, ap, ◌∙◌}
use Rattle.std.proofs.lemmas.List.{drop_all, drop_more}
use Rattle.inc_lookup.specs.Projects.{found_among, found_at, first_some, joined_path, path_from, spot_of}
use Rattle.inc_lookup.specs.PathSearch.{found_in}
use Rattle.inc_lookup.specs.declared.projects.Found.{Found}

-- a name in the directory at a place
abbrev pub found_there : (paths : List (List ℕ)) → List ℕ → (at : ℕ) → List ℕ → Option Found
found_there paths dir at name = found_at paths (record { path = joined_path dir name; next = Some (at + 1) })

here : (paths dirs : List (List ℕ)) (at : ℕ) (name : List ℕ) → at < length dirs
    → found_in paths dirs at name ≡ first_some (found_there paths (get_or dirs at []) at name ∷ map (found_at paths) (map (spot_of name) (path_from (at + 1) (drop (at + 1) dirs))))
here paths dirs at name low =
    ap (λ ds. found_among paths (map (spot_of name) (path_from at ds))) (drop_more dirs at [] low)

-- it is found there
pub found_here : (paths dirs : List (List ℕ)) (dir : List ℕ) (at : ℕ) (name : List ℕ) (f : Found) → at < length dirs
    → get_or dirs at [] ≡ dir
    → found_there paths dir at name ≡ Some f → found_in paths dirs at name ≡ Some f
found_here paths dirs dir at name f low is found =
    here paths dirs at name low
    ∙ ap (λ d. first_some (found_there paths d at name ∷ map (found_at paths) (map (spot_of name) (path_from (at + 1) (drop (at + 1) dirs))))) is
    ∙ ap (λ o. first_some (o ∷ map (found_at paths) (map (spot_of name) (path_from (at + 1) (drop (at + 1) dirs))))) found

-- it is not
pub found_on : (paths dirs : List (List ℕ)) (dir : List ℕ) (at : ℕ) (name : List ℕ) → at < length dirs
    → get_or dirs at [] ≡ dir
    → found_there paths dir at name ≡ None → found_in paths dirs at name ≡ found_in paths dirs (at + 1) name
found_on paths dirs dir at name low is found =
    here paths dirs at name low
    ∙ ap (λ d. first_some (found_there paths d at name ∷ map (found_at paths) (map (spot_of name) (path_from (at + 1) (drop (at + 1) dirs))))) is
    ∙ ap (λ o. first_some (o ∷ map (found_at paths) (map (spot_of name) (path_from (at + 1) (drop (at + 1) dirs))))) found

-- there is no directory any more
pub found_end : (paths dirs : List (List ℕ)) (at : ℕ) (name : List ℕ) → length dirs ≤ at
    → found_in paths dirs at name ≡ None
found_end paths dirs at name end =
    ap (λ ds. found_among paths (map (spot_of name) (path_from at ds))) (drop_all at dirs end)
