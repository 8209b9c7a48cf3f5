-- Normal forms of paths (what ISO/IEC 9899:2018, 6.10.2, leaves to the implementation; all of it is chosen here).
use Rattle.std.specs.Prelude.{ℕ, ◌==◌, ◌||◌, Bool, false, List, [], ◌∷◌, ◌++◌, Option, Some, None, if◌then◌else◌, option_map, option_and_then, codes, bytes_eq}
use Rattle.std.specs.List.{slice_split, join_with_byte}
use Rattle.inc_text.specs.Ascii.{slash}

-- the parts of a path between its /, empty ones too
abbrev pub components : List ℕ → List (List ℕ)
components path = slice_split (λ b. b == slash) path

-- a list without its last member, where it has one
abbrev pub without_last : List (List ℕ) → Option (List (List ℕ))
without_last [] = None
without_last (x ∷ []) = Some []
without_last (x ∷ y ∷ xs) = option_map (λ front. x ∷ front) (without_last (y ∷ xs))

-- the path so far and one more component: an empty one and . are dropped, .. drops the one before it, and climbs where there is none
abbrev pub with_component : List (List ℕ) → List ℕ → Option (List (List ℕ))
with_component done c =
    if bytes_eq c [] || bytes_eq c (codes ".") then Some done else
    if bytes_eq c (codes "..") then without_last done else Some (done ++ c ∷ [])

-- the path so far and more components, from left to right; nothing where the path climbs above its start
abbrev pub with_components : List (List ℕ) → List (List ℕ) → Option (List (List ℕ))
with_components done [] = Some done
with_components done (c ∷ cs) = option_and_then (λ front. with_components front cs) (with_component done c)

-- the components that are left
abbrev pub resolved : List (List ℕ) → Option (List (List ℕ))
resolved parts = with_components [] parts

abbrev pub is_absolute : List ℕ → Bool
is_absolute [] = false
is_absolute (b ∷ bs) = b == slash

-- the normal form of a path: a leading / stays
abbrev pub normal_form : List ℕ → Option (List ℕ)
normal_form path =
    option_map (λ parts. (if is_absolute path then codes "/" else []) ++ join_with_byte slash parts) (resolved (components path))
