-- Absolute paths in normal form.
use Rattle.std.specs.Prelude.{ℕ, ◌==◌, ◌||◌, Bool, false, List, [], ◌∷◌, ◌++◌, if◌then◌else◌, codes}
use Rattle.std.specs.Str.{bytes_eq}
use Rattle.std.specs.List.{slice_split}
use Rattle.inc_text.specs.Ascii.{slash}

-- the parts of a path between its /, empty ones too
abbrev pub components : List ℕ → List (List ℕ)
components path = slice_split (λ b. b == slash) path

-- a list without its last member, if it has one
abbrev pub without_last : List (List ℕ) → List (List ℕ)
without_last [] = []
without_last (x ∷ []) = []
without_last (x ∷ y ∷ xs) = x ∷ without_last (y ∷ xs)

-- the path so far and one more component: an empty one and . are dropped, .. drops the one before it; the root stays what it is
abbrev pub with_component : List (List ℕ) → List ℕ → List (List ℕ)
with_component done c =
    if bytes_eq c [] || bytes_eq c (codes ".") then done else
    if bytes_eq c (codes "..") then without_last done else done ++ c ∷ []

-- the path so far and more components, from left to right
abbrev pub with_components : List (List ℕ) → List (List ℕ) → List (List ℕ)
with_components done [] = done
with_components done (c ∷ cs) = with_components (with_component done c) cs

-- each component after a /
abbrev pub joined : List (List ℕ) → List ℕ
joined [] = []
joined (c ∷ cs) = slash ∷ c ++ joined cs

abbrev pub or_root : List ℕ → List ℕ
or_root [] = codes "/"
or_root (b ∷ bs) = b ∷ bs

abbrev pub is_absolute : List ℕ → Bool
is_absolute [] = false
is_absolute (b ∷ bs) = b == slash

-- where a path begins that is looked up from a directory: at the root if it is absolute
abbrev pub begun : (directory path : List ℕ) → List (List ℕ)
begun directory path = if is_absolute path then [] else with_components [] (components directory)

-- the normal form of a path that is looked up from a directory; that directory is looked up from the root
abbrev pub path_from : (directory path : List ℕ) → List ℕ
path_from directory path = or_root (joined (with_components (begun directory path) (components path)))
