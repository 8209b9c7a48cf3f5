-- The paths of a build, which are absolute, as the project has them.
use Rattle.std.specs.Prelude.{ℕ, ◌||◌, Bool, true, false, List, [], ◌∷◌, Option, if◌then◌else◌, bytes_eq, codes, is_some, option_and_then, unwrap_or}
use Rattle.std.specs.List.{join_with_byte}
use Rattle.inc_build.specs.CompilerWords.{after}
use Rattle.inc_build.specs.Paths.{components, or_root, path_from}
use Rattle.inc_text.specs.Ascii.{slash}

-- what follows a folder in the path of a file that is below it; both are absolute and in normal form
abbrev pub below : (folder path : List ℕ) → Option (List ℕ)
below folder path =
    if bytes_eq folder (codes "/") then after (codes "/") path else option_and_then (after (codes "/")) (after folder path)

abbrev pub is_within : (folder path : List ℕ) → Bool
is_within folder path = bytes_eq folder path || is_some (below folder path)

-- the folder that a file is in
abbrev pub folder_of : (path : List ℕ) → List ℕ
folder_of path = path_from path (codes "..")

---- the deepest common folder

abbrev pub common_components : List (List ℕ) → List (List ℕ) → List (List ℕ)
common_components (x ∷ xs) (y ∷ ys) = if bytes_eq x y then x ∷ common_components xs ys else []
common_components _ _ = []

abbrev pub common : (a b : List ℕ) → List ℕ
common a b = or_root (join_with_byte slash (common_components (components a) (components b)))

-- of a folder and more of them
abbrev pub common_of : (folder : List ℕ) → List (List ℕ) → List ℕ
common_of folder [] = folder
common_of folder (f ∷ fs) = common_of (common folder f) fs

---- how a project has them

-- absolute, or relative to the folder of the run where they are below it. Which of the two is the same for all paths of a
-- project, so that no .. of an include leads from one sort of paths to the other
abbrev pub form_of : (here : List ℕ) → (is_relative : Bool) → (path : List ℕ) → List ℕ
form_of here false path = path
form_of here true path = if bytes_eq path here then codes "." else unwrap_or (below here path) path

-- of a word, which is looked up from the folder of the run
abbrev pub form : (here : List ℕ) → (is_relative : Bool) → (word : List ℕ) → List ℕ
form here is_relative word = form_of here is_relative (path_from here word)
