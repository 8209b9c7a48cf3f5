-- The folders of files, as the code keeps them.
use Rattle.std.specs.Prelude.{◌≡◌, ℕ, ◌&&◌, ◌||◌, not, Bool, true, List, [], if◌then◌else◌, bytes_eq, codes, is_some, length, nat_le, option_and_then}
use Rattle.std.specs.List.{list_any}
use Rattle.inc_build.specs.CompilerWords.{after}
use Rattle.inc_build.specs.Paths.{is_absolute}
use Rattle.inc_lookup.specs.declared.listings.TheConstants.{LONGEST_PATH}

-- what is before a / in a path
abbrev pub is_front : (front path : List ℕ) → Bool
is_front front path = is_some (option_and_then (after (codes "/")) (after front path))

-- of the paths below a folder
abbrev pub front_of : (folder : List ℕ) → List ℕ
front_of folder = if bytes_eq folder (codes "/") then [] else folder

abbrev pub is_kept : (front path : List ℕ) → Bool
is_kept front path = is_front front path && nat_le (length path) LONGEST_PATH

abbrev pub has_front : (fronts : List (List ℕ)) → (front : List ℕ) → Bool
has_front fronts front = list_any (bytes_eq front) fronts

-- what the code keeps of files
pub record AreFolders (files fronts : List (List ℕ)) (has_relative : Bool) : Type 0 where
  pub fronts_are : (front : List ℕ) → has_front fronts front ≡ list_any (is_kept front) files
  pub relative_is : has_relative ≡ list_any (λ p. not (is_absolute p)) files

-- what is before a / in one of them is one of them
abbrev pub AreClosed : (fronts : List (List ℕ)) → Type 0
AreClosed fronts = (front longer : List ℕ) → has_front fronts longer ≡ true → is_front front longer ≡ true → has_front fronts front ≡ true

-- one list has what another one has and what is before a / in a path
abbrev pub HasAll : (path : List ℕ) → (old new : List (List ℕ)) → Type 0
HasAll path old new = (front : List ℕ) → has_front new front ≡ has_front old front || is_front front path

-- the same, unless the path is too long
abbrev pub HasMore : (path : List ℕ) → (old new : List (List ℕ)) → Type 0
HasMore path old new = (front : List ℕ) → has_front new front ≡ has_front old front || is_kept front path
