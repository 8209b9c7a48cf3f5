-- How a project keeps its files and directories.
use Rattle.std.specs.Prelude.{◌≡◌, ℕ, ◌≤◌, Bool, true, false, List, [], Option, Some, None, length, map, position, IsTrue, if◌then◌else◌}
use Rattle.std.specs.List.{All}
use Rattle.inc_lookup.specs.declared.listings.TheConstants.{LONGEST_PATH}
use Rattle.inc_lookup.specs.Paths.{is_absolute, normal_form}
use Rattle.inc_lookup.specs.Projects.{is_clean_path, is_bad_file_path, same_path_from}
use Rattle.inc_lookup.specs.declared.projects.TheConstants.{MOST_FILES}

-- a path in normal form
abbrev pub IsNormal : List ℕ → Type 0
IsNormal path = normal_form path ≡ Some path

-- few files, no path of more than so many bytes, every path in normal form, no two paths of files equal, and each of them able to
-- are on a line
pub record IsKept (longest : ℕ) (paths dirs : List (List ℕ)) : Type 0 where
  -- so that a file has a number of 16 bits
  pub few : length paths ≤ MOST_FILES
  -- no path is longer than the longest, and none than a path that is handed in may be
  pub short : All (λ (path : List ℕ). length path ≤ longest) paths
  pub paths_short : All (λ (path : List ℕ). length path ≤ LONGEST_PATH) paths
  -- paths and directories are in normal form
  pub paths_normal : All IsNormal paths
  pub dirs_normal : All IsNormal dirs
  -- no path comes twice
  pub once : same_path_from [] paths ≡ None
  -- each path of a file is one line, and not empty
  pub paths_clean : All (λ (path : List ℕ). IsTrue (is_clean_path path)) paths

-- the length of the leading / of a path
abbrev pub root_len : List ℕ → ℕ
root_len path = if is_absolute path then 1 else 0

-- the normal form of a path, or nothing where the path is bad
abbrev pub IsGoodForm : Bool → Option (List ℕ) → Option (List ℕ) → Type 0
IsGoodForm bad form None = bad ≡ true
IsGoodForm bad form (Some path) = (bad ≡ false) × (form ≡ Some path) × IsNormal path

-- no path is bad, and these are their normal forms
pub record AreNormalForms (is_bad : List ℕ → Bool) (paths forms : List (List ℕ)) : Type 0 where
  pub good : position is_bad paths ≡ None
  pub are : map normal_form paths ≡ map (λ f. Some f) forms
  pub normal : All IsNormal forms

-- the keys of a table are these paths, of which no two are equal; else the first two that are
abbrev pub IsTabled : (forms keys : List (List ℕ)) → (same : Option (ℕ × ℕ)) → Type 0
IsTabled forms keys None = (keys ≡ forms) × (same_path_from [] forms ≡ None)
IsTabled forms keys (Some p) = same_path_from [] forms ≡ Some p

-- none of the paths of files is bad, and a table has their normal forms
pub record AreTabled (paths keys : List (List ℕ)) (same : Option (ℕ × ℕ)) : Type 0 where
  pub forms : List (List ℕ)
  pub good : AreNormalForms is_bad_file_path paths forms
  pub tabled : IsTabled forms keys same
