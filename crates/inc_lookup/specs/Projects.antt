-- The files and directories of a project, and header search (the places that ISO/IEC 9899:2018, 6.10.2, leaves to the
-- implementation; all of it is chosen here).
use Rattle.std.specs.Prelude.{ℕ, ◌+◌, ◌==◌, ◌||◌, not, Bool, true, List, [], ◌∷◌, ◌++◌, Option, Some, None, Result, Ok, Err, if◌then◌else◌, length, map, take, drop, fold, position, slice_get, filter_map, nat_lt, is_none, option_map, option_and_then, unwrap_or, ◌&&◌, codes, bytes_eq}
use Rattle.std.specs.List.{list_any, join_with_byte}
use Rattle.std.specs.Option.{option_map_or}
use Rattle.inc_lookup.specs.declared.listings.TheConstants.{LONGEST_PATH}
use Rattle.inc_lookup.specs.declared.projects.TheConstants.{MOST_FILES}
use Rattle.inc_text.specs.Ascii.{nul, line_feed, slash}
use Rattle.inc_lookup.specs.declared.projects.Found.{Found}
use Rattle.inc_lookup.specs.declared.projects.Form.{Form}
use Rattle.inc_lookup.specs.declared.projects.Form.TheVariants.{Quoted, Angled}
use Rattle.inc_lookup.specs.declared.projects.ProjectFault.{ProjectFault}
use Rattle.inc_lookup.specs.declared.projects.ProjectFault.TheVariants.{TooManyFiles, BadPath, SamePath}
use Rattle.inc_lookup.specs.Paths.{components, without_last, is_absolute, normal_form}

-- a file by its path and its bytes
pub record File : Type 0 where
  pub path : List ℕ
  pub bytes : List ℕ

-- an include path: its directories, in the order in which they are searched. A name between < and > is not searched in the first so many,
-- which are for names between " alone
pub record SearchPath : Type 0 where
  pub dirs : List (List ℕ)
  pub quoted : ℕ

-- the files and the include path, with paths in normal form
pub record Listing : Type 0 where
  pub files : List File
  pub search : SearchPath

-- the paths of the files and the include path, in normal form: what a project keeps of a listing
pub record Layout : Type 0 where
  pub paths : List (List ℕ)
  pub search : SearchPath

-- the directory of a file with a path in normal form: what is before the last /, and / itself for a file such as /a.c
abbrev pub directory_of : List ℕ → List ℕ
directory_of path =
    let front = join_with_byte slash (unwrap_or (without_last (components path)) []) in
    if is_absolute path && bytes_eq front [] then codes "/" else front

-- a name in a directory: the name alone where the directory's path is empty
abbrev pub joined_path : List ℕ → List ℕ → List ℕ
joined_path [] name = name
joined_path (b ∷ bs) name = (b ∷ bs) ++ codes "/" ++ name

-- a directory to look in, or a path to look for, and where an #include_next goes on in a file that is found so: at this directory of the
-- include path, or nowhere else than an #include
pub record Spot : Type 0 where
  pub path : List ℕ
  pub next : Option ℕ

-- the directories of the include path, of which the first is at this place
abbrev pub path_from : ℕ → List (List ℕ) → List Spot
path_from at [] = []
path_from at (dir ∷ dirs) = record { path = dir; next = Some (at + 1) } ∷ path_from (at + 1) dirs

-- the directories to look in, for a directive in the file at the path `from`; of an #include_next those from `after` on, whatever its form
abbrev pub places : SearchPath → List ℕ → Form → (after : Option ℕ) → List Spot
places search from form (Some k) = path_from k (drop k search.dirs)
places search from Quoted None = record { path = directory_of from; next = Some 0 } ∷ path_from 0 search.dirs
places search from Angled None = path_from search.quoted (drop search.quoted search.dirs)

-- a name in a directory to look in
abbrev pub spot_of : List ℕ → Spot → Spot
spot_of name s = record { path = joined_path s.path name; next = s.next }

-- the paths to look for, in order
abbrev pub candidates : SearchPath → List ℕ → Form → (after : Option ℕ) → List ℕ → List Spot
candidates search from form after name =
    if is_absolute name then record { path = name; next = None } ∷ [] else map (spot_of name) (places search from form after)

-- the first place of a path in a list of paths
abbrev pub place_of : List ℕ → List (List ℕ) → Option ℕ
place_of path paths = position (bytes_eq path) paths

-- the first of several answers that is there
abbrev pub first_some : {A : Type 0} → List (Option A) → Option A
first_some [] = None
first_some (None ∷ rest) = first_some rest
first_some (Some x ∷ rest) = Some x

-- the place in the list of the normal form of a candidate
abbrev pub found_as : List (List ℕ) → List ℕ → Option ℕ
found_as paths candidate = option_and_then (λ path. place_of path paths) (normal_form candidate)

abbrev pub found_at : List (List ℕ) → Spot → Option Found
found_at paths s = option_map (λ file. record { file = file; next = s.next }) (found_as paths s.path)

-- the first candidate whose normal form is there
abbrev pub found_among : List (List ℕ) → List Spot → Option Found
found_among paths tried = first_some (map (found_at paths) tried)

abbrev pub paths_of : List File → List (List ℕ)
paths_of files = map (λ (f : File). f.path) files

abbrev pub layout_of : Listing → Layout
layout_of listing = record { paths = paths_of listing.files; search = listing.search }

-- the path and the bytes of the file at a place
abbrev pub path_at : Layout → ℕ → List ℕ
path_at layout i = unwrap_or (slice_get layout.paths i) []

abbrev pub bytes_at : Listing → ℕ → List ℕ
bytes_at listing i = option_map_or (λ (f : File). f.bytes) (slice_get listing.files i) []

-- the file that a directive names, and where an #include_next in that file goes on; `after`: where an #include_next itself does
abbrev pub found_place : Layout → List ℕ → Form → (after : Option ℕ) → List ℕ → Option Found
found_place layout from form after name = found_among layout.paths (candidates layout.search from form after name)

-- the file that an include directive names, by its place in the list
abbrev pub found_file : Layout → List ℕ → Form → List ℕ → Option ℕ
found_file layout from form name = option_map (λ (f : Found). f.file) (found_place layout from form None name)

-- NUL or LF inside, too long, or climbing: no path of a file or directory
abbrev pub is_bad_path : List ℕ → Bool
is_bad_path path = list_any (λ b. (b == nul) || (b == line_feed)) path || nat_lt LONGEST_PATH (length path) || is_none (normal_form path)

-- a path that can be alone on a line of a text
abbrev pub is_clean_path : List ℕ → Bool
is_clean_path path = nat_lt 0 (length path) && not (list_any (λ b. b == line_feed) path)

-- a file has a normal form that is neither empty nor /
abbrev pub is_no_file : Option (List ℕ) → Bool
is_no_file None = true
is_no_file (Some path) = bytes_eq path [] || bytes_eq path (codes "/")

abbrev pub is_bad_file_path : List ℕ → Bool
is_bad_file_path path = is_bad_path path || is_no_file (normal_form path)

-- files first, then directories
abbrev pub bad_path : (paths dirs : List (List ℕ)) → Option ℕ
bad_path paths dirs = position (λ bad. bad) (map is_bad_file_path paths ++ map is_bad_path dirs)

-- the first path that is in the list before, with the first place where it is; `done` are the paths before
abbrev pub same_path_from : List (List ℕ) → List (List ℕ) → Option (ℕ × ℕ)
same_path_from done [] = None
same_path_from done (p ∷ ps) =
    option_map_or (λ first. Some (first, length done)) (place_of p done) (same_path_from (done ++ p ∷ []) ps)

-- the normal forms of paths that have one
abbrev pub normal_forms : List (List ℕ) → List (List ℕ)
normal_forms paths = filter_map normal_form paths

-- paths and one more, unless it is among them
abbrev pub with_path : List (List ℕ) → List ℕ → List (List ℕ)
with_path paths path = if list_any (bytes_eq path) paths then paths else paths ++ path ∷ []

-- each of these paths once, where it comes first
abbrev pub each_once : List (List ℕ) → List (List ℕ)
each_once paths = fold with_path [] paths

abbrev pub same_path : List (List ℕ) → Option (ℕ × ℕ)
same_path paths = same_path_from [] (normal_forms paths)

-- the first fault in order
abbrev pub project_fault : (paths dirs : List (List ℕ)) → Option ProjectFault
project_fault paths dirs =
    first_some (
    (if nat_lt MOST_FILES (length paths) then Some TooManyFiles else None)
    ∷ option_map BadPath (bad_path paths dirs)
    ∷ option_map (λ (p : ℕ × ℕ). SamePath p.0 p.1) (same_path paths)
    ∷ [])

-- the include path of these directories, of which the first so many are for names between " alone: each is once among those, and once among
-- the others
abbrev pub search_of : (quoted : ℕ) → (dirs : List (List ℕ)) → SearchPath
search_of quoted dirs = record {
  dirs = each_once (take quoted dirs) ++ each_once (drop quoted dirs);
  quoted = length (each_once (take quoted dirs));
}

-- the project of files with these paths, and of these directories
abbrev pub project_of : (paths : List (List ℕ)) → (quoted : ℕ) → (dirs : List (List ℕ)) → Result Layout ProjectFault
project_of paths quoted dirs =
    option_map_or Err (project_fault paths dirs) (Ok (record { paths = normal_forms paths; search = search_of quoted (normal_forms dirs) }))
