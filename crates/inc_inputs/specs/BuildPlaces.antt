-- The include paths of a build beside the project's own, and with which of them its files are read as sources, once the project stands.
use Rattle.std.specs.Prelude.{ℕ, List, [], ◌∷◌, ◌++◌, Option, Some, None, Result, Ok, Err, get_or, length, replicate, slice_set}
use Rattle.inc_lookup.specs.Projects.{Layout, SearchPath, found_as}
use Rattle.inc_inputs.specs.BuildProjects.{BuildSource, Dirs, dir_words}
use Rattle.inc_lookup.specs.IncludePath.{NamedPath}
use Rattle.inc_inputs.specs.IncludePath.{include_path}
use Rattle.inc_inputs.specs.Reports.{Report}
use Rattle.inc_inputs.specs.Texts.{listed_layout}

---- include paths

abbrev pub path_of : Result Layout Report → Result SearchPath Report
path_of (Ok layout) = Ok layout.search
path_of (Err r) = Err r

-- that of a project without files
abbrev pub path_by : NamedPath → Result SearchPath Report
path_by path = path_of (listed_layout [] path)

-- what the project's own would be by the same directories
abbrev pub path_in : Dirs → Result SearchPath Report
path_in d = path_by (include_path (dir_words d) [])

-- one before others
abbrev pub path_before : SearchPath → Result (List SearchPath) Report → Result (List SearchPath) Report
path_before p (Ok ps) = Ok (p ∷ ps)
path_before p (Err r) = Err r

abbrev pub path_and : Result SearchPath Report → Result (List SearchPath) Report → Result (List SearchPath) Report
path_and (Ok p) rest = path_before p rest
path_and (Err r) rest = Err r

-- all of them, or the report of the first that is none
abbrev pub include_paths_of : List Dirs → Result (List SearchPath) Report
include_paths_of [] = Ok []
include_paths_of (d ∷ ds) = path_and (path_in d) (include_paths_of ds)

---- sources

-- the list of a file with more behind
abbrev pub with_more : (lists : List (List ℕ)) → (file : Option ℕ) → (more : List ℕ) → List (List ℕ)
with_more lists None more = lists
with_more lists (Some file) more = slice_set lists file (get_or lists file [] ++ more)

-- with a source of the build, unless it is no file
abbrev pub with_source : Layout → (lists : List (List ℕ)) → BuildSource → List (List ℕ)
with_source layout lists s = with_more lists (found_as layout.paths s.path) s.paths

abbrev pub with_sources : Layout → (lists : List (List ℕ)) → List BuildSource → List (List ℕ)
with_sources layout lists [] = lists
with_sources layout lists (s ∷ ss) = with_sources layout (with_source layout lists s) ss

-- for each file the include paths with which its entries compile it; no list at all where there are no such sources
abbrev pub read_with : Layout → List BuildSource → List (List ℕ)
read_with layout [] = []
read_with layout (s ∷ ss) = with_sources layout (replicate (length layout.paths) []) (s ∷ ss)
