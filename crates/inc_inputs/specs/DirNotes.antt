-- Notes of the words for directories below which no file of the project is.
use Rattle.std.specs.Prelude.{ℕ, ◌-◌, not, Bool, false, List, [], ◌∷◌, ◌++◌, Option, Some, None, if◌then◌else◌, codes, flat_map, is_some, length, take}
use Rattle.std.specs.List.{list_any}
use Rattle.inc_build.specs.Paths.{is_absolute}
use Rattle.inc_lookup.specs.Paths.{normal_form}
use Rattle.inc_lookup.specs.Projects.{Layout}
use Rattle.inc_args.specs.Meaning.{FileWords}
use Rattle.inc_inputs.specs.BuildPaths.{below}
use Rattle.inc_inputs.specs.BuildReports.{empty_line, some_lines}
use Rattle.inc_inputs.specs.declared.dir_notes.TheConstants.{MOST_WORDS}

-- a file is below the folder of this normal form; below that of the run, which is empty, each file with a relative path is
abbrev pub lies_in : (folder path : List ℕ) → Bool
lies_in [] path = not (is_absolute path)
lies_in (b ∷ bs) path = is_some (below (b ∷ bs) path)

-- no file is; a word without a normal form names no folder
abbrev pub has_none : (paths : List (List ℕ)) → (folder : Option (List ℕ)) → Bool
has_none paths None = false
has_none paths (Some folder) = not (list_any (lies_in folder) paths)

-- the line of a word of an option
abbrev pub dir_line : (paths : List (List ℕ)) → (option word : List ℕ) → List (List ℕ)
dir_line paths option word = if has_none paths (normal_form word) then empty_line option word ∷ [] else []

-- those of the words of an option, of which so many are looked at
abbrev pub dir_lines : (paths : List (List ℕ)) → (option : List ℕ) → (most : ℕ) → (words : List (List ℕ)) → List (List ℕ)
dir_lines paths option most words = flat_map (dir_line paths option) (take most words)

-- so many are looked at, of all options together
abbrev pub all_dir_lines : (paths : List (List ℕ)) → FileWords → List (List ℕ)
all_dir_lines paths f =
    dir_lines paths (codes "-I") MOST_WORDS f.dirs
    ++ (dir_lines paths (codes "-iquote") (MOST_WORDS - length f.dirs) f.quoted
    ++ (dir_lines paths (codes "-isystem") (MOST_WORDS - length f.dirs - length f.quoted) f.system
    ++ dir_lines paths (codes "-idirafter") (MOST_WORDS - length f.dirs - length f.quoted - length f.system) f.last))

abbrev pub dir_notes : Layout → FileWords → List ℕ
dir_notes layout f = some_lines (all_dir_lines layout.paths f)
