-- The list of a project's files: the text that a word names, or the files below folders.
use Rattle.std.specs.Prelude.{ℕ, ◌||◌, Bool, true, false, List, [], ◌∷◌, ◌++◌, Option, Some, None, Ok, Err, codes, is_none}
use Rattle.inc_args.specs.Meaning.{FileWords}
use Rattle.inc_inputs.specs.Inputs.{FilesBelow, Gives}
use Rattle.inc_inputs.specs.Lists.{list_paths}
use Rattle.inc_inputs.specs.Reports.{list_and_globs, two_lists}
use Rattle.inc_inputs.specs.Steps.{Step, comes_to, each, reads, reads_as, then}
use Rattle.inc_inputs.specs.declared.file_lists.PathEnd.{PathEnd}
use Rattle.inc_inputs.specs.declared.file_lists.PathEnd.TheVariants.{LineFeed, Nul}

-- folders; that of the run where no word names one
abbrev pub or_here : List (List ℕ) → List (List ℕ)
or_here [] = codes "." ∷ []
or_here (folder ∷ folders) = folder ∷ folders

-- the files below a folder but those that are left out, behind those that are known
abbrev pub with_folder : {S : Type 0} → Gives S → (exclude : List (List ℕ)) → (folder known : List ℕ) → Step S (List ℕ)
with_folder gives exclude folder known = then (reads_as gives folder (FilesBelow folder exclude)) (λ more. comes_to (Ok (known ++ more)))

-- those below folders, one folder after the other
abbrev pub files_below : {S : Type 0} → Gives S → (exclude folders : List (List ℕ)) → Step S (List ℕ)
files_below gives exclude folders = each (with_folder gives exclude) folders []

-- the list that a word names has its files as they are
abbrev pub list_named : {S : Type 0} → Gives S → (name : List ℕ) → (exclude folders : List (List ℕ)) → Step S (List ℕ)
list_named gives name exclude (folder ∷ folders) = comes_to (Err two_lists)
list_named gives name (glob ∷ globs) [] = comes_to (Err list_and_globs)
list_named gives name [] [] = reads gives name

-- a word that names it and folders exclude each other
abbrev pub list_by : {S : Type 0} → Gives S → (name : Option (List ℕ)) → (exclude folders : List (List ℕ)) → Step S (List ℕ)
list_by gives (Some name) exclude folders = list_named gives name exclude folders
list_by gives None exclude folders = files_below gives exclude (or_here folders)

-- the text of the list
abbrev pub list_of : {S : Type 0} → Gives S → FileWords → Step S (List ℕ)
list_of gives files = list_by gives files.list files.exclude files.roots

-- what ends each of its paths: NUL with --null, and where no word names it
abbrev pub path_end_of : (is_null : Bool) → PathEnd
path_end_of true = Nul
path_end_of false = LineFeed

abbrev pub path_end_in : FileWords → PathEnd
path_end_in files = path_end_of (is_none files.list || files.is_null)

-- its paths
abbrev pub paths_in : FileWords → (list : List ℕ) → List (List ℕ)
paths_in files list = list_paths (path_end_in files) list
