-- What is read for the project of a build, in which order, and what it comes to.
use Rattle.std.specs.Prelude.{ℕ, Bool, true, false, List, [], Option, Some, None, Result, Ok, Err, codes, length, nat_lt}
use Rattle.std.specs.Str.{is_utf8}
use Rattle.inc_text.specs.declared.devices.ReadFault.{ReadFault}
use Rattle.inc_build.specs.Paths.{path_from}
use Rattle.inc_args.specs.Meaning.{FileWords}
use Rattle.inc_inputs.specs.BuildProjects.{Database, Found, Ground, IsDatabase, Words, chosen, command_ground, files_by, found_by_choice, ground_of, has_no_folder, inside, is_json, names_files, root_form}
use Rattle.inc_inputs.specs.BuildReports.{no_common_folder}
use Rattle.inc_inputs.specs.Inputs.{FilesBelow, Gives, Here, WholeAt}
use Rattle.inc_inputs.specs.Lists.{list_paths}
use Rattle.inc_inputs.specs.ProjectLists.{list_of, paths_in}
use Rattle.inc_inputs.specs.Reports.{not_utf8, read_report, two_builds}
use Rattle.inc_inputs.specs.Steps.{Step, comes_to, judged, reads_as, then}
use Rattle.inc_inputs.specs.declared.file_lists.PathEnd.TheVariants.{Nul}

---- the folder of the run

abbrev pub here_of : {S : Type 0} → Gives S → Step S (List ℕ)
here_of gives = then (reads_as gives (codes ".") Here) (λ here. comes_to (Ok (path_from here [])))

---- the database

abbrev pub database_in_folder : {S : Type 0} → Gives S → (folder : List ℕ) → Step S Database
database_in_folder gives folder =
    then (reads_as gives (inside folder) (WholeAt (inside folder))) (λ text. judged (IsDatabase (inside folder) text))

-- in the folder of this name, unless it is none
abbrev pub in_folder : {S : Type 0} → Gives S → (word : List ℕ) → ReadFault → (is_json : Bool) → Step S Database
in_folder gives word fault true = comes_to (Err (read_report fault word))
in_folder gives word fault false = database_in_folder gives word

-- after a reading of what BUILD names: where it is no file, it may be the folder of one
abbrev pub or_inside : {S : Type 0} → Gives S → (word : List ℕ) → Result (List ℕ) ReadFault → Step S Database
or_inside gives word (Ok text) = judged (IsDatabase word text)
or_inside gives word (Err fault) = in_folder gives word fault (is_json word)

abbrev pub database_of : {S : Type 0} → Gives S → (word : List ℕ) → Step S Database
database_of {S} gives word old answer new =
    (x : Result (List ℕ) ReadFault) × (mid : S) × gives old (WholeAt word) x mid × or_inside gives word x mid answer new

---- files

-- the list of the files below a folder, whose name is to be a text
abbrev pub folder_list : {S : Type 0} → Gives S → (exclude : List (List ℕ)) → (folder : List ℕ) → (is_text : Bool) → Step S (List ℕ)
folder_list gives exclude folder false = comes_to (Err not_utf8)
folder_list gives exclude folder true = reads_as gives folder (FilesBelow folder exclude)

abbrev pub root_list : {S : Type 0} → Gives S → (exclude : List (List ℕ)) → (root : List ℕ) → Step S (List ℕ)
root_list gives exclude root = folder_list gives exclude root (is_utf8 root)

-- the files below the deepest common folder, but for those that are left out
abbrev pub root_files : {S : Type 0} → Gives S → Ground → (exclude : List (List ℕ)) → (has_no_folder : Bool) → Step S (List (List ℕ))
root_files gives g exclude true = comes_to (Err (no_common_folder g.name))
root_files gives g exclude false =
    then (root_list gives exclude (root_form g)) (λ list. comes_to (Ok (files_by g (list_paths Nul list))))

-- those of --files or --root, where there are such words
abbrev pub files_or : {S : Type 0} → Gives S → Ground → FileWords → (names_files : Bool) → Step S (List (List ℕ))
files_or gives g words false = root_files gives g words.exclude (has_no_folder g)
files_or gives g words true = then (list_of gives words) (λ list. comes_to (Ok (files_by g (paths_in words list))))

abbrev pub files_of : {S : Type 0} → Gives S → Ground → FileWords → Step S (List (List ℕ))
files_of gives g words = files_or gives g words (names_files words)

---- all of it

-- the project of a build: the folder of the run is read, then the database, its entries are taken, then the files are listed, and last the words
-- are looked up. Here the last step stands first
abbrev pub found_on : {S : Type 0} → Gives S → Ground → FileWords → Words → Step S Found
found_on gives g words w = then (files_of gives g words) (λ files. comes_to (found_by_choice g files words w (chosen g files w)))

abbrev pub found_by : {S : Type 0} → Gives S → (here : List ℕ) → Database → FileWords → Words → Step S Found
found_by gives here d words w = then (comes_to (ground_of here words d)) (λ (g : Ground). found_on gives g words w)

abbrev pub found_in : {S : Type 0} → Gives S → (here word : List ℕ) → FileWords → Words → Step S Found
found_in gives here word words w = then (database_of gives word) (λ (d : Database). found_by gives here d words w)

abbrev pub found : {S : Type 0} → Gives S → (word : List ℕ) → FileWords → Words → Step S Found
found gives word words w = then (here_of gives) (λ here. found_in gives here word words w)

-- the same of a compiler's command, which needs no database
abbrev pub found_here : {S : Type 0} → Gives S → (here : List ℕ) → FileWords → Words → Step S Found
found_here gives here words w = then (comes_to (command_ground here words)) (λ (g : Ground). found_on gives g words w)

abbrev pub found_of_command : {S : Type 0} → Gives S → FileWords → Words → Step S Found
found_of_command gives words w = then (here_of gives) (λ here. found_here gives here words w)

-- where a word names a database, or words are a compiler's command; not both
abbrev pub found_of_words : {S : Type 0} → Gives S → FileWords → Words → (word : Option (List ℕ)) → (has_command : Bool) → Step S (Option Found)
found_of_words gives words w None false = comes_to (Ok None)
found_of_words gives words w None true = then (found_of_command gives words w) (λ f. comes_to (Ok (Some f)))
found_of_words gives words w (Some word) false = then (found gives word words w) (λ f. comes_to (Ok (Some f)))
found_of_words gives words w (Some word) true = comes_to (Err two_builds)

abbrev pub found_if : {S : Type 0} → Gives S → FileWords → Words → Step S (Option Found)
found_if gives words w = found_of_words gives words w words.build (nat_lt 0 (length words.command))
