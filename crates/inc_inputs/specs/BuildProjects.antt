-- The project that a question with `-p BUILD`, or with a compiler's command after `--`, is about: what is read for it, and the words that stand in place
-- of those of the question. Nothing that is proved of an answer rests on a build: with these words the question is one without it.
use Rattle.std.specs.Prelude.{◌≡◌, ℕ, suc, ◌-◌, ◌==◌, ◌&&◌, ◌||◌, not, Bool, true, false, List, [], ◌∷◌, ◌++◌, Option, Some, None, Result, Ok, Err, if◌then◌else◌, bytes_eq, codes, drop, filter, filter_map, find, flat_map, get_or, is_none, is_some, length, map, nat_le, nat_lt, position, take}
use Rattle.std.specs.List.{list_all, list_any, prefix_len, range_with_len}
use Rattle.std.specs.Str.{is_utf8}
use Rattle.serde_json.specs.Data.{Data}
use Rattle.serde_json.specs.Read.{read as read_json}
use Rattle.inc_build.specs.Builds.{Build, build, is_named, with_name}
use Rattle.inc_build.specs.CompilerCommands.{command_build, command_entry}
use Rattle.inc_build.specs.CompilerWords.{Item, Given, Listed, Told, items}
use Rattle.inc_build.specs.Configurations.{Row, is_kind}
use Rattle.inc_build.specs.Databases.{entries}
use Rattle.inc_build.specs.Entries.{Entry}
use Rattle.inc_build.specs.Paths.{is_absolute, path_from}
use Rattle.inc_build.specs.declared.builds.Use.{Use}
use Rattle.inc_build.specs.declared.compiler_words.Kind.{Kind}
use Rattle.inc_build.specs.declared.compiler_words.Kind.TheVariants.{Quoted, Searched, System, Last, Macros, Included, Defined, Undefined}
use Rattle.inc_build.specs.declared.databases.DatabaseFault.{DatabaseFault}
use Rattle.inc_globs.specs.Globs.{Piece, fits, is_glob, pieces}
use Rattle.inc_lookup.specs.declared.listings.TheConstants.{LONGEST_PATH}
use Rattle.inc_args.specs.Meaning.{FileWords, Preprocessing, Question}
use Rattle.inc_inputs.specs.BuildPaths.{below, common_of, folder_of, form, form_of, is_within}
use Rattle.inc_inputs.specs.BuildReports.{absent_notes, command_name, database_report, empty_line, no_entries, option_front, other_macros, other_paths, skipped_line, some_lines, unsupported}
use Rattle.inc_inputs.specs.Reports.{Report, bad_glob, fits_none, no_command_source, not_utf8, shown}

---- the database

-- its path, as reports have it, and its value of JSON
pub record Database : Type 0 where
  pub name : List ℕ
  pub value : Data

abbrev pub inside : (folder : List ℕ) → List ℕ
inside folder = folder ++ codes "/compile_commands.json"

-- what ends so is no folder
abbrev pub is_json : (word : List ℕ) → Bool
is_json word = bytes_eq (drop (length word - 5) word) (codes ".json")

-- bytes that are not UTF-8 are no JSON
abbrev pub json_of : (text : List ℕ) → Option Data
json_of text = if is_utf8 text then read_json text else None

-- the database in a text of this name, or a report that it holds none
abbrev pub IsDatabase : (name text : List ℕ) → Result Database Report → Type 0
IsDatabase name text (Ok d) = (d.name ≡ name) × (json_of text ≡ Some d.value)
IsDatabase name text (Err r) = (json_of text ≡ None) × (fault : DatabaseFault) × (r ≡ database_report name fault)

---- folders

-- the directories of entries, the folders of their sources, and the directories in which headers are searched that are
-- not below /usr
abbrev pub is_own_row : Row → Bool
is_own_row r = not (is_kind r.kind Macros || is_kind r.kind Included || is_within (codes "/usr") r.path)

abbrev pub own_rows : List Row → List (List ℕ)
own_rows rows = map (λ (r : Row). r.path) (filter is_own_row rows)

abbrev pub own_paths : (configurations : List (List Row)) → List (List ℕ)
own_paths configurations = flat_map own_rows configurations

abbrev pub own_folders : Build → (base : List ℕ) → List Entry → List (List ℕ)
own_folders b base es = map (λ (e : Entry). path_from base e.directory) es ++ (map folder_of b.sources ++ own_paths b.configurations)

-- there are words for files, which stand in place of those below the deepest common folder
abbrev pub names_files : FileWords → Bool
names_files files = is_some files.list || nat_lt 0 (length files.roots)

-- a folder of --root is within the folder of the run, or is not the project's own
abbrev pub is_near : (here folder : List ℕ) → Bool
is_near here folder = is_within (codes "/usr") folder || is_within here folder

-- paths are relative where each of these folders is within that of the run
abbrev pub are_relative : (here : List ℕ) → FileWords → (root : List ℕ) → Bool
are_relative here files root = if names_files files then list_all (λ word. is_near here (path_from here word)) files.roots else is_within here root

-- what a project rests on: the folder of the run, the database and its build, the deepest common folder, and whether
-- paths are relative
pub record Ground : Type 0 where
  pub here : List ℕ
  pub name : List ℕ
  pub entries : List Entry
  pub build : Build
  pub root : List ℕ
  pub is_relative : Bool

abbrev pub ground : (here name : List ℕ) → FileWords → Build → List Entry → (root : List ℕ) → Ground
ground here name files b es root = record {
  here = here;
  name = name;
  entries = es;
  build = b;
  root = root;
  is_relative = are_relative here files root;
}

-- the deepest folder is found from this one on, which is the directory of an entry
abbrev pub ground_by_root : (here name : List ℕ) → FileWords → (base folder : List ℕ) → List Entry → Build → Ground
ground_by_root here name files base folder es b = ground here name files b es (common_of folder (own_folders b base es))

abbrev pub ground_by_base : (here name : List ℕ) → FileWords → (base : List ℕ) → List Entry → Result Ground Report
ground_by_base here name files base [] = Err (no_entries name)
ground_by_base here name files base (e ∷ es) =
    Ok (ground_by_root here name files base (path_from base e.directory) (e ∷ es) (build base (e ∷ es)))

-- a relative directory of an entry is looked up from the folder of the database
abbrev pub base_of : (here name : List ℕ) → List ℕ
base_of here name = folder_of (path_from here name)

-- that of the entries of a database, or the report of its first fault
abbrev pub ground_by_entries : (here name : List ℕ) → FileWords → Result (List Entry) DatabaseFault → Result Ground Report
ground_by_entries here name files (Err fault) = Err (database_report name fault)
ground_by_entries here name files (Ok es) = ground_by_base here name files (base_of here name) es

abbrev pub ground_of : (here : List ℕ) → FileWords → Database → Result Ground Report
ground_of here files d = ground_by_entries here d.name files (entries d.value)

-- a compiler's command is the entry of a build without a database: the compiler is run in the folder of the run
abbrev pub ground_by_command : (here : List ℕ) → FileWords → Build → Result Ground Report
ground_by_command here files b =
    if length b.sources == 0 then Err no_command_source else
    Ok (ground_by_root here command_name files here (path_from here []) (command_entry files.command ∷ []) b)

abbrev pub command_ground : (here : List ℕ) → FileWords → Result Ground Report
command_ground here files = ground_by_command here files (command_build here (items files.command))

---- files

-- without a path that was there before
abbrev pub once : (known : List (List ℕ)) → List (List ℕ) → List (List ℕ)
once known [] = known
once known (p ∷ ps) = once (with_name p known) ps

-- no file is looked for below /: then words for files must be given
abbrev pub has_no_folder : Ground → Bool
has_no_folder g = bytes_eq g.root (codes "/")

abbrev pub root_form : Ground → List ℕ
root_form g = form_of g.here g.is_relative g.root

-- the files with these paths, each once, as the project has them
abbrev pub files_by : Ground → (paths : List (List ℕ)) → List (List ℕ)
files_by g paths = once [] (map (form g.here g.is_relative) paths)

-- a file of this path is below a folder of the project; a path that is too long for a project is below none
abbrev pub is_below : (folder path : List ℕ) → Bool
is_below folder path = is_some (below folder path) && nat_le (length path) LONGEST_PATH

abbrev pub has_below : (files : List (List ℕ)) → (folder : List ℕ) → Bool
has_below files folder =
    if bytes_eq folder (codes ".") then list_any (λ p. not (is_absolute p)) files else list_any (is_below folder) files

-- the list of them
abbrev pub nul_ended : List (List ℕ) → List ℕ
nul_ended paths = flat_map (λ p. p ++ 0 ∷ []) paths

---- words

-- what words ask of a build
pub record Words : Type 0 where
  pub sources : List (List ℕ)
  pub headers : List (List ℕ)
  -- of `pp` words for sources are no globs, and macros count
  pub has_globs : Bool
  pub has_macros : Bool

abbrev pub is_file : (files : List (List ℕ)) → List ℕ → Bool
is_file files path = list_any (bytes_eq path) files

-- a word that is the path of a file stands for it; another one stays
abbrev pub word_form : Ground → (files : List (List ℕ)) → (word : List ℕ) → List ℕ
word_form g files word = if is_file files (form g.here g.is_relative word) then form g.here g.is_relative word else word

abbrev pub header_form : Ground → (files : List (List ℕ)) → (word : List ℕ) → List ℕ
header_form g files word = if is_glob word then word else word_form g files word

-- what words for sources come to: these words in their place, the entries that count, and how many sources of the build are no files
pub record Chosen : Type 0 where
  pub sources : List (List ℕ)
  pub uses : List Use
  -- a source has no entry of its own, so that each entry counts
  pub has_all : Bool
  pub absent : ℕ

abbrev pub none_chosen : Chosen
none_chosen = record { sources = []; uses = []; has_all = false; absent = 0 }

-- with the source of this number and path
abbrev pub with_source : Ground → (files : List (List ℕ)) → ℕ → (path : List ℕ) → Chosen → Chosen
with_source g files n path c =
    if is_file files path
    then record c { sources = c.sources ++ path ∷ []; uses = c.uses ++ get_or g.build.uses n [] }
    else record c { absent = suc c.absent }

-- a word without an entry of its own
abbrev pub with_any : (word : List ℕ) → Chosen → Chosen
with_any word c = record c { sources = c.sources ++ word ∷ []; has_all = true }

-- a word for one file: the source of an entry is that of its absolute path
abbrev pub with_word : Ground → (files : List (List ℕ)) → (word : List ℕ) → (source : Option ℕ) → Chosen → Chosen
with_word g files word None c = with_any (word_form g files word) c
with_word g files word (Some n) c = record c { sources = c.sources ++ word_form g files word ∷ []; uses = c.uses ++ get_or g.build.uses n [] }

abbrev pub source_number : Ground → (word : List ℕ) → Option ℕ
source_number g word = position (bytes_eq (path_from g.here word)) g.build.sources

-- the source of this number, if a glob fits it as the project has it
abbrev pub with_fit : Ground → (files : List (List ℕ)) → List Piece → ℕ → (source : List ℕ) → Chosen → Chosen
with_fit g files glob n source c =
    if fits glob (form_of g.here g.is_relative source) then with_source g files n (form_of g.here g.is_relative source) c else c

-- those from this number on
abbrev pub with_fitting : Ground → (files : List (List ℕ)) → List Piece → ℕ → (sources : List (List ℕ)) → Chosen → Chosen
with_fitting g files glob n [] c = c
with_fitting g files glob n (s ∷ ss) c = with_fitting g files glob (suc n) ss (with_fit g files glob n s c)

-- a glob that fits no source of the build stands for files of the project, as ever; one that fits only sources that are no files is refused
abbrev pub after_glob : (word : List ℕ) → (old new : Chosen) → Result Chosen Report
after_glob word old new =
    if not (length new.sources == length old.sources) then Ok new else
    if nat_lt old.absent new.absent then Err (fits_none (codes "--from") word) else Ok (with_any word new)

abbrev pub with_glob : Ground → (files : List (List ℕ)) → (word : List ℕ) → Option (List Piece) → Chosen → Result Chosen Report
with_glob g files word None c = Err (bad_glob (codes "--from") word)
with_glob g files word (Some glob) c = after_glob word c (with_fitting g files glob 0 g.build.sources c)

abbrev pub with_one : Ground → (files : List (List ℕ)) → (has_globs : Bool) → (word : List ℕ) → Chosen → Result Chosen Report
with_one g files has_globs word c =
    if has_globs && is_glob word then with_glob g files word (pieces word) c else Ok (with_word g files word (source_number g word) c)

abbrev pub and_chosen : Result Chosen Report → (Chosen → Result Chosen Report) → Result Chosen Report
and_chosen (Err r) next = Err r
and_chosen (Ok c) next = next c

abbrev pub with_each : Ground → (files : List (List ℕ)) → (has_globs : Bool) → (words : List (List ℕ)) → Chosen → Result Chosen Report
with_each g files has_globs [] c = Ok c
with_each g files has_globs (w ∷ ws) c = and_chosen (with_one g files has_globs w c) (λ d. with_each g files has_globs ws d)

-- the entries of all sources
abbrev pub all_uses : Build → List Use
all_uses b = flat_map (λ n. get_or b.uses n []) (range_with_len 0 (length b.sources))

-- each entry counts where a source has none of its own
abbrev pub with_all : Ground → Chosen → Chosen
with_all g c = if c.has_all then record c { uses = all_uses g.build } else c

-- entries, each once: a word may be given again, and a command is the entry of each of its sources
abbrev pub entries_in : List Use → List ℕ
entries_in us = map (λ (u : Use). u.entry) us

abbrev pub with_use : Use → List Use → List Use
with_use u us = if list_any (λ n. u.entry == n) (entries_in us) then us else us ++ u ∷ []

abbrev pub each_once : (known : List Use) → List Use → List Use
each_once known [] = known
each_once known (u ∷ us) = each_once (with_use u known) us

abbrev pub with_each_once : Chosen → Chosen
with_each_once c = record c { uses = each_once [] c.uses }

abbrev pub chosen : Ground → (files : List (List ℕ)) → Words → Result Chosen Report
chosen g files w = and_chosen (with_each g files w.has_globs w.sources none_chosen) (λ c. Ok (with_each_once (with_all g c)))

---- what entries ask for

abbrev pub no_entry : Entry
no_entry = record { directory = []; file = []; words = [] }

abbrev pub entry_at : List Entry → ℕ → Entry
entry_at es n = get_or es n no_entry

abbrev pub file_at : List Entry → ℕ → List ℕ
file_at es n = (entry_at es n).file

abbrev pub items_at : List Entry → ℕ → List Item
items_at es n = items (entry_at es n).words

-- a word that defines a macro, or takes a definition away
abbrev pub macro_word : (defines : Bool) → (text : List ℕ) → Kind × List ℕ
macro_word defines text = ((if defines then Defined else Undefined), text)

abbrev pub given_macro : Kind → (text : List ℕ) → List (Kind × List ℕ) → List (Kind × List ℕ)
given_macro Defined word more = (Defined, word) ∷ more
given_macro Undefined name more = (Undefined, name) ∷ more
given_macro _ text more = more

abbrev pub macro_in : Item → List (Kind × List ℕ) → List (Kind × List ℕ)
macro_in (Given kind text) more = given_macro kind text more
macro_in _ more = more

-- the words for macros, each with whether it defines one
abbrev pub macros_in : List Item → List (Kind × List ℕ)
macros_in [] = []
macros_in (i ∷ is) = macro_in i (macros_in is)

-- the path of the first @FILE
abbrev pub listed_or : Item → Option (List ℕ) → Option (List ℕ)
listed_or (Listed path) more = Some path
listed_or _ more = more

abbrev pub listed_in : List Item → Option (List ℕ)
listed_in [] = None
listed_in (i ∷ is) = listed_or i (listed_in is)

-- the options that are skipped, each once
abbrev pub with_skipped : List (List ℕ) → Item → List (List ℕ)
with_skipped words (Told word) = with_name word words
with_skipped words _ = words

abbrev pub skipped_in : List (List ℕ) → List Item → List (List ℕ)
skipped_in words [] = words
skipped_in words (i ∷ is) = skipped_in (with_skipped words i) is

---- words that define macros, for `pp`

abbrev pub is_of_name : ℕ → Bool
is_of_name b = not ((b == 61) || (b == 40))

-- the name that a word of -D defines: up to = or (
abbrev pub name_in : List ℕ → List ℕ
name_in word = take (prefix_len is_of_name word) word

-- a word defines another name
abbrev pub is_other : (name word : List ℕ) → Bool
is_other name word = not (bytes_eq (name_in word) name)

-- words that define macros, after one more word of the entry: -U takes away what was defined before it
abbrev pub with_macro : (words : List (List ℕ)) → Kind × List ℕ → List (List ℕ)
with_macro words (Undefined, name) = filter (is_other name) words
with_macro words (_, word) = words ++ word ∷ []

abbrev pub with_macros : (words : List (List ℕ)) → List (Kind × List ℕ) → List (List ℕ)
with_macros words [] = words
with_macros words (m ∷ ms) = with_macros (with_macro words m) ms

abbrev pub is_same : (a b : Kind × List ℕ) → Bool
is_same a b = is_kind a.0 b.0 && bytes_eq a.1 b.1

abbrev pub are_same : (a b : List (Kind × List ℕ)) → Bool
are_same [] [] = true
are_same (x ∷ xs) (y ∷ ys) = is_same x y && are_same xs ys
are_same _ _ = false

---- directories

abbrev pub rows_of : Build → (configuration : ℕ) → List Row
rows_of b n = get_or b.configurations n []

abbrev pub rows_at : Build → List Use → List Row
rows_at b [] = rows_of b 0
rows_at b (u ∷ us) = rows_of b u.configuration

abbrev pub dirs_of : Ground → Kind → List Row → List (List ℕ)
dirs_of g kind rows = map (λ (r : Row). form_of g.here g.is_relative r.path) (filter (λ (r : Row). is_kind r.kind kind) rows)

-- the include path by the rows of entries and by words, which come after them
pub record Dirs : Type 0 where
  pub dirs : List (List ℕ)
  pub quoted : List (List ℕ)
  pub system : List (List ℕ)
  pub last : List (List ℕ)

abbrev pub dirs_and : Ground → Kind → List Row → (words : List (List ℕ)) → List (List ℕ)
dirs_and g kind rows words = dirs_of g kind rows ++ map (form g.here g.is_relative) words

abbrev pub all_dirs : Ground → List Row → FileWords → Dirs
all_dirs g rows words = record {
  dirs = dirs_and g Searched rows words.dirs;
  quoted = dirs_and g Quoted rows words.quoted;
  system = dirs_and g System rows words.system;
  last = dirs_and g Last rows words.last;
}

-- numbers and one more, unless it is among them
abbrev pub with_number : (number : ℕ) → List ℕ → List ℕ
with_number n ns = if list_any (λ m. n == m) ns then ns else ns ++ n ∷ []

abbrev pub paths_with : (known : List ℕ) → List Use → List ℕ
paths_with known [] = known
paths_with known (u ∷ us) = paths_with (with_number u.configuration known) us

-- the include paths of the entries that count by their numbers, each once, where it comes first
abbrev pub used_paths : List Use → List ℕ
used_paths us = paths_with [] us

abbrev pub dirs_of_each : Ground → FileWords → (numbers : List ℕ) → List Dirs
dirs_of_each g words ns = map (λ (n : ℕ). all_dirs g (rows_of g.build n) words) ns

-- those beside the first, which is that of the project
abbrev pub other_dirs : Ground → FileWords → (used : List ℕ) → List Dirs
other_dirs g words used = dirs_of_each g words (drop 1 used)

-- a source of the build as the project has it, and the include paths of its entries by their places among those that count
pub record BuildSource : Type 0 where
  pub path : List ℕ
  pub paths : List ℕ

abbrev pub path_places : (used : List ℕ) → List Use → List ℕ
path_places used us = filter_map (λ (u : Use). position (λ n. u.configuration == n) used) us

abbrev pub build_source : Ground → (used : List ℕ) → (number : ℕ) → (source : List ℕ) → BuildSource
build_source g used n source = record { path = form_of g.here g.is_relative source; paths = path_places used (get_or g.build.uses n []) }

-- those from this number on
abbrev pub build_sources : Ground → (used : List ℕ) → ℕ → (sources : List (List ℕ)) → List BuildSource
build_sources g used n [] = []
build_sources g used n (s ∷ ss) = build_source g used n s ∷ build_sources g used (suc n) ss

-- all of them, where several include paths count
abbrev pub compiled_of : Ground → (used : List ℕ) → List BuildSource
compiled_of g used = if nat_lt 1 (length used) then build_sources g used 0 g.build.sources else []

---- what is refused: what is not supported in the entries, and of a preprocessing that they do not agree

abbrev pub checked : {A : Type 0} → Result (Unit {0}) Report → Result A Report → Result A Report
checked (Err r) next = Err r
checked (Ok u) next = next

abbrev pub two_uses : (report : (name : List ℕ) → (first second : ℕ) → (a b : List ℕ) → Report) → Ground → (u v : Use) → Report
two_uses report g u v = report g.name (suc u.entry) (suc v.entry) (file_at g.entries u.entry) (file_at g.entries v.entry)

abbrev pub no_other : Ground → (u : Use) → (other : Option Use) → Result (Unit {0}) Report
no_other g u None = Ok tt
no_other g u (Some v) = Err (two_uses other_paths g u v)

-- the first of them that has another include path
abbrev pub other_path : (configuration : ℕ) → List Use → Option Use
other_path n us = find (λ (u : Use). not (u.configuration == n)) us

-- than the first of all
abbrev pub are_of_one_path : Ground → List Use → Result (Unit {0}) Report
are_of_one_path g [] = Ok tt
are_of_one_path g (u ∷ us) = no_other g u (other_path u.configuration us)

-- -imacros FILE and -include FILE: an answer without them would be wrong
abbrev pub is_unsupported : Kind → Bool
is_unsupported kind = is_kind kind Macros || is_kind kind Included

abbrev pub row_report : Ground → (entry : ℕ) → Row → Report
row_report g entry r = unsupported g.name (suc entry) (option_front r.kind ++ shown r.name)

abbrev pub rows_fault : Ground → (entry : ℕ) → List Row → Result (Unit {0}) Report
rows_fault g entry [] = Ok tt
rows_fault g entry (r ∷ rs) = if is_unsupported r.kind then Err (row_report g entry r) else rows_fault g entry rs

abbrev pub not_listed : (name : List ℕ) → (entry : ℕ) → (path : Option (List ℕ)) → Result (Unit {0}) Report
not_listed name entry None = Ok tt
not_listed name entry (Some path) = Err (unsupported name (suc entry) (codes "@" ++ shown path))

abbrev pub entry_fault : Ground → Use → Result (Unit {0}) Report
entry_fault g u = not_listed g.name u.entry (listed_in (items_at g.entries u.entry))

abbrev pub macros_at : Ground → (entry : ℕ) → List (Kind × List ℕ)
macros_at g n = macros_in (items_at g.entries n)

-- an entry defines the macros of the first one
abbrev pub is_like : Ground → (first other : Use) → Result (Unit {0}) Report
is_like g u v = if are_same (macros_at g u.entry) (macros_at g v.entry) then Ok tt else Err (two_uses other_macros g u v)

abbrev pub other_fault : Ground → (first other : Use) → Result (Unit {0}) Report
other_fault g u v = checked (entry_fault g v) (is_like g u v)

abbrev pub others_fault : Ground → (first : Use) → List Use → Result (Unit {0}) Report
others_fault g u [] = Ok tt
others_fault g u (v ∷ vs) = checked (other_fault g u v) (others_fault g u vs)

abbrev pub entries_fault : Ground → List Use → Result (Unit {0}) Report
entries_fault g [] = Ok tt
entries_fault g (u ∷ us) = checked (entry_fault g u) (others_fault g u us)

abbrev pub first_entry : List Use → ℕ
first_entry [] = 0
first_entry (u ∷ us) = u.entry

-- a preprocessing is by one include path and one set of macros
abbrev pub alike_fault : Ground → List Use → Result (Unit {0}) Report
alike_fault g us =
    checked (are_of_one_path g us) (checked (rows_fault g (first_entry us) (rows_at g.build us)) (entries_fault g us))

abbrev pub use_fault : Ground → Use → Result (Unit {0}) Report
use_fault g u = checked (rows_fault g u.entry (rows_of g.build u.configuration)) (entry_fault g u)

-- the first entry with what is not supported
abbrev pub each_fault : Ground → List Use → Result (Unit {0}) Report
each_fault g [] = Ok tt
each_fault g (u ∷ us) = checked (use_fault g u) (each_fault g us)

abbrev pub uses_fault : Ground → (has_macros : Bool) → List Use → Result (Unit {0}) Report
uses_fault g has_macros us = if has_macros then alike_fault g us else each_fault g us

---- what is noted

-- options with the number of entries that have them, after one more, and after those of one more entry
abbrev pub with_count : List (List ℕ × ℕ) → (word : List ℕ) → List (List ℕ × ℕ)
with_count [] word = (word, 1) ∷ []
with_count ((w, n) ∷ more) word = if bytes_eq word w then (w, suc n) ∷ more else (w, n) ∷ with_count more word

abbrev pub with_counts : List (List ℕ × ℕ) → (words : List (List ℕ)) → List (List ℕ × ℕ)
with_counts counts [] = counts
with_counts counts (w ∷ ws) = with_counts (with_count counts w) ws

-- the options that are skipped in entries
abbrev pub skipped_of : List Entry → List (List ℕ × ℕ) → List Use → List (List ℕ × ℕ)
skipped_of es counts [] = counts
skipped_of es counts (u ∷ us) = skipped_of es (with_counts counts (skipped_in [] (items_at es u.entry))) us

-- the directories below which no file of the project is, but for those that are known
abbrev pub if_empty : (files : List (List ℕ)) → (option : List ℕ) → (known : List (List ℕ)) → (dir : List ℕ) → List (List ℕ)
if_empty files option known d = if is_named d known || has_below files d then [] else empty_line option d ∷ []

abbrev pub empty_lines : (files : List (List ℕ)) → (option : List ℕ) → (known dirs : List (List ℕ)) → List (List ℕ)
empty_lines files option known [] = []
empty_lines files option known (d ∷ ds) = if_empty files option known d ++ empty_lines files option (with_name d known) ds

-- those of an include path
abbrev pub path_empty : (files : List (List ℕ)) → (known : List (List ℕ)) → Dirs → List (List ℕ)
path_empty files known d =
    empty_lines files (codes "-I") known d.dirs ++ (empty_lines files (codes "-iquote") (once known d.dirs) d.quoted
    ++ (empty_lines files (codes "-isystem") (once (once known d.dirs) d.quoted) d.system
    ++ empty_lines files (codes "-idirafter") (once (once (once known d.dirs) d.quoted) d.system) d.last))

abbrev pub known_with : (known : List (List ℕ)) → Dirs → List (List ℕ)
known_with known d = once (once (once (once known d.dirs) d.quoted) d.system) d.last

-- those of several, each directory once
abbrev pub all_empty : (files : List (List ℕ)) → (known : List (List ℕ)) → List Dirs → List (List ℕ)
all_empty files known [] = []
all_empty files known (d ∷ ds) = path_empty files known d ++ all_empty files (known_with known d) ds

abbrev pub notes_of : (name : List ℕ) → (files : List (List ℕ)) → (absent : ℕ) → (skipped : List (List ℕ × ℕ)) → List Dirs → List ℕ
notes_of name files absent skipped ds =
    absent_notes name absent ++ some_lines (map (skipped_line name) skipped) ++ some_lines (all_empty files [] ds)

---- the project

-- what a build adds to the words of a question
pub record Added : Type 0 where
  -- there is one
  pub is_build : Bool
  pub notes : List ℕ
  -- the include paths beside that of the project
  pub others : List Dirs
  -- which of them its sources are compiled with; none where there are no others
  pub compiled : List BuildSource

-- where there is no build
abbrev pub none_added : Added
none_added = record { is_build = false; notes = []; others = []; compiled = [] }

-- the project as data: its files, each path ended by NUL, its include path, and the words in place of those of the question
pub record Found : Type 0 where
  pub list : List ℕ
  pub dirs : List (List ℕ)
  pub quoted : List (List ℕ)
  pub system : List (List ℕ)
  pub last : List (List ℕ)
  pub sources : List (List ℕ)
  pub headers : List (List ℕ)
  pub macros : List (Kind × List ℕ)
  pub added : Added

abbrev pub macros_of : Ground → List Use → List (Kind × List ℕ)
macros_of g [] = []
macros_of g (u ∷ us) = macros_at g u.entry

abbrev pub added_by : Ground → (files : List (List ℕ)) → Chosen → (own : Dirs) → (others : List Dirs) → List BuildSource → Added
added_by g files c own others compiled = record {
  is_build = true;
  notes = notes_of g.name files c.absent (skipped_of g.entries [] c.uses) (own ∷ others);
  others = others;
  compiled = compiled;
}

-- with these directories
abbrev pub found_with : Ground → (files headers : List (List ℕ)) → Chosen → Dirs → Added → Found
found_with g files headers c d added = record {
  list = nul_ended files;
  dirs = d.dirs;
  quoted = d.quoted;
  system = d.system;
  last = d.last;
  sources = c.sources;
  headers = map (header_form g files) headers;
  macros = macros_of g c.uses;
  added = added;
}

-- of the entries that count, which have these include paths
abbrev pub found_of_paths : Ground → (files headers : List (List ℕ)) → FileWords → Chosen → (own : Dirs) → (used : List ℕ) → Found
found_of_paths g files headers words c own used =
    found_with g files headers c own (added_by g files c own (other_dirs g words used) (compiled_of g used))

abbrev pub found_of_uses : Ground → (files headers : List (List ℕ)) → FileWords → Chosen → Found
found_of_uses g files headers words c =
    found_of_paths g files headers words c (all_dirs g (rows_at g.build c.uses) words) (used_paths c.uses)

-- by what words come to, or the report of what hinders it
abbrev pub found_by_choice : Ground → (files : List (List ℕ)) → FileWords → Words → Result Chosen Report → Result Found Report
found_by_choice g files words w (Err r) = Err r
found_by_choice g files words w (Ok c) =
    checked (uses_fault g w.has_macros c.uses) (Ok (found_of_uses g files w.headers words c))

---- the words of a question, with those that a build gives in place of its own

abbrev pub dir_words : Dirs → FileWords
dir_words d = record { build = None; command = []; list = None; is_null = true; roots = []; exclude = []; dirs = d.dirs; quoted = d.quoted; system = d.system; last = d.last }

abbrev pub own_dirs : Found → Dirs
own_dirs f = record { dirs = f.dirs; quoted = f.quoted; system = f.system; last = f.last }

abbrev pub found_files : Found → FileWords
found_files f = dir_words (own_dirs f)

abbrev pub first_or : List (List ℕ) → List ℕ → List ℕ
first_or [] word = word
first_or (w ∷ ws) word = w

-- a word for one file, or those of an option
abbrev pub in_place : Option (List ℕ) → (found : List (List ℕ)) → Option (List ℕ)
in_place None found = None
in_place (Some word) found = Some (first_or found word)

abbrev pub unless_named : Option (List ℕ) → (found : List (List ℕ)) → List (List ℕ)
unless_named None found = found
unless_named (Some word) found = []

abbrev pub found_question : Found → Question → Question
found_question f q = record q {
  files = found_files f;
  source = in_place q.source f.sources;
  from = unless_named q.source f.sources;
  header = in_place q.header f.headers;
  to = unless_named q.header f.headers;
}

abbrev pub found_preprocessing : Found → Preprocessing → Preprocessing
found_preprocessing f p = record p { files = found_files f; sources = f.sources }

-- what a question asks of a build
abbrev pub or_words : Option (List ℕ) → List (List ℕ) → List (List ℕ)
or_words None words = words
or_words (Some word) words = word ∷ []

abbrev pub words_of_question : Question → Words
words_of_question q = record { sources = or_words q.source q.from; headers = or_words q.header q.to; has_globs = is_none q.source; has_macros = false }

abbrev pub words_of_pp : Preprocessing → Words
words_of_pp p = record { sources = p.sources; headers = []; has_globs = false; has_macros = true }

-- the words that stand in place of those of a question are texts, as those of the command line are; others are refused
abbrev pub are_utf8 : List (List ℕ) → Bool
are_utf8 words = list_all is_utf8 words

abbrev pub are_ends_utf8 : Found → Bool
are_ends_utf8 f = are_utf8 f.sources && are_utf8 f.headers

abbrev pub are_dirs_utf8 : Found → Bool
are_dirs_utf8 f = are_utf8 f.dirs && (are_utf8 f.quoted && (are_utf8 f.system && are_utf8 f.last))

abbrev pub words_fault : Found → Option Report
words_fault f = if are_ends_utf8 f && are_dirs_utf8 f then None else Some not_utf8
