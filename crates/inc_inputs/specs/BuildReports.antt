-- What is reported and noted of a build. Each report is about the words of the command line or about the database that they name: status 2.
use Rattle.std.specs.Prelude.{ℕ, ◌-◌, ◌==◌, Bool, List, [], ◌++◌, if◌then◌else◌, bytes_eq, codes, decimal, flat_map, length, nat_lt, take}
use Rattle.inc_build.specs.declared.compiler_words.Kind.{Kind}
use Rattle.inc_build.specs.declared.compiler_words.Kind.TheVariants.{Quoted, Searched, System, Last, Macros, Included, Defined, Undefined}
use Rattle.inc_build.specs.declared.databases.DatabaseFault.{DatabaseFault}
use Rattle.inc_build.specs.declared.databases.DatabaseFault.TheVariants as database
use Rattle.inc_build.specs.declared.entries.EntryFault.{EntryFault}
use Rattle.inc_build.specs.declared.entries.EntryFault.TheVariants as entry
use Rattle.inc_inputs.specs.Reports.{Report, note_line, out_of_memory, shown}

-- what stands in place of the path of a database where the build is a compiler's command
abbrev pub command_name : List ℕ
command_name = codes "--"

abbrev pub is_command : (name : List ℕ) → Bool
is_command name = bytes_eq name command_name

-- the word that a build is told by
abbrev pub build_word : (name : List ℕ) → List ℕ
build_word name = if is_command name then codes "--" else codes "-p"

-- of the database of this path
abbrev pub about_build : (name text : List ℕ) → Report
about_build name text = record { message = name ++ codes ": " ++ text; status = 2 }

abbrev pub entry_text : EntryFault → List ℕ
entry_text entry.NoObject = codes "no object"
entry_text entry.NoDirectory = codes "no \"directory\""
entry_text entry.LongDirectory = codes "\"directory\" longer than 4096 bytes"
entry_text entry.NoFile = codes "no \"file\""
entry_text entry.NoCommand = codes "neither \"arguments\" nor \"command\""
entry_text entry.OpenQuote = codes "unterminated quote in \"command\""
entry_text entry.NoMemory = codes "out of memory"

-- the first fault of a database
abbrev pub database_report : (name : List ℕ) → DatabaseFault → Report
database_report name (database.NoJson line column) = about_build name (decimal line ++ codes ":" ++ decimal column ++ codes ": no JSON")
database_report name database.NoArray = about_build name (codes "no array")
database_report name (database.BadEntry number fault) = about_build name (codes "entry " ++ decimal number ++ codes ": " ++ entry_text fault)
database_report name database.NoMemory = out_of_memory

abbrev pub no_entries : (name : List ℕ) → Report
no_entries name = about_build name (codes "no entries")

abbrev pub no_common_folder : (name : List ℕ) → Report
no_common_folder name = about_build name (codes "its files have no common folder; give --root")

-- the option of compilers with a value of this kind, up to that value
abbrev pub option_front : Kind → List ℕ
option_front Quoted = codes "-iquote "
option_front Searched = codes "-I "
option_front System = codes "-isystem "
option_front Last = codes "-idirafter "
option_front Macros = codes "-imacros "
option_front Included = codes "-include "
option_front Defined = codes "-D "
option_front Undefined = codes "-U "

-- an entry by its number; a command has but one
abbrev pub entry_front : (name : List ℕ) → (number : ℕ) → List ℕ
entry_front name number = if is_command name then [] else codes "entry " ++ decimal number ++ codes ": "

-- an option of an entry with its value, or @FILE, that is not supported: an answer without it would be wrong
abbrev pub unsupported : (name : List ℕ) → (number : ℕ) → (word : List ℕ) → Report
unsupported name number word = about_build name (entry_front name number ++ word ++ codes " is not supported")

-- an entry by its number and its source
abbrev pub numbered : (number : ℕ) → (file : List ℕ) → List ℕ
numbered number file = decimal number ++ codes " (" ++ shown file ++ codes ")"

-- two entries that do not agree
abbrev pub two_entries : (name : List ℕ) → (first second : ℕ) → (a b why : List ℕ) → Report
two_entries name first second a b why = about_build name (codes "entries " ++ numbered first a ++ codes " and " ++ numbered second b ++ why)

abbrev pub other_paths : (name : List ℕ) → (first second : ℕ) → (a b : List ℕ) → Report
other_paths name first second a b = two_entries name first second a b (codes " have different include paths; ask about sources of one")

abbrev pub other_macros : (name : List ℕ) → (first second : ℕ) → (a b : List ℕ) → Report
other_macros name first second a b = two_entries name first second a b (codes " define different macros; ask about sources of one")

---- notes

-- how many of something there are
abbrev pub counted : ℕ → (one several : List ℕ) → List ℕ
counted n one several = decimal n ++ (if n == 1 then one else several)

abbrev pub more_line : ℕ → List ℕ
more_line n = codes ".. and " ++ decimal n ++ codes " more"

-- lines of one sort: the first ten, and how many there are more
abbrev pub some_lines : List (List ℕ) → List ℕ
some_lines lines =
    flat_map note_line (take 10 lines) ++ (if nat_lt 10 (length lines) then note_line (more_line (length lines - 10)) else [])

-- in how many of the entries that count; a command has but one
abbrev pub entries_text : (name : List ℕ) → ℕ → List ℕ
entries_text name n = if is_command name then [] else codes " (" ++ counted n (codes " entry)") (codes " entries)")

-- an option that is skipped
abbrev pub skipped_line : (name : List ℕ) → List ℕ × ℕ → List ℕ
skipped_line name (word, n) = build_word name ++ codes ": skipped " ++ shown word ++ entries_text name n

-- a directory of the include path below which no file of the project is
abbrev pub empty_line : (option dir : List ℕ) → List ℕ
empty_line option dir = option ++ codes " " ++ shown dir ++ codes ": no file of the project lies there"

abbrev pub absent_line : (name : List ℕ) → ℕ → List ℕ
absent_line name n =
    build_word name ++ codes ": " ++ counted n (codes " source is no file of the project") (codes " sources are no files of the project")

abbrev pub absent_notes : (name : List ℕ) → ℕ → List ℕ
absent_notes name n = if nat_lt 0 n then note_line (absent_line name n) else []
