-- What the program reports of a failure: a line on standard error, and the exit status.
use Rattle.std.specs.Prelude.{◌≡◌, ℕ, ◌+◌, ◌/◌, ◌%◌, ◌==◌, ◌&&◌, not, Bool, List, [], ◌∷◌, ◌++◌, if◌then◌else◌, slice_index_or, codes, decimal, flat_map, is_none, length, nat_lt}
use Rattle.std.specs.List.{list_any}
use Rattle.inc_lookup.specs.Paths.{normal_form}
use Rattle.inc_lookup.specs.declared.listings.TheConstants.{LONGEST_PATH}
use Rattle.inc_lookup.specs.declared.projects.ProjectFault.{ProjectFault}
use Rattle.inc_lookup.specs.declared.projects.ProjectFault.TheVariants as project
use Rattle.inc_text.specs.Ascii.{line_feed, nul}
use Rattle.inc_text.specs.declared.devices.ReadFault.{ReadFault}
use Rattle.inc_text.specs.declared.devices.ReadFault.TheVariants as read
use Rattle.inc_check.specs.declared.read_texts.CertFault.{CertFault}
use Rattle.inc_rules.specs.RuleTexts.{fault_words}
use Rattle.inc_rules.specs.Rules.{Fault}
use Rattle.inc_check.specs.declared.read_texts.CertFault.TheVariants as list
use Rattle.inc_inputs.specs.declared.failures.Failure.{Failure}
use Rattle.inc_inputs.specs.declared.failures.Failure.TheVariants as failure
use Rattle.inc_inputs.specs.declared.failures.Hindrance.{Hindrance}
use Rattle.inc_inputs.specs.declared.failures.Hindrance.TheVariants as hindrance

pub record Report : Type 0 where
  -- what follows `incut: ` on its line
  pub message : List ℕ
  pub status : ℕ

-- a digit in base 16
abbrev pub hex_digit : ℕ → ℕ
hex_digit n = if nat_lt n 10 then 48 + n else 87 + n

-- a byte of a path, a control byte as \xNN
abbrev pub shown_byte : ℕ → List ℕ
shown_byte b = if nat_lt 31 b && not (b == 127) then b ∷ [] else (codes "\\x" ++ hex_digit (b / 16) ∷ []) ++ hex_digit (b % 16) ∷ []

-- a path on one line
abbrev pub shown : List ℕ → List ℕ
shown path = flat_map shown_byte path

-- a text, what follows it, and a status
abbrev pub about_path : List ℕ → List ℕ → ℕ → Report
about_path text path status = record { message = text ++ path; status = status }

abbrev pub cannot_read : List ℕ → Report
cannot_read path = about_path (codes "cannot read ") path 3

abbrev pub file_too_long : List ℕ → Report
file_too_long path = about_path (codes "file too long: ") path 4

abbrev pub bad_path : List ℕ → Report
bad_path path = about_path (codes "bad path: ") path 4

abbrev pub same_path : List ℕ → Report
same_path path = about_path (codes "same path twice: ") path 4

-- at a line of the list of this path
abbrev pub malformed_list : (at : List ℕ) → Report
malformed_list at = about_path (codes "malformed list: line ") at 4

-- at a line of what describes a compiler, in the file of this path
abbrev pub malformed_compiler : (at : List ℕ) → Report
malformed_compiler at = about_path (codes "malformed compiler: line ") at 4

abbrev pub too_many_files : Report
too_many_files = record { message = codes "too many files: the most is 65535"; status = 4 }

abbrev pub cannot_write : Report
cannot_write = record { message = codes "cannot write"; status = 3 }

-- the file of this name is not written whole
abbrev pub cannot_write_file : List ℕ → Report
cannot_write_file name = about_path (codes "cannot write ") name 3

abbrev pub out_of_memory : Report
out_of_memory = record { message = codes "out of memory"; status = 5 }

abbrev pub two_forms : Report
two_forms = record { message = codes "--blank and --patch exclude each other"; status = 2 }

abbrev pub format_of_files : Report
format_of_files = record { message = codes "--format excludes --blank and --patch"; status = 2 }

abbrev pub no_format : Report
no_format = record { message = codes "--format is text, gcc, json or dot"; status = 2 }

abbrev pub no_most : Report
no_most = record { message = codes "--max is a number"; status = 2 }

abbrev pub no_top : Report
no_top = record { message = codes "--top is a number"; status = 2 }

abbrev pub of_alone : Report
of_alone = record { message = codes "--of excludes --from, --to and --top"; status = 2 }

abbrev pub folded_alone : Report
folded_alone = record { message = codes "--format folded excludes --to and --top"; status = 2 }

abbrev pub no_most_read : Report
no_most_read = record { message = codes "--most-read is a number"; status = 2 }

abbrev pub no_most_output : Report
no_most_output = record { message = codes "--most-output is a number"; status = 2 }

abbrev pub no_scan_format : Report
no_scan_format = record { message = codes "--format of scan is text, gcc or json"; status = 2 }

abbrev pub two_languages : Report
two_languages = record { message = codes "--extended and --gnu exclude each other"; status = 2 }

abbrev pub two_lists : Report
two_lists = record { message = codes "--files and --root exclude each other"; status = 2 }

abbrev pub list_and_globs : Report
list_and_globs = record { message = codes "--files and --exclude exclude each other"; status = 2 }

abbrev pub two_builds : Report
two_builds = record { message = codes "-p and -- exclude each other"; status = 2 }

abbrev pub no_command_source : Report
no_command_source = record { message = codes "-- names no source"; status = 2 }

abbrev pub two_baselines : Report
two_baselines = record { message = codes "--baseline and --write-baseline exclude each other"; status = 2 }

abbrev pub input_twice : Report
input_twice = record { message = codes "standard input can be read only once"; status = 2 }

abbrev pub no_file : Report
no_file = record { message = codes "'-' is no file to write"; status = 2 }

abbrev pub one_file : Report
one_file = record { message = codes "--deps and --status name one file"; status = 2 }

abbrev pub no_ends : Report
no_ends = record { message = codes "name SOURCE and HEADER, or give --from and --to"; status = 2 }

abbrev pub no_headers : Report
no_headers = record { message = codes "name HEADER, or give --to"; status = 2 }

-- of a word of an option
abbrev pub about_option : (option word said : List ℕ) → (status : ℕ) → Report
about_option option word said status = record { message = option ++ codes " '" ++ word ++ said; status = status }

abbrev pub bad_glob : (option word : List ℕ) → Report
bad_glob option word = about_option option word (codes "' has a [ without ]") 2

abbrev pub fits_none : (option word : List ℕ) → Report
fits_none option word = about_option option word (codes "' fits no file") 4

-- of a place without a number of a line, or with one that no line has
abbrev pub no_line : (option word : List ℕ) → Report
no_line option word = about_option option word (codes "' names no line") 2

-- of a place whose files have no directive of its name
abbrev pub no_directive : (option word : List ℕ) → Report
no_directive option word = about_option option word (codes "' names no include directive") 4

-- of a word for a header in which several paths end; two of them are named
abbrev pub several_headers : (word first second : List ℕ) → Report
several_headers word first second =
    record { message = codes "several files end in " ++ word ++ codes ": " ++ shown first ++ codes ", " ++ shown second; status = 4 }

abbrev pub no_source_left : Report
no_source_left = record { message = codes "each file of --from is one of --to"; status = 4 }

abbrev pub no_rules : Report
no_rules = record { message = codes "name RULES, or give rules with -e"; status = 2 }

-- of a line of a list of rules
abbrev pub malformed_rules : (name : List ℕ) → (line : ℕ) → Fault → Report
malformed_rules name line f = record { message = shown name ++ codes ":" ++ decimal line ++ codes ": " ++ shown (fault_words f); status = 4 }

-- of a rule with a glob that fits no file, by what is said of it
abbrev pub unfit_rule : (line : List ℕ) → Report
unfit_rule line = record { message = line; status = 4 }

-- of a line of a baseline
abbrev pub malformed_baseline : (name : List ℕ) → (line : ℕ) → Report
malformed_baseline name line = record { message = shown name ++ codes ":" ++ decimal line ++ codes ": not PATH:NAME"; status = 4 }

-- of a path that no line of a baseline can name
abbrev pub no_name : (path : List ℕ) → Report
no_name path = record { message = codes "no line of a baseline can name " ++ shown path; status = 4 }

abbrev pub no_subject : Report
no_subject = record { message = codes "no rule is about a file of the project"; status = 4 }

abbrev pub not_utf8 : Report
not_utf8 = record { message = codes "an argument is not UTF-8"; status = 2 }

abbrev pub report_of : Failure → Report
report_of failure.NotUtf8 = not_utf8
report_of (failure.CannotRead path) = cannot_read path.items
report_of failure.CannotWrite = cannot_write
report_of (failure.CannotWriteFile name) = cannot_write_file name.items
report_of failure.NoFile = no_file
report_of failure.OneFile = one_file
report_of (failure.FileTooLong path) = file_too_long path.items
report_of failure.TooManyFiles = too_many_files
report_of (failure.BadPath path) = bad_path path.items
report_of (failure.SamePath path) = same_path path.items
report_of (failure.NoList text) = record { message = text.items; status = 4 }
report_of (failure.MalformedList at) = malformed_list at.items
report_of (failure.MalformedCompiler at) = malformed_compiler at.items
report_of failure.InputTwice = input_twice
report_of failure.TwoForms = two_forms
report_of failure.FormatOfFiles = format_of_files
report_of failure.NoFormat = no_format
report_of failure.NoMost = no_most
report_of failure.NoTop = no_top
report_of failure.OfAlone = of_alone
report_of failure.FoldedAlone = folded_alone
report_of failure.NoMostRead = no_most_read
report_of failure.NoMostOutput = no_most_output
report_of failure.NoScanFormat = no_scan_format
report_of failure.TwoLanguages = two_languages
report_of failure.TwoLists = two_lists
report_of failure.ListAndGlobs = list_and_globs
report_of failure.TwoBuilds = two_builds
report_of failure.NoCommandSource = no_command_source
report_of failure.TwoBaselines = two_baselines
report_of failure.NoEnds = no_ends
report_of failure.NoHeaders = no_headers
report_of (failure.BadGlob text) = record { message = text.items; status = 2 }
report_of (failure.NoLine text) = record { message = text.items; status = 2 }
report_of (failure.NoDirective text) = record { message = text.items; status = 4 }
report_of (failure.NotUndefined text) = record { message = text.items; status = 2 }
report_of (failure.Build text) = record { message = text.items; status = 2 }
report_of (failure.FitsNone text) = record { message = text.items; status = 4 }
report_of (failure.SeveralHeaders text) = record { message = codes "several files end in " ++ text.items; status = 4 }
report_of failure.NoSourceLeft = no_source_left
report_of failure.NoRules = no_rules
report_of (failure.MalformedRules text) = record { message = text.items; status = 4 }
report_of failure.NoSubject = no_subject
report_of failure.NoMemory = out_of_memory

-- what stood in the way of a file, as it is reported behind its path
abbrev pub hindrance_name : Hindrance → List ℕ
hindrance_name hindrance.Other = []
hindrance_name hindrance.Link = codes ": is a link"
hindrance_name hindrance.NoRegularFile = codes ": is not a regular file"
hindrance_name hindrance.Missing = codes ": no such file"
hindrance_name hindrance.Folder = codes ": is a folder"
hindrance_name hindrance.NoFolder = codes ": is not a folder"
hindrance_name hindrance.Denied = codes ": permission denied"
hindrance_name hindrance.Full = codes ": no space left"
hindrance_name (hindrance.Fault n) = codes ": error "

-- the number of a fault of the system
abbrev pub hindrance_number : Hindrance → List ℕ
hindrance_number (hindrance.Fault n) = decimal n
hindrance_number h = []

-- nothing else is hindered than what cannot be read or written
abbrev pub hindrance_of : Hindrance → Report → Hindrance
hindrance_of h r = if r.status == 3 then h else hindrance.Other

abbrev pub hindrance_text : Hindrance → List ℕ
hindrance_text h = hindrance_name h ++ hindrance_number h

-- the line on standard error, by what stood in the way of what is read or written
abbrev pub report_line : Hindrance → Report → List ℕ
report_line h r = codes "incut: " ++ ((r.message ++ hindrance_text (hindrance_of h r)) ++ 10 ∷ [])

-- the line of a note beside an answer
abbrev pub note_line : List ℕ → List ℕ
note_line note = codes "incut: note: " ++ note ++ 10 ∷ []

-- what is reported of a file at this path that was not read whole
abbrev pub read_report : ReadFault → (path : List ℕ) → Report
read_report read.TooLong path = file_too_long path
read_report read.Read path = cannot_read path
read_report read.NoMemory path = out_of_memory

-- what is reported of a list of directives or costs at this path that does not read as one
abbrev pub list_report : CertFault → (path : List ℕ) → Report
list_report (list.Malformed line) path = malformed_list (decimal line ++ codes " of " ++ path)
list_report list.NoMemory path = out_of_memory

-- the same of a baseline
abbrev pub baseline_report : CertFault → (name : List ℕ) → Report
baseline_report (list.Malformed line) name = malformed_baseline name line
baseline_report list.NoMemory name = out_of_memory

-- the same of what describes a compiler
abbrev pub compiler_report : CertFault → (path : List ℕ) → Report
compiler_report (list.Malformed line) path = malformed_compiler (decimal line ++ codes " of " ++ path)
compiler_report list.NoMemory path = out_of_memory

-- the same of a list of definitions, which may describe a compiler
abbrev pub definitions_report : (is_compiler : Bool) → CertFault → (path : List ℕ) → Report
definitions_report is_compiler fault path = if is_compiler then compiler_report fault path else list_report fault path

-- reported is that the list at this path is malformed, at a line of which this holds, or that memory ran out
abbrev pub IsReportBy : (report : CertFault → List ℕ → Report) → (IsMalformedAt : ℕ → Type 0) → (path : List ℕ) → Report → Type 0
IsReportBy report IsMalformedAt path r =
    (fault : CertFault) × (r ≡ report fault path) × ((line : ℕ) → fault ≡ list.Malformed line → IsMalformedAt line)

abbrev pub IsListReport : (IsMalformedAt : ℕ → Type 0) → (path : List ℕ) → Report → Type 0
IsListReport IsMalformedAt path r = IsReportBy list_report IsMalformedAt path r

-- why a path makes no project
abbrev pub bad_path_reason : (path : List ℕ) → List ℕ
bad_path_reason path =
    if list_any (λ b. b == nul) path then codes ": holds NUL (try -0)" else
    if list_any (λ b. b == line_feed) path then codes ": holds a line feed" else
    if nat_lt LONGEST_PATH (length path) then codes ": longer than 4096 bytes" else
    if is_none (normal_form path) then codes ": climbs above the folder of the run" else codes ": names a folder"

abbrev pub bad_path_at : (path : List ℕ) → Report
bad_path_at path = bad_path (shown path ++ bad_path_reason path)

-- what is reported of paths and directories that make no project, the paths first; of two equal paths the second
abbrev pub project_report : ProjectFault → (written : List (List ℕ)) → Report
project_report project.TooManyFiles written = too_many_files
project_report (project.BadPath i) written = bad_path_at (slice_index_or written i [])
project_report (project.SamePath first second) written = same_path (shown (slice_index_or written second []))
project_report project.NoMemory written = out_of_memory
