-- What the words of the command line ask for, by the flags, options and words that `clap` finds among them.
use Rattle.std.specs.Prelude.{◌||◌, Bool, true, false, List, [], ◌∷◌, Option, Some, None, if◌then◌else◌, codes, is_some, length, nat_lt, unwrap_or}
use Rattle.std.specs.Str.{bytes_eq}
use Rattle.clap.specs.Words.{Row, Text, all_of, first_of, matches_of, subcommand_of}
use Rattle.inc_args.specs.CommandLine.{incut}
use Rattle.inc_args.specs.CompilerCommand.{compiler_words, own_words}

---- what may be asked for

-- the files of a project: the compilation database of its build, if a word names one, or the command of a compiler; who lists them, if a word says so,
-- whether NUL ends a path of that list and not a line feed, the folders below which they are found, globs of those that are left out, and the include
-- path: the directories of one's own headers, those for names between " alone, those of the system's, and the system's last ones
pub record FileWords : Type 0 where
  pub build : Option Text
  pub command : List Text
  pub list : Option Text
  pub is_null : Bool
  pub roots : List Text
  pub exclude : List Text
  pub dirs : List Text
  pub quoted : List Text
  pub system : List Text
  pub last : List Text

-- sources and headers of a project, without some directives: a word for one of each, or the words of --from and --to; and names that no
-- build defines
pub record Question : Type 0 where
  pub files : FileWords
  pub source : Option Text
  pub header : Option Text
  pub from : List Text
  pub to : List Text
  pub without : Option Text
  -- the places whose directives are taken as removed, too
  pub drop : List Text
  -- a header that is not found is refused
  pub is_strict : Bool
  -- but those whose names these fit
  pub external : List Text
  pub undefined : List Text

-- what limits a cut
pub record Limits : Type 0 where
  pub fixed : Option Text
  -- the places whose directives may not be removed
  pub keep : List Text
  -- the files outside which none may be
  pub only : List Text
  pub costs : Option Text

-- the format of an answer
pub record Format : Type 0 where
  -- its name, if one is given
  pub name : Option Text
  -- each chain is shown whole
  pub is_all : Bool
  -- it is negative where a header is reached
  pub fails : Bool
  -- how many are printed at most, if that is given
  pub most : Option Text

-- what is asked for in place of a cut
pub record Forms : Type 0 where
  -- the files that hold its directives, with these blanked
  pub is_blank : Bool
  -- a diff that removes its directives
  pub is_patch : Bool
  -- or itself, in this format
  pub format : Format

-- a preprocessing of sources of a project, without some directives
pub record Preprocessing : Type 0 where
  pub files : FileWords
  pub sources : List Text
  pub without : Option Text
  pub defines : Option Text
  -- what describes a compiler: its macros and the directories of its system's headers
  pub compiler : Option Text
  -- each word that defines a macro, in order
  pub words : List Text
  -- a header that is not found is an empty file
  pub is_missing_empty : Bool
  -- whether markers say which lines the tokens are from
  pub has_markers : Bool
  -- how many bytes are read for a source at most, if that is given
  pub most_read : Option Text
  -- how many bytes are printed of a source at most, if that is given
  pub most_output : Option Text
  -- the file that make rules of what is read are written to
  pub deps : Option Text
  -- the file that is written with how each source ended
  pub status : Option Text

-- rules: the file that has them, and those that are words
pub record RuleWords : Type 0 where
  pub file : Option Text
  pub rules : List Text
  -- the file that lists directives that may still break them
  pub baseline : Option Text
  -- the file that such a list is written to
  pub written : Option Text

-- a command with what it is asked
pub data Asked : Type 0 where
  -- the file, standard input where none is named, and the name of the format
  Scan : (path format : Option Text) → Asked
  Why : Question → Format → Asked
  -- with the chain of each source whole, or without
  Who : Question → Format → Asked
  -- about sources alone
  Graph : Question → Format → Asked
  -- about the sources of rules
  Rules : Question → RuleWords → Format → Asked
  -- about sources and groups of headers, or about one source: at most so many headers and directives are printed
  Cost : Question → (top : Option Text) → Format → Asked
  Cut : Question → Limits → Forms → Asked
  -- and the certificate
  Check : Question → Limits → Text → Asked
  Pp : Preprocessing → Asked

-- the language of the files: that of --extended, or of --gnu
pub record Languages : Type 0 where
  pub is_extended : Bool
  pub is_gnu : Bool

pub record Meaning : Type 0 where
  pub asked : Asked
  pub languages : Languages
  -- without notes beside the answer
  pub is_quiet : Bool
  -- links on the way to a file of the list are followed
  pub follows : Bool

---- what is found under a name

-- the text is `true`, as `clap` has it for a flag that is given
abbrev pub is_true : Option Text → Bool
is_true (Some text) = bytes_eq text (codes "true")
is_true None = false

abbrev pub is_given : Text → List Row → Bool
is_given name rows = is_true (first_of name rows)

-- the value of an option or word that must be there
abbrev pub value_of : Text → List Row → Text
value_of name rows = unwrap_or (first_of name rows) []

-- each value, in order
abbrev pub values_of : Text → List Row → List Text
values_of name rows = unwrap_or (all_of name rows) []

---- what is asked for

abbrev pub files_in : List Row → (command : List Text) → FileWords
files_in rows command = record {
  build = first_of (codes "build") rows;
  command = command;
  list = first_of (codes "files") rows;
  is_null = is_given (codes "null") rows;
  roots = values_of (codes "root") rows;
  exclude = values_of (codes "exclude") rows;
  dirs = values_of (codes "include") rows;
  quoted = values_of (codes "iquote") rows;
  system = values_of (codes "isystem") rows;
  last = values_of (codes "idirafter") rows;
}

abbrev pub question_in : List Row → (command : List Text) → Question
question_in rows command = record {
  files = files_in rows command;
  source = first_of (codes "SOURCE") rows;
  header = first_of (codes "HEADER") rows;
  from = values_of (codes "from") rows;
  to = values_of (codes "to") rows;
  without = first_of (codes "without") rows;
  drop = values_of (codes "drop") rows;
  is_strict = is_given (codes "strict") rows;
  external = values_of (codes "external") rows;
  undefined = values_of (codes "undefined") rows;
}

-- there is a build: a word names one, or it is that of a compiler's command
abbrev pub has_build : (build : Option Text) → (command : List Text) → Bool
has_build build command = is_some build || nat_lt 0 (length command)

-- the glob of the sources where no word names them: each source of the build, where there is one, and else each .c file of the project
abbrev pub all_sources : (has_build : Bool) → Text
all_sources false = codes "**.c"
all_sources true = codes "**"

-- the words of --from, or that glob
abbrev pub or_all : (has_build : Bool) → List Text → List Text
or_all is_built [] = all_sources is_built ∷ []
or_all is_built (word ∷ words) = word ∷ words

abbrev pub who_in : List Row → (command : List Text) → Question
who_in rows command =
    record (question_in rows command) { from = or_all (has_build (first_of (codes "build") rows) command) (values_of (codes "from") rows) }

-- the words of --from, or that glob where no word names one source
abbrev pub or_one : (has_build : Bool) → (source : Option Text) → List Text → List Text
or_one is_built None words = or_all is_built words
or_one is_built (Some source) words = words

-- about the source of --of, or about those of --from
abbrev pub cost_in : List Row → (command : List Text) → Question
cost_in rows command = record (question_in rows command) {
  source = first_of (codes "of") rows;
  from = or_one (has_build (first_of (codes "build") rows) command) (first_of (codes "of") rows) (values_of (codes "from") rows);
}

-- the words of --from, or the glob of the sources of the build, where there is one and neither such a word nor one for a source
abbrev pub or_built : (has_build : Bool) → (source : Option Text) → List Text → List Text
or_built true None words = or_all true words
or_built is_built source words = words

abbrev pub ends_in : List Row → (command : List Text) → Question
ends_in rows command = record (question_in rows command) {
  from = or_built (has_build (first_of (codes "build") rows) command) (first_of (codes "SOURCE") rows) (values_of (codes "from") rows);
}

abbrev pub rules_in : List Row → RuleWords
rules_in rows = record {
  file = first_of (codes "RULES") rows;
  rules = values_of (codes "rule") rows;
  baseline = first_of (codes "baseline") rows;
  written = first_of (codes "write-baseline") rows;
}

abbrev pub limits_in : List Row → Limits
limits_in rows = record {
  fixed = first_of (codes "fixed") rows;
  keep = values_of (codes "keep") rows;
  only = values_of (codes "only") rows;
  costs = first_of (codes "costs") rows;
}

-- by the flag that shows chains whole
abbrev pub format_in : (all : Text) → List Row → Format
format_in all rows = record {
  name = first_of (codes "format") rows;
  is_all = is_given all rows;
  fails = is_given (codes "fail-if-reached") rows;
  most = first_of (codes "max") rows;
}

abbrev pub forms_in : List Row → Forms
forms_in rows = record { is_blank = is_given (codes "blank") rows; is_patch = is_given (codes "patch") rows; format = format_in (codes "all") rows }

abbrev pub preprocessing_in : List Row → (command : List Text) → Preprocessing
preprocessing_in rows command = record {
  files = files_in rows command;
  sources = values_of (codes "SOURCE") rows;
  without = first_of (codes "without") rows;
  defines = first_of (codes "defines") rows;
  compiler = first_of (codes "compiler") rows;
  words = values_of (codes "define") rows;
  is_missing_empty = is_given (codes "missing-empty") rows;
  has_markers = is_given (codes "lines") rows;
  most_read = first_of (codes "most-read") rows;
  most_output = first_of (codes "most-output") rows;
  deps = first_of (codes "deps") rows;
  status = first_of (codes "status") rows;
}

-- the command of this name, with that of a compiler
abbrev pub asked_by : Text → List Row → (command : List Text) → Asked
asked_by name rows command =
    if bytes_eq name (codes "why") then Why (ends_in rows command) (format_in (codes "all") rows) else
    if bytes_eq name (codes "who") then Who (who_in rows command) (format_in (codes "chains") rows) else
    if bytes_eq name (codes "graph") then Graph (who_in rows command) (format_in (codes "all") rows) else
    if bytes_eq name (codes "rules") then Rules (ends_in rows command) (rules_in rows) (format_in (codes "all") rows) else
    if bytes_eq name (codes "cost") then Cost (cost_in rows command) (first_of (codes "top") rows) (format_in (codes "all") rows) else
    if bytes_eq name (codes "cut") then Cut (ends_in rows command) (limits_in rows) (forms_in rows) else
    if bytes_eq name (codes "check") then Check (ends_in rows command) (limits_in rows) (value_of (codes "CERT") rows) else
    if bytes_eq name (codes "pp") then Pp (preprocessing_in rows command) else Scan (first_of (codes "PATH") rows) (first_of (codes "format") rows)

-- a flag that is given before a command or after it
abbrev pub is_given_in : Text → (outer inner : List Row) → Bool
is_given_in name outer inner = is_given name outer || is_given name inner

abbrev pub languages_in : (outer inner : List Row) → Languages
languages_in outer inner =
    record { is_extended = is_given_in (codes "extended") outer inner; is_gnu = is_given_in (codes "gnu") outer inner }

-- without a command, the directives of standard input are listed
abbrev pub meaning_of : List Row → Option (Text × List Row) → (command : List Text) → Meaning
meaning_of rows None command = record { asked = Scan None None; languages = languages_in rows []; is_quiet = false; follows = false }
meaning_of rows (Some sub) command =
    record {
      asked = asked_by sub.0 sub.1 command;
      languages = languages_in rows sub.1;
      is_quiet = is_given (codes "quiet") sub.1;
      follows = is_given (codes "follow") sub.1;
    }

-- what the words ask for, of which the first is the program's name
abbrev pub meaning : List Text → Meaning
meaning words = meaning_of (matches_of incut (own_words words)) (subcommand_of incut (own_words words)) (compiler_words words)
