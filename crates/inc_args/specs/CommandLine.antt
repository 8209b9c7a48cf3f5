-- The command line: which words each command takes, as `clap` reads them. A rule is one flag, option or word of a command.
use Rattle.std.specs.Prelude.{ℕ, true, List, [], ◌∷◌, ◌++◌, Some, codes, fold}
use Rattle.clap.specs.Lexer.{usize_max}
use Rattle.clap.specs.Words.{App, Rule, Text, new_app, new_rule, with_rule, with_subcommand}
use Rattle.clap.specs.declared.builder.action.ArgAction.TheVariants.{Append, Set, SetTrue}

---- kinds of rules

-- a flag with this long name
abbrev pub flag : Text → Rule
flag name = record (new_rule name) { long = Some name; action = Some SetTrue }

-- an option with this long name, which takes a value and may be given once
abbrev pub option : Text → Rule
option name = record (new_rule name) { long = Some name; value_names = 1; action = Some Set }

-- an option with this letter, which takes a value and may be given once
abbrev pub single : (letter : ℕ) → Text → Rule
single letter name = record (new_rule name) { short = Some letter; value_names = 1; action = Some Set }

-- an option with this letter, which takes a value and may be given again
abbrev pub repeated : (letter : ℕ) → Text → Rule
repeated letter name = record (new_rule name) { short = Some letter; value_names = 1; action = Some Append }

-- an option with this long name, which takes a value and may be given again
abbrev pub repeated_option : Text → Rule
repeated_option name = record (option name) { action = Some Append }

-- a word that must be there
abbrev pub word : Text → Rule
word name = record (new_rule name) { required = true }

-- a word that need not be there
abbrev pub optional_word : Text → Rule
optional_word name = new_rule name

---- the rules

abbrev pub extended : Rule
extended = flag (codes "extended")

abbrev pub gnu : Rule
gnu = flag (codes "gnu")

abbrev pub files : Rule
files = option (codes "files")

-- -p
abbrev pub build : Rule
build = single 112 (codes "build")

abbrev pub root : Rule
root = repeated_option (codes "root")

abbrev pub exclude : Rule
exclude = repeated_option (codes "exclude")

-- -0, --null
abbrev pub null : Rule
null = record (flag (codes "null")) { short = Some 48 }

abbrev pub follow : Rule
follow = flag (codes "follow")

-- -I
abbrev pub include : Rule
include = repeated 73 (codes "include")

abbrev pub iquote : Rule
iquote = repeated_option (codes "iquote")

abbrev pub isystem : Rule
isystem = repeated_option (codes "isystem")

abbrev pub idirafter : Rule
idirafter = repeated_option (codes "idirafter")

abbrev pub without : Rule
without = option (codes "without")

abbrev pub drop : Rule
drop = repeated_option (codes "drop")

abbrev pub strict : Rule
strict = flag (codes "strict")

abbrev pub external : Rule
external = repeated_option (codes "external")

abbrev pub keep : Rule
keep = repeated_option (codes "keep")

abbrev pub only : Rule
only = repeated_option (codes "only")

abbrev pub fixed : Rule
fixed = option (codes "fixed")

abbrev pub costs : Rule
costs = option (codes "costs")

-- -q, --quiet
abbrev pub quiet : Rule
quiet = record (flag (codes "quiet")) { short = Some 113 }

abbrev pub chains : Rule
chains = flag (codes "chains")

abbrev pub blank : Rule
blank = flag (codes "blank")

abbrev pub patch : Rule
patch = flag (codes "patch")

abbrev pub format : Rule
format = option (codes "format")

abbrev pub all : Rule
all = flag (codes "all")

abbrev pub fail_if_reached : Rule
fail_if_reached = flag (codes "fail-if-reached")

abbrev pub most : Rule
most = option (codes "max")

-- -D
abbrev pub define : Rule
define = repeated 68 (codes "define")

abbrev pub defines : Rule
defines = option (codes "defines")

abbrev pub compiler : Rule
compiler = option (codes "compiler")

abbrev pub missing_empty : Rule
missing_empty = flag (codes "missing-empty")

abbrev pub lines : Rule
lines = flag (codes "lines")

abbrev pub top : Rule
top = option (codes "top")

abbrev pub of : Rule
of = option (codes "of")

abbrev pub most_read : Rule
most_read = option (codes "most-read")

abbrev pub most_output : Rule
most_output = option (codes "most-output")

abbrev pub deps : Rule
deps = option (codes "deps")

abbrev pub status : Rule
status = option (codes "status")

abbrev pub path : Rule
path = optional_word (codes "PATH")

abbrev pub certificate : Rule
certificate = word (codes "CERT")

abbrev pub rules_file : Rule
rules_file = optional_word (codes "RULES")

-- -e
abbrev pub rule : Rule
rule = repeated 101 (codes "rule")

abbrev pub baseline : Rule
baseline = option (codes "baseline")

abbrev pub write_baseline : Rule
write_baseline = option (codes "write-baseline")

abbrev pub undefined : Rule
undefined = repeated_option (codes "undefined")

abbrev pub from : Rule
from = repeated_option (codes "from")

abbrev pub to : Rule
to = repeated_option (codes "to")

abbrev pub source : Rule
source = optional_word (codes "SOURCE")

-- one or more
abbrev pub sources : Rule
sources = record (word (codes "SOURCE")) { action = Some Append; range = Some (record { start_inclusive = 1; end_inclusive = usize_max }) }

abbrev pub header : Rule
header = optional_word (codes "HEADER")

---- the commands

-- a command with more rules, from the first to the last
abbrev pub with_rules : App → List Rule → App
with_rules app rules = fold with_rule app rules

-- the command of this name with these rules
abbrev pub command : Text → List Rule → App
command name rules = with_rules (new_app name) rules

-- what tells the files of a project
abbrev pub list_rules : List Rule
list_rules = build ∷ files ∷ null ∷ root ∷ exclude ∷ follow ∷ []

-- in which directories headers are searched, and which directives are taken as removed
abbrev pub search_rules : List Rule
search_rules = include ∷ iquote ∷ isystem ∷ idirafter ∷ without ∷ []

abbrev pub file_rules : List Rule
file_rules = list_rules ++ search_rules

-- which places are taken as removed
abbrev pub drop_rules : List Rule
drop_rules = drop ∷ []

-- whether a header that is not found is refused, and which are excepted
abbrev pub strict_rules : List Rule
strict_rules = strict ∷ external ∷ []

-- whether notes stand beside the answer
abbrev pub note_rules : List Rule
note_rules = quiet ∷ []

-- what limits a cut
abbrev pub limit_rules : List Rule
limit_rules = fixed ∷ keep ∷ only ∷ costs ∷ []

-- whether the answer that a header is reached is negative
abbrev pub reach_rules : List Rule
reach_rules = fail_if_reached ∷ []

-- in which format an answer is printed, and how much of it
abbrev pub format_rules : List Rule
format_rules = format ∷ all ∷ most ∷ []

-- what is printed of a cut
abbrev pub form_rules : List Rule
form_rules = blank ∷ patch ∷ format_rules

-- which macros are defined, and what is done without a header
abbrev pub macro_rules : List Rule
macro_rules = define ∷ defines ∷ compiler ∷ missing_empty ∷ lines ∷ []

-- what bounds each source
abbrev pub bound_rules : List Rule
bound_rules = most_read ∷ most_output ∷ []

-- what is written to files beside the answer
abbrev pub output_rules : List Rule
output_rules = deps ∷ status ∷ []

-- between which files, in builds that do not define some names
abbrev pub end_rules : List Rule
end_rules = undefined ∷ from ∷ to ∷ source ∷ header ∷ []

-- what is printed of sources, in builds that do not define some names
abbrev pub chain_rules : List Rule
chain_rules = undefined ∷ chains ∷ format ∷ most ∷ []

-- which sources of several are asked for, and which headers
abbrev pub header_rules : List Rule
header_rules = from ∷ to ∷ header ∷ []

-- from which sources, in builds that do not define some names, and in which format edges are printed
abbrev pub graph_rules : List Rule
graph_rules = undefined ∷ format ∷ from ∷ []

-- which rules are asked about, in builds that do not define some names, and in which format they are answered
abbrev pub rule_rules : List Rule
rule_rules = undefined ∷ format ∷ baseline ∷ write_baseline ∷ rule ∷ rules_file ∷ []

-- what includes cost: in builds that do not define some names, in which format and how much is printed, of which source, or from which sources, and to
-- which groups of headers
abbrev pub cost_rules : List Rule
cost_rules = undefined ∷ format ∷ top ∷ of ∷ from ∷ to ∷ []

abbrev pub scan : App
scan = command (codes "scan") (extended ∷ gnu ∷ format ∷ path ∷ [])

abbrev pub why : App
why = command (codes "why") (extended ∷ gnu ∷ file_rules ++ drop_rules ++ strict_rules ++ note_rules ++ reach_rules ++ format_rules ++ end_rules)

abbrev pub who : App
who = command (codes "who") (extended ∷ gnu ∷ file_rules ++ drop_rules ++ strict_rules ++ note_rules ++ reach_rules ++ chain_rules ++ header_rules)

abbrev pub graph : App
graph = command (codes "graph") (extended ∷ gnu ∷ file_rules ++ drop_rules ++ strict_rules ++ note_rules ++ graph_rules)

abbrev pub rules : App
rules = command (codes "rules") (extended ∷ gnu ∷ file_rules ++ drop_rules ++ strict_rules ++ note_rules ++ rule_rules)

abbrev pub cost : App
cost = command (codes "cost") (extended ∷ gnu ∷ file_rules ++ drop_rules ++ strict_rules ++ note_rules ++ cost_rules)

abbrev pub cut : App
cut = command (codes "cut") (extended ∷ gnu ∷ file_rules ++ drop_rules ++ strict_rules ++ note_rules ++ limit_rules ++ form_rules ++ end_rules)

abbrev pub check : App
check = command (codes "check") (extended ∷ gnu ∷ file_rules ++ drop_rules ++ strict_rules ++ note_rules ++ limit_rules ++ certificate ∷ end_rules)

abbrev pub pp : App
pp = command (codes "pp") (extended ∷ gnu ∷ file_rules ++ note_rules ++ macro_rules ++ bound_rules ++ output_rules ++ sources ∷ [])

-- the program before its commands; it prints its version
abbrev pub program : App
program =
    let app : App = new_app (codes "incut") in
    with_rules (record app { top = record app.top { has_version = true } }) (extended ∷ gnu ∷ [])

-- a command line with one more command
abbrev pub with_command : App → App → App
with_command app sub = with_subcommand app sub.top

-- with the commands that tell what sources include
abbrev pub with_views : App → App
with_views app = fold with_command app (scan ∷ why ∷ who ∷ graph ∷ [])

-- with those that look at all that sources include
abbrev pub with_surveys : App → App
with_surveys app = fold with_command app (rules ∷ cost ∷ [])

-- with those that tell what to edit, check it, and preprocess
abbrev pub with_edits : App → App
with_edits app = fold with_command app (cut ∷ check ∷ pp ∷ [])

abbrev pub incut : App
incut = with_edits (with_surveys (with_views program))
