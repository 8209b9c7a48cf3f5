-- How the include directive on a line of a file is written: with one space, and without what does not say which file it names.
use Rattle.std.specs.Prelude.{ℕ, ◌==◌, List, [], ◌∷◌, ◌++◌, Result, Ok, Err, if◌then◌else◌, codes, filter, take}
use Rattle.std.specs.Option.{option_map_or}
use Rattle.inc_text.specs.PhaseText.{phase_text}
use Rattle.inc_text.specs.declared.languages.Language.{Language}
use Rattle.inc_token.specs.declared.kinds.IncludeName.{IncludeName}
use Rattle.inc_token.specs.declared.kinds.IncludeName.TheVariants as by
use Rattle.inc_lookup.specs.declared.projects.DirectiveId.{DirectiveId}
use Rattle.inc_lookup.specs.Projects.{Listing, bytes_at}
use Rattle.inc_directive.specs.FileDirectives.{Directive, file_directives}
use Rattle.inc_directive.specs.LineKinds.{Target, Quoted, Angled, ByName, Computed, Nothing, LineKind, Include, Other, Text}
use Rattle.inc_directive.specs.Removal.{is_removable}
use Rattle.inc_directive.specs.declared.files.FileFault.{FileFault}
use Rattle.inc_directive.specs.declared.kinds.DirectiveKind.TheVariants.{Foreign}
use Rattle.inc_answers.specs.KeptFiles.{Kept, kept_at}
use Rattle.inc_answers.specs.MissingNames.{between}
use Rattle.inc_answers.specs.declared.directive_names.TheConstants.{LONGEST_NAME}

-- the name of a directive that includes
abbrev pub by_words : IncludeName → List ℕ
by_words by.Include = codes "#include"
by_words by.IncludeNext = codes "#include_next"
by_words by.Import = codes "#import"

-- what it names: a name between its delimiters, the first of tokens that are to be expanded if that is a name, or nothing
abbrev pub target_words : Target → List ℕ
target_words (Quoted name) = codes " " ++ between 34 34 name
target_words (Angled name) = codes " " ++ between 60 62 name
target_words (ByName name) = codes " " ++ name
target_words Computed = codes " .."
target_words Nothing = []

-- a directive of any kind; one that is none of C is not known by its name
abbrev pub kind_words : LineKind → List ℕ
kind_words (Include by target) = by_words by ++ target_words target
kind_words (Other Foreign) = codes "#include_next, #import or #embed"
kind_words _ = []

-- at most so many bytes of it
abbrev pub written : LineKind → List ℕ
written kind = take LONGEST_NAME (kind_words kind)

---- the directives of files

-- those that include, from the top; a file with a fault has none
abbrev pub inclusions_of : Result (List Directive) FileFault → List Directive
inclusions_of (Ok ds) = filter (λ (d : Directive). is_removable d.kind) ds
inclusions_of (Err fault) = []

abbrev pub file_inclusions : Language → (bytes : List ℕ) → List Directive
file_inclusions language bytes = inclusions_of (file_directives language (phase_text language bytes))

-- what the one on a line is; no directive where none is there
abbrev pub kind_in : List Directive → (line : ℕ) → LineKind
kind_in [] line = Text
kind_in (d ∷ ds) line = if d.line == line then d.kind else kind_in ds line

abbrev pub kind_at : Language → (bytes : List ℕ) → (line : ℕ) → LineKind
kind_at language bytes line = kind_in (file_inclusions language bytes) line

-- what a directive of a project is
abbrev pub kind_of : Language → Listing → DirectiveId → LineKind
kind_of language listing d = kind_at language (bytes_at listing d.file) d.line

-- the same by what is kept of its file; no directive where that is not read
abbrev pub kept_kind : Language → Kept → DirectiveId → LineKind
kept_kind language kept d = option_map_or (λ bytes. kind_at language bytes d.line) (kept_at kept d.file) Text

-- and how it is written
abbrev pub name_of : Language → Listing → DirectiveId → List ℕ
name_of language listing d = written (kind_of language listing d)

abbrev pub kept_name : Language → Kept → DirectiveId → List ℕ
kept_name language kept d = written (kept_kind language kept d)
