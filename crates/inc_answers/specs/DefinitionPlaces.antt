-- Where files define a name: the first place, by the order of the project's files, and then by line.
use Rattle.std.specs.Prelude.{◌≡◌, ℕ, zero, suc, ◌==◌, Bool, false, List, Option, Some, None, Result, Ok, Err, bytes_eq, find, length, option_and_then, option_map, position, slice_index_or}
use Rattle.std.specs.Option.{option_map_or, option_or}
use Rattle.inc_text.specs.PhaseText.{phase_text}
use Rattle.inc_text.specs.declared.languages.Language.{Language}
use Rattle.inc_token.specs.LineWalk.{lines_or_none}
use Rattle.inc_token.specs.TokenLines.{token_lines}
use Rattle.inc_lookup.specs.Given.{Given}
use Rattle.inc_lookup.specs.declared.projects.DirectiveId.{DirectiveId}
use Rattle.inc_directive.specs.FileDirectives.{Directive, file_directives}
use Rattle.inc_directive.specs.Groups.{FileLine, directive_line, file_lines}
use Rattle.inc_directive.specs.LineKinds.{defined_name}
use Rattle.inc_directive.specs.declared.files.FileFault.{FileFault}
use Rattle.inc_answers.specs.KeptFiles.{Kept, kept_at}

---- in a file

-- a line that defines the name, in whatever group it is
abbrev pub defines : (name : List ℕ) → FileLine → Bool
defines name l = option_map_or (bytes_eq name) (defined_name l.kind l.tokens) false

-- the physical line of the first of these that does
abbrev pub defining_line : (name : List ℕ) → List FileLine → Option ℕ
defining_line name ls = option_map directive_line (find (defines name) ls)

-- that of a file with these lines; a file with a fault defines nothing
abbrev pub line_unless_bad : (name : List ℕ) → List FileLine → Result (List Directive) FileFault → Option ℕ
line_unless_bad name ls (Ok directives) = defining_line name ls
line_unless_bad name ls (Err fault) = None

abbrev pub definition_line : Language → (bytes : List ℕ) → (name : List ℕ) → Option ℕ
definition_line language bytes name =
    line_unless_bad name (file_lines language (lines_or_none (token_lines language (phase_text language bytes)))) (file_directives language (phase_text language bytes))

---- in the files of a project

-- the directive on a line of a file
abbrev pub at_line : (file line : ℕ) → DirectiveId
at_line file line = record { file = file; line = line }

-- where a file defines the name, if its bytes are known
abbrev pub place_in : Language → (name : List ℕ) → (file : ℕ) → Option (List ℕ) → Option DirectiveId
place_in language name file bytes = option_map (at_line file) (option_and_then (λ bs. definition_line language bs name) bytes)

-- where so many files define it, from the first on: where those before the last of them do, or else that one
abbrev pub place_by : Language → (bytes : ℕ → Option (List ℕ)) → (count : ℕ) → (name : List ℕ) → Option DirectiveId
place_by language bytes zero name = None
place_by language bytes (suc file) name = option_or (place_by language bytes file name) (place_in language name file (bytes file))

-- by what is kept of the files
abbrev pub kept_place : Language → Kept → (count : ℕ) → (name : List ℕ) → Option DirectiveId
kept_place language kept count name = place_by language (kept_at kept) count name

-- the bytes that were given of a file, the latest
abbrev pub given_bytes : List Given → ℕ → Option (List ℕ)
given_bytes given file = option_map (λ (g : Given). g.bytes) (find (λ (g : Given). g.file == file) given)

-- by what was given of them
abbrev pub given_place : Language → List Given → (count : ℕ) → (name : List ℕ) → Option DirectiveId
given_place language given count name = place_by language (given_bytes given) count name

---- of names

-- each of these names has its place in another list: that where it is first in theirs
pub record ArePlaced (names : List (List ℕ)) (definition : List ℕ → Option DirectiveId) (places : List (Option DirectiveId)) : Type 0 where
  pub long : length places ≡ length names
  pub each : (name : List ℕ) (k : ℕ) → position (bytes_eq name) names ≡ Some k → slice_index_or places k None ≡ definition name
