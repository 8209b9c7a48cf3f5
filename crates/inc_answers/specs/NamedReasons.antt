-- Why an answer about cuts is refused where blockers are whose directives are known: what each of them is and how it is written, and how to
-- go on.
use Rattle.std.specs.Prelude.{ℕ, ◌||◌, Bool, false, not, List, [], ◌∷◌, ◌++◌, Option, Some, None, if◌then◌else◌, codes, filter, filter_map, flat_map, length, option_and_then}
use Rattle.std.specs.Option.{option_map_or}
use Rattle.inc_text.specs.declared.languages.Language.{Language}
use Rattle.inc_macro.specs.Macros.{is_among, is_reserved}
use Rattle.inc_lookup.specs.declared.projects.DirectiveId.{DirectiveId}
use Rattle.inc_lookup.specs.Projects.{Layout, each_once, path_at, with_path}
use Rattle.inc_directive.specs.LineKinds.{LineKind}
use Rattle.inc_graph.specs.IncludeGraph.{name_in}
use Rattle.inc_graph.specs.declared.graphs.Blocker.{Blocker}
use Rattle.inc_graph.specs.declared.graphs.BlockerKind.{BlockerKind}
use Rattle.inc_graph.specs.declared.graphs.BlockerKind.TheVariants.{Foreign}
use Rattle.inc_answers.specs.BlockedReasons.{blocker_reason_words, reasons_by, undefine_line}
use Rattle.inc_answers.specs.DefinitionPlaces.{kept_place}
use Rattle.inc_answers.specs.DirectiveNames.{kept_kind, written}
use Rattle.inc_answers.specs.FaultReasons.{reason_line}
use Rattle.inc_answers.specs.KeptFiles.{Kept}
use Rattle.inc_answers.specs.MarkReasons.{place}
use Rattle.inc_answers.specs.MissingNotes.{shown}

-- the directive of a blocker
abbrev pub directive_of : Blocker → DirectiveId
directive_of b = record { file = b.file; line = b.line }

---- the line on one

-- the name that makes its header is among these
abbrev pub is_made_by : (names : List (List ℕ)) → LineKind → Bool
is_made_by names kind = option_map_or (λ name. is_among name names) (name_in kind) false

-- where that name is defined
abbrev pub made_place : (definition : List ℕ → Option DirectiveId) → LineKind → Option DirectiveId
made_place definition kind = option_and_then definition (name_in kind)

-- that a file defines it, and where
abbrev pub definition_words : Layout → Option DirectiveId → List ℕ
definition_words layout None = codes "a file defines the name that makes the header"
definition_words layout (Some d) = place (path_at layout d.file) d.line ++ codes " defines the name that makes the header"

-- what a blocker is; one by a name that no build defines is one since a file does
abbrev pub named_words : (undefined : List (List ℕ)) → Layout → Option DirectiveId → LineKind → BlockerKind → List ℕ
named_words undefined layout definition kind b = if is_made_by undefined kind then definition_words layout definition else blocker_reason_words b

-- behind a colon, if there is something
abbrev pub behind_colon : List ℕ → List ℕ
behind_colon [] = []
behind_colon (b ∷ bs) = codes ": " ++ b ∷ bs

-- how its directive is written; of one that C does not have nothing is known
abbrev pub written_end : LineKind → BlockerKind → List ℕ
written_end kind Foreign = []
written_end kind _ = behind_colon (shown (written kind))

-- the line on a blocker whose directive is this, and whose name is defined there
abbrev pub kind_reason : (undefined : List (List ℕ)) → Layout → Option DirectiveId → LineKind → Blocker → List ℕ
kind_reason undefined layout definition kind b =
    reason_line (path_at layout b.file) b.line (named_words undefined layout definition kind b.kind ++ written_end kind b.kind)

-- what is seen of the files of a graph: what a directive is, and where they define a name first
pub record Sight : Type 0 where
  pub kind : DirectiveId → LineKind
  pub definition : (name : List ℕ) → Option DirectiveId

-- by what is kept of the files alone
abbrev pub sight_kept : Language → Layout → Kept → Sight
sight_kept language layout kept = record {
  kind = kept_kind language kept;
  definition = kept_place language kept (length layout.paths);
}

abbrev pub named_reason : (undefined : List (List ℕ)) → Sight → Layout → Blocker → List ℕ
named_reason undefined sight layout b = kind_reason undefined layout (made_place sight.definition (sight.kind (directive_of b))) (sight.kind (directive_of b)) b

---- names that a build may leave undefined

-- but those that are known to be undefined
abbrev pub is_open : Language → (undefined : List (List ℕ)) → (name : List ℕ) → Bool
is_open language undefined name = not (is_among name undefined || is_reserved language name)

-- those that make the headers of these blockers, each once, where it comes first
abbrev pub open_names : Language → (undefined : List (List ℕ)) → (kind : DirectiveId → LineKind) → List Blocker → List (List ℕ)
open_names language undefined kind bs =
    each_once (filter (is_open language undefined) (filter_map (λ (b : Blocker). name_in (kind (directive_of b))) bs))

-- names, and one more if there is one that passes a test
abbrev pub with_open : (test : List ℕ → Bool) → (names : List (List ℕ)) → Option (List ℕ) → List (List ℕ)
with_open test names None = names
with_open test names (Some name) = if test name then with_path names name else names

-- the words for a shell that leave one undefined
abbrev pub undefined_word : (name : List ℕ) → List ℕ
undefined_word name = codes " --undefined '" ++ shown name ++ codes "'"

-- the line with those for all of these; none where there is no name
abbrev pub names_line : List (List ℕ) → List ℕ
names_line [] = []
names_line (n ∷ ns) = undefine_line (flat_map undefined_word (n ∷ ns))

---- what is said beside the refusal

abbrev pub named_reasons : Language → (undefined : List (List ℕ)) → Sight → Layout → List Blocker → List ℕ
named_reasons language undefined sight layout bs =
    reasons_by (named_reason undefined sight layout) (λ firsts. names_line (open_names language undefined sight.kind firsts)) layout bs
