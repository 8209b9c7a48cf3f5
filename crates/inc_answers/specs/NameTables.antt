-- The directives of files, as they are kept.
use Rattle.std.specs.Prelude.{◌≡◌, ℕ, List, Option, Some, None, slice_index_or}
use Rattle.inc_text.specs.declared.languages.Language.{Language}
use Rattle.inc_directive.specs.FileDirectives.{Directive}
use Rattle.inc_directive.specs.LineKinds as spec
use Rattle.inc_answers.specs.DirectiveNames.{file_inclusions}
use Rattle.inc_answers.specs.KeptFiles.{Kept, kept_at}
use Rattle.inc_answers.specs.declared.directive_names.KeptKind.{KeptKind}
use Rattle.inc_answers.specs.declared.directive_names.KeptKind.TheVariants as kind
use Rattle.inc_answers.specs.declared.directive_names.KeptTarget.{KeptTarget}
use Rattle.inc_answers.specs.declared.directive_names.KeptTarget.TheVariants as target
use Rattle.inc_answers.specs.declared.directive_names.NamedLine.{NamedLine}

-- what a directive names, by the name in it
abbrev pub kept_target : (name : List ℕ) → KeptTarget → spec.Target
kept_target name target.Quoted = spec.Quoted name
kept_target name target.Angled = spec.Angled name
kept_target name target.ByName = spec.ByName name
kept_target name target.Computed = spec.Computed
kept_target name target.Nothing = spec.Nothing

-- what a line is, by the name in it
abbrev pub seen_parts : KeptKind → (name : List ℕ) → spec.LineKind
seen_parts (kind.Include by target) name = spec.Include by (kept_target name target)
seen_parts (kind.Other directive) name = spec.Other directive
seen_parts kind.Text name = spec.Text

abbrev pub seen_kept : NamedLine → spec.LineKind
seen_kept n = seen_parts n.kind n.name.items

abbrev pub seen_named : NamedLine → Directive
seen_named n = record { kind = seen_kept n; line = n.line }

-- files that are kept, and their language
pub record NameSource : Type 0 where
  pub kept : Kept
  pub language : Language

-- what is known of the directives of a file
abbrev pub known_at : List (Option (List Directive)) → ℕ → Option (List Directive)
known_at files file = slice_index_or files file None

-- the directives that are known of a file are those of its bytes
abbrev pub AreNames : Language → Kept → List (Option (List Directive)) → Type 0
AreNames language kept files =
    (file : ℕ) (ds : List Directive) (bytes : List ℕ) → known_at files file ≡ Some ds → kept_at kept file ≡ Some bytes →
    ds ≡ file_inclusions language bytes
