-- Names that a build may leave undefined.
use Rattle.std.specs.Prelude.{ℕ, Bool, true, false, List, [], ◌∷◌, Option, Some, None, if◌then◌else◌, codes}
use Rattle.inc_token.specs.Spellings.{class_of}
use Rattle.inc_token.specs.declared.kinds.Kind.{Kind}
use Rattle.inc_token.specs.declared.kinds.Kind.TheVariants.{Identifier}
use Rattle.inc_text.specs.declared.languages.Language.{Language}
use Rattle.inc_macro.specs.Macros.{is_reserved}
use Rattle.inc_inputs.specs.Reports.{Report, about_option}

abbrev pub is_identifier : Option Kind → Bool
is_identifier (Some Identifier) = true
is_identifier _ = false

-- of a name that each build defines, or that no build can define
abbrev pub always_defined : (name : List ℕ) → Report
always_defined name = about_option (codes "--undefined") name (codes "' is a predefined or reserved name") 2

abbrev pub no_identifier : (name : List ℕ) → Report
no_identifier name = about_option (codes "--undefined") name (codes "' is not an identifier") 2

-- what is reported of a name that cannot be left undefined
abbrev pub name_report : Language → List ℕ → Option Report
name_report language name =
    if is_identifier (class_of language name) then (if is_reserved language name then Some (always_defined name) else None)
    else Some (no_identifier name)

-- of these names, what is reported of the first that cannot
abbrev pub names_report : Language → List (List ℕ) → Option Report
names_report language [] = None
names_report language (n ∷ ns) = elim (name_report language n) [ Some r ↦ Some r | None ↦ names_report language ns ]
