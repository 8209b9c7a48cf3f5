-- The text that `scan` prints: the include directives and the foreign ones of one file, in whatever group they are.
use Rattle.std.specs.Prelude.{ℕ, List, ◌++◌, Option, Some, None, length, filter_map, decimal, codes}
use Rattle.std.specs.List.{concat}
use Rattle.inc_directive.specs.FileDirectives.{Directive}
use Rattle.inc_directive.specs.LineKinds.{Target, Quoted, Angled, ByName, Computed, Nothing, LineKind, Include, Other}
use Rattle.inc_directive.specs.declared.kinds.DirectiveKind.TheVariants.{Foreign}
use Rattle.inc_check.specs.Texts.{line_text}
use Rattle.inc_answers.specs.Numbers.{count_text}

abbrev pub target_text : Target → List ℕ
target_text (Quoted name) = codes "quoted " ++ name
target_text (Angled name) = codes "angled " ++ name
target_text (ByName name) = codes "computed"
target_text Computed = codes "computed"
target_text Nothing = codes "nothing"

-- what is said of a directive, if anything is
abbrev pub kind_text : LineKind → Option (List ℕ)
kind_text (Include by target) = Some (target_text target)
kind_text (Other Foreign) = Some (codes "foreign")
kind_text _ = None

abbrev pub entry_text : ℕ → Option (List ℕ) → Option (List ℕ)
entry_text line None = None
entry_text line (Some text) = Some (line_text (decimal line ++ codes " " ++ text))

-- the printed line of a directive, where it includes
abbrev pub entry_of : Directive → Option (List ℕ)
entry_of d = entry_text d.line (kind_text d.kind)

-- the printed lines of the directives
abbrev pub entries : List Directive → List (List ℕ)
entries directives = filter_map entry_of directives

-- how many there are, and each
abbrev pub scan_text : List Directive → List ℕ
scan_text directives = count_text (codes "directives") (length (entries directives)) ++ concat (entries directives)
