-- Notes of rules whose globs fit no file of the project; with --strict the first of them is the reason of a failure.
use Rattle.std.specs.Prelude.{ℕ, Bool, List, [], ◌∷◌, ◌++◌, Option, Some, None, Result, Err, if◌then◌else◌, codes, decimal, flat_map}
use Rattle.inc_lookup.specs.Projects.{Layout}
use Rattle.inc_globs.specs.Globs.{pieces}
use Rattle.inc_rules.specs.Rules.{Rule}
use Rattle.inc_inputs.specs.BuildReports.{some_lines}
use Rattle.inc_inputs.specs.Ends.{EndPaths}
use Rattle.inc_inputs.specs.HeaderNames.{fitting}
use Rattle.inc_inputs.specs.Reports.{Report, shown, unfit_rule}
use Rattle.inc_inputs.specs.RuleLists.{rule_ends}

-- that a glob at a line of a list fits no file
abbrev pub unfit_line : (name : List ℕ) → (line : ℕ) → (glob : List ℕ) → List ℕ
unfit_line name line glob = shown name ++ codes ":" ++ decimal line ++ codes ": no file of the project fits " ++ shown glob

-- where these are the files that it fits
abbrev pub unfit_by : (name : List ℕ) → (line : ℕ) → (glob : List ℕ) → (files : List (List ℕ)) → List (List ℕ)
unfit_by name line glob [] = unfit_line name line glob ∷ []
unfit_by name line glob (p ∷ ps) = []

abbrev pub side_lines : (name : List ℕ) → Layout → (line : ℕ) → (glob : List ℕ) → List (List ℕ)
side_lines name layout line glob = unfit_by name line glob (fitting layout (pieces glob))

-- the same of both sides of a rule
abbrev pub rule_lines : (name : List ℕ) → Layout → Rule → List (List ℕ)
rule_lines name layout r = side_lines name layout r.line r.left ++ side_lines name layout r.line r.right

-- those of all rules
abbrev pub unfit_lines : (name : List ℕ) → Layout → List Rule → List (List ℕ)
unfit_lines name layout rules = flat_map (rule_lines name layout) rules

abbrev pub rule_notes : (name : List ℕ) → Layout → List Rule → List ℕ
rule_notes name layout rules = some_lines (unfit_lines name layout rules)

---- with --strict

abbrev pub first_of : List (List ℕ) → Option (List ℕ)
first_of [] = None
first_of (line ∷ lines) = Some line

abbrev pub ends_unless : (unfit : Option (List ℕ)) → Result EndPaths Report → Result EndPaths Report
ends_unless (Some line) ends = Err (unfit_rule line)
ends_unless None ends = ends

-- the files that rules are about, each of whose globs must fit one where a header must be found
abbrev pub strict_ends : (is_strict : Bool) → (name : List ℕ) → Layout → List Rule → Result EndPaths Report
strict_ends is_strict name layout rules =
    if is_strict then ends_unless (first_of (unfit_lines name layout rules)) (rule_ends layout rules) else rule_ends layout rules
