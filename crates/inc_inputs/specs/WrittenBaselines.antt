-- Baselines that are written: which paths their lines can name, to which file they go, and what is noted.
use Rattle.std.specs.Prelude.{ℕ, ◌==◌, ◌&&◌, ◌||◌, Bool, true, false, List, [], ◌∷◌, ◌++◌, Option, Some, None, Result, Ok, Err, codes, count_by, find}
use Rattle.inc_text.specs.Ascii.{colon, less_than, line_feed, quotation_mark}
use Rattle.inc_lookup.specs.Projects.{Layout}
use Rattle.inc_rules.specs.Rules.{Rule}
use Rattle.inc_inputs.specs.BuildReports.{counted}
use Rattle.inc_inputs.specs.Ends.{EndPaths}
use Rattle.inc_inputs.specs.Inputs.{Puts}
use Rattle.inc_inputs.specs.Reports.{Report, no_name, note_line, shown}
use Rattle.inc_inputs.specs.RuleNotes.{strict_ends}
use Rattle.inc_inputs.specs.Steps.{Step, comes_to, then, writes_file}

---- paths

-- a name of a header begins
abbrev pub begins_name : List ℕ → Bool
begins_name [] = false
begins_name (b ∷ bs) = (b == quotation_mark) || (b == less_than)

-- one begins behind a colon of the path: there a line would be cut
abbrev pub is_unnameable : (path : List ℕ) → Bool
is_unnameable [] = false
is_unnameable (b ∷ bs) = ((b == colon) && begins_name bs) || is_unnameable bs

-- the first path of a project that is so
abbrev pub first_unnameable : Layout → Option (List ℕ)
first_unnameable layout = find is_unnameable layout.paths

abbrev pub ends_if : (unnameable : Option (List ℕ)) → Result EndPaths Report → Result EndPaths Report
ends_if (Some path) ends = Err (no_name path)
ends_if None ends = ends

-- the files that rules are about, where a line can name each file of the project
abbrev pub named_ends : (is_strict : Bool) → (name : List ℕ) → Layout → List Rule → Result EndPaths Report
named_ends is_strict name layout rules = ends_if (first_unnameable layout) (strict_ends is_strict name layout rules)

---- the file

-- how many lines a text has
abbrev pub count_lines : (text : List ℕ) → ℕ
count_lines text = count_by (λ b. b == line_feed) text

abbrev pub written_line : (name text : List ℕ) → List ℕ
written_line name text = shown name ++ codes ": " ++ counted (count_lines text) (codes " directive is written") (codes " directives are written")

-- a baseline is written to the file that a word names, and it is noted how many directives it has
abbrev pub writes_baseline : {S : Type 0} → Puts S → (name text : List ℕ) → Step S (List ℕ)
writes_baseline puts name text = then (writes_file puts name text) (λ done. comes_to (Ok (note_line (written_line name text))))
