-- Notes of the lines of --without, --fixed and --costs whose paths are none of the project.
use Rattle.std.specs.Prelude.{ℕ, suc, List, [], ◌∷◌, ◌++◌, Option, Some, None, if◌then◌else◌, codes, decimal, is_some}
use Rattle.inc_lookup.specs.Projects.{Layout, found_as, path_at, place_of}
use Rattle.inc_graph.specs.MarkedEdges.{marks_of_costs}
use Rattle.inc_graph.specs.Marks.{Cost, Mark}
use Rattle.inc_inputs.specs.BuildReports.{some_lines}
use Rattle.inc_inputs.specs.Reports.{shown}

-- the path of the project that may be meant
abbrev pub meant : Layout → Option ℕ → List ℕ
meant layout None = []
meant layout (Some file) = codes "; did you mean " ++ shown (path_at layout file) ++ codes "?"

-- what is noted of the line of this number in the list of an option
abbrev pub stray_text : Layout → (option : List ℕ) → (line : ℕ) → (path : List ℕ) → List ℕ
stray_text layout option line path =
    option ++ codes " line " ++ decimal line ++ codes ": " ++ shown path ++ codes " is no path of the project" ++ meant layout (found_as layout.paths path)

abbrev pub stray_line : Layout → (option : List ℕ) → (line : ℕ) → (path : List ℕ) → List (List ℕ)
stray_line layout option line path = if is_some (place_of path layout.paths) then [] else stray_text layout option line path ∷ []

-- those of marks from this line on
abbrev pub stray_lines : Layout → (option : List ℕ) → (line : ℕ) → List Mark → List (List ℕ)
stray_lines layout option line [] = []
stray_lines layout option line (m ∷ ms) = stray_line layout option line m.path ++ stray_lines layout option (suc line) ms

abbrev pub mark_notes : Layout → (option : List ℕ) → (first : ℕ) → List Mark → List ℕ
mark_notes layout option first marks = some_lines (stray_lines layout option first marks)

abbrev pub cost_notes : Layout → List Cost → List ℕ
cost_notes layout costs = mark_notes layout (codes "--costs") 1 (marks_of_costs costs)
