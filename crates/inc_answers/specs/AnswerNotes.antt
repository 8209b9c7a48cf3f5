-- The notes beside an answer: where files define names that no build defines, as words say, and which headers are not found.
use Rattle.std.specs.Prelude.{ℕ, ◌-◌, ◌==◌, Bool, List, [], ◌∷◌, ◌++◌, if◌then◌else◌, codes, decimal, flat_map, length, take}
use Rattle.inc_lookup.specs.Projects.{Layout, path_at}
use Rattle.inc_lookup.specs.declared.projects.DirectiveId.{DirectiveId}
use Rattle.inc_graph.specs.IncludeGraph.{Graph}
use Rattle.inc_answers.specs.MarkReasons.{place}
use Rattle.inc_answers.specs.MissingNotes.{empty_lines, note_start, unreached_lines}
use Rattle.inc_answers.specs.NearNames.{most_unnamed}

---- names that no build defines

-- a place where a file defines such a name, on a line that begins so
abbrev pub definition_line : (start : List ℕ) → Layout → DirectiveId → List ℕ
definition_line start layout d = start ++ place (path_at layout d.file) d.line ++ codes " defines a name of --undefined" ++ 10 ∷ []

-- how many places more there are than have a line
abbrev pub more_definitions : (start : List ℕ) → ℕ → List ℕ
more_definitions start n = if n == 0 then [] else start ++ codes ".. and " ++ decimal n ++ codes " more" ++ 10 ∷ []

-- the first of these places, and how many more there are
abbrev pub definition_lines : (start : List ℕ) → Layout → List DirectiveId → List ℕ
definition_lines start layout ds = flat_map (definition_line start layout) (take most_unnamed ds) ++ more_definitions start (length ds - most_unnamed)

-- what is noted of them
abbrev pub definition_notes : Layout → Graph → List ℕ
definition_notes layout g = definition_lines note_start layout g.definitions

---- beside an answer

-- that takes headers that are not found as empty
abbrev pub empty_notes : Layout → Graph → List ℕ
empty_notes layout g = definition_notes layout g ++ empty_lines layout g.missing

-- that no header is reached
abbrev pub unreached_notes : (whole : Bool) → Layout → Graph → List ℕ
unreached_notes whole layout g = definition_notes layout g ++ unreached_lines whole layout g.blockers g.missing
