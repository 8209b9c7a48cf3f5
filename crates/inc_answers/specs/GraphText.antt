-- The text that `graph` prints: the edges that the sources reach.
use Rattle.std.specs.Prelude.{◌≡◌, ℕ, List, ◌++◌, length, flat_map, codes}
use Rattle.inc_answers.specs.Terms.{Question}
use Rattle.inc_lookup.specs.Given.{Given}
use Rattle.inc_lookup.specs.Projects.{Layout, Listing, path_at}
use Rattle.inc_graph.specs.IncludeGraph.{Edge, Graph}
use Rattle.inc_check.specs.Texts.{line_text}
use Rattle.inc_answers.specs.Numbers.{count_text, directive_text}
use Rattle.inc_answers.specs.AnswerNotes.{definition_notes}
use Rattle.inc_answers.specs.Printed.{Printed, answered_of}
use Rattle.inc_answers.specs.Questions.{Answer, IsAnswer, IsAnswerBy}
use Rattle.inc_answers.specs.Strictness.{Strict, strays_of}
use Rattle.inc_answers.specs.WhyText.{unresolved_text}

-- the directive of an edge, and the path of the file that it leads to
abbrev pub edge_text : Layout → Edge → List ℕ
edge_text layout e = directive_text e.line (path_at layout e.from) ++ line_text (path_at layout e.to)

-- how many edges there are, and each; what was not found; what nothing can be said of
abbrev pub graph_text : Layout → Graph → List ℕ
graph_text layout g = count_text (codes "edges") (length g.edges) ++ flat_map (edge_text layout) g.edges ++ unresolved_text layout g

-- what `graph` prints of a graph
abbrev pub IsGraphOf : Answer
IsGraphOf layout g p = p ≡ answered_of (definition_notes layout g) (graph_text layout g)

-- what `graph` prints
abbrev pub IsGraph : Question → Listing → Printed → Type 0
IsGraph q listing p = IsAnswer (Strict (strays_of q) IsGraphOf) q listing p

-- and which files are read for that
abbrev pub IsGraphBy : Question → Printed → List Given → Listing → Type 0
IsGraphBy q p given listing = IsAnswerBy (Strict (strays_of q) IsGraphOf) q p given listing
