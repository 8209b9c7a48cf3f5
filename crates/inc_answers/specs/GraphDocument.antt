-- The document in which `graph` lists the edges that the sources reach.
use Rattle.std.specs.Prelude.{ℕ, true, List, ◌∷◌, ◌++◌, codes, length, map}
use Rattle.inc_lookup.specs.Projects.{Layout, path_at}
use Rattle.inc_graph.specs.IncludeGraph.{Edge, Graph}
use Rattle.inc_answers.specs.Documents.{Block, Led, Words, counted}
use Rattle.inc_answers.specs.MissingNotes.{shown}
use Rattle.inc_answers.specs.WhyDocument.{unresolved_blocks}

-- how many directives follow
abbrev pub leading_words : (count : ℕ) → List ℕ
leading_words count = counted count (codes " directive leads to a file:") (codes " directives lead to files:")

-- the file to which a directive leads, before it
abbrev pub target_words : Layout → (to : ℕ) → List ℕ
target_words layout to = shown (path_at layout to) ++ codes ": "

abbrev pub link_block : Layout → Edge → Block
link_block layout e = Led (target_words layout e.to) (record { file = e.from; line = e.line })

abbrev pub graph_document : Layout → Graph → List Block
graph_document layout g = Words (leading_words (length g.edges)) ∷ map (link_block layout) g.edges ++ unresolved_blocks true g
