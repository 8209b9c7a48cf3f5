-- The document in which `cost` shows the trees of sources.
use Rattle.std.specs.Prelude.{ℕ, List, ◌∷◌, [], ◌++◌, ◌*◌, true, codes, length, map, min, replicate}
use Rattle.inc_cost.specs.declared.branches.Branch.{Branch}
use Rattle.inc_graph.specs.IncludeGraph.{Graph}
use Rattle.inc_lookup.specs.Projects.{Layout, path_at}
use Rattle.inc_answers.specs.CostDocument.{total_words}
use Rattle.inc_answers.specs.Documents.{Block, Words, counted}
use Rattle.inc_answers.specs.MissingNotes.{shown}
use Rattle.inc_answers.specs.WhyDocument.{unresolved_blocks}

-- two spaces for each directive on the way to a file, of at most a hundred
abbrev pub indent : (depth : ℕ) → List ℕ
indent depth = replicate (2 * min depth 100) 32

-- what comes in through a file, and what it has itself
abbrev pub branch_words : Layout → Branch → List ℕ
branch_words layout b = indent b.depth ++ shown (path_at layout b.file) ++ codes ": " ++ counted b.whole (codes " byte, ") (codes " bytes, ") ++ counted b.own (codes " of its own") (codes " of its own")

abbrev pub branch_block : Layout → Branch → Block
branch_block layout b = Words (branch_words layout b)

abbrev pub tree_document : Layout → Graph → (total : ℕ) → List Branch → List Block
tree_document layout g total bs = Words (total_words total (length g.sources)) ∷ map (branch_block layout) bs ++ unresolved_blocks true g
