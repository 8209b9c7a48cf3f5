-- The texts of the trees of sources: a line for each file with what comes in through it, or a line for each with the files on the way to it.
use Rattle.std.specs.Prelude.{◌≡◌, ℕ, zero, suc, ◌==◌, ◌*◌, List, [], ◌∷◌, ◌++◌, if◌then◌else◌, codes, decimal, flat_map, length, min, replicate, take}
use Rattle.inc_lookup.specs.Given.{Given}
use Rattle.inc_lookup.specs.Projects.{Layout, Listing, path_at}
use Rattle.inc_check.specs.Texts.{line_text}
use Rattle.inc_cost.specs.Costs.{IsTotal}
use Rattle.inc_cost.specs.Trees.{branches, forest, own, tree_of}
use Rattle.inc_cost.specs.declared.branches.Branch.{Branch}
use Rattle.inc_cost.specs.declared.trees.Node.{Node}
use Rattle.inc_graph.specs.IncludeGraph.{Graph}
use Rattle.inc_answers.specs.CostText.{total_line, unknown_text}
use Rattle.inc_answers.specs.FileSizes.{file_sizes}
use Rattle.inc_answers.specs.AnswerNotes.{empty_notes}
use Rattle.inc_answers.specs.MissingNotes.{shown_byte}
use Rattle.inc_answers.specs.Numbers.{count_text}
use Rattle.inc_answers.specs.Printed.{Printed, answered_of}
use Rattle.inc_answers.specs.Questions.{Answer, IsAnswer, IsAnswerBy}
use Rattle.inc_answers.specs.Strictness.{Strict, strays_of}
use Rattle.inc_answers.specs.Terms.{Question}
use Rattle.inc_answers.specs.declared.trees.TreeForm.{TreeForm}
use Rattle.inc_answers.specs.declared.trees.TreeForm.TheVariants.{Lines, Folded}

---- lines

-- what comes in through a file, what it has itself, how deep it is, and its path
abbrev pub branch_line : Layout → Branch → List ℕ
branch_line layout b =
    decimal b.whole ++ codes " " ++ decimal b.own ++ codes " " ++ decimal b.depth ++ codes " " ++ line_text (path_at layout b.file)

-- the files of the trees of all sources
abbrev pub tree_branches : (weights : List ℕ) → Graph → List Branch
tree_branches weights g = branches weights (forest g g.sources)

-- what is printed: what all sources reach together, and the branches
abbrev pub tree_text : Layout → Graph → (total : ℕ) → List Branch → List ℕ
tree_text layout g total bs =
    total_line total (length g.sources) ++ (count_text (codes "tree") (length bs) ++ flat_map (branch_line layout) bs) ++ unknown_text g

---- stacks

-- a byte of a name, which a semicolon ends
abbrev pub name_byte : ℕ → List ℕ
name_byte b = if b == 59 then codes "\\x3b" else shown_byte b

abbrev pub stack_name : Layout → (file : ℕ) → List ℕ
stack_name layout f = flat_map name_byte (path_at layout f)

-- names behind the first
abbrev pub more_names : Layout → List ℕ → List ℕ
more_names layout fs = flat_map (λ f. codes ";" ++ stack_name layout f) fs

abbrev pub stack_names : Layout → List ℕ → List ℕ
stack_names layout [] = []
stack_names layout (f ∷ fs) = stack_name layout f ++ more_names layout fs

-- the files on the way to one that has bytes, and how many
abbrev pub stack_line : Layout → (way : List ℕ) → (bytes : ℕ) → List ℕ
stack_line layout way bytes = if bytes == 0 then [] else stack_names layout way ++ codes " " ++ line_text (decimal bytes)

-- the files on the way to a node, where those to the node before it are these
abbrev pub way_to : (way : List ℕ) → Node → List ℕ
way_to way n = take n.depth way ++ n.file ∷ []

-- a line for each node
abbrev pub stacks_from : Layout → (weights way : List ℕ) → List Node → List ℕ
stacks_from layout weights way [] = []
stacks_from layout weights way (n ∷ ns) = stack_line layout (way_to way n) (own weights n) ++ stacks_from layout weights (way_to way n) ns

-- of the tree of a source
abbrev pub source_stacks : Layout → Graph → (weights : List ℕ) → (source : ℕ) → List ℕ
source_stacks layout g weights s = stacks_from layout weights [] (tree_of g s)

abbrev pub folded_text : Layout → Graph → (weights : List ℕ) → List ℕ
folded_text layout g weights = flat_map (source_stacks layout g weights) g.sources

---- the text

-- this is the text in a form
abbrev pub IsTreeText : TreeForm → (weights : List ℕ) → Layout → Graph → List ℕ → Type 0
IsTreeText Lines weights layout g text = (total : ℕ) × IsTotal g weights [] g.sources total × (text ≡ tree_text layout g total (tree_branches weights g))
IsTreeText Folded weights layout g text = text ≡ folded_text layout g weights

-- of a graph whose files weigh so much. Headers that are not found are noted
abbrev pub AreTreesFor : TreeForm → (weights : List ℕ) → Answer
AreTreesFor form weights layout g p = (text : List ℕ) × IsTreeText form weights layout g text × (p ≡ answered_of (empty_notes layout g) text)

-- of one whose files are those of a listing
abbrev pub AreTreesOf : TreeForm → Listing → Answer
AreTreesOf form listing layout g p = AreTreesFor form (file_sizes listing g.headers) layout g p

-- what is printed of trees
abbrev pub AreTrees : TreeForm → Question → Listing → Printed → Type 0
AreTrees form q listing p = IsAnswer (Strict (strays_of q) (AreTreesOf form listing)) q listing p

-- and which files are read for that
abbrev pub AreTreesBy : TreeForm → Question → Printed → List Given → Listing → Type 0
AreTreesBy form q p given listing = IsAnswerBy (Strict (strays_of q) (AreTreesOf form listing)) q p given listing
