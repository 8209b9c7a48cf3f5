-- The tree of a source: the files that it reaches, in the order in which one meets them who follows each include directive where it stands, but
-- goes into no file a second time.
use Rattle.std.specs.Prelude.{◌≡◌, ℕ, zero, suc, ◌+◌, ◌<◌, ◌≤◌, Bool, not, nat_lt, List, [], ◌∷◌, ◌++◌, if◌then◌else◌, drop, filter, flat_map, length, map, slice_index_or, take}
use Rattle.std.specs.List.{All}
use Rattle.inc_graph.specs.declared.graphs.Edge as declared
use Rattle.inc_graph.specs.FileSets.{AreFlags}
use Rattle.inc_graph.specs.IncludeGraph.{Edge, Graph}
use Rattle.inc_graph.specs.Indexes.{edges_leaving}
use Rattle.inc_graph.specs.Members.{is_member}
use Rattle.inc_cost.specs.declared.trees.Node.{Node}
use Rattle.inc_cost.specs.declared.branches.Branch.{Branch}

---- the tree

-- the files of a tree
abbrev pub files_in : List Node → List ℕ
files_in ns = map (λ (n : Node). n.file) ns

abbrev pub is_met : List Node → (file : ℕ) → Bool
is_met ns f = is_member f (files_in ns)

-- the file to which an edge leads, one level below the file that it leaves
abbrev pub child : (depth : ℕ) → declared.Edge → Node
child depth e = record { file = e.to; depth = suc depth }

-- those of all edges that leave a file, in the order of their lines
abbrev pub children : Graph → Node → List Node
children g n = map (child n.depth) (edges_leaving g.edges n.file)

-- a tree after so many steps of a walk: the first of the nodes that wait is passed over where its file is in the tree, and else goes to its end,
-- and its children wait before the others
abbrev pub walked : Graph → (steps : ℕ) → (tree waiting : List Node) → List Node
walked g zero tree waiting = tree
walked g (suc n) tree [] = tree
walked g (suc n) tree (w ∷ ws) = if is_met tree w.file then walked g n tree ws else walked g n (tree ++ w ∷ []) (children g w ++ ws)

-- the walk from a source, which takes no more steps than one for it and one for each edge
abbrev pub tree_of : Graph → (source : ℕ) → List Node
tree_of g source = walked g (suc (length g.edges)) [] (record { file = source; depth = 0 } ∷ [])

---- amounts

-- what the file of a node weighs
abbrev pub own : (weights : List ℕ) → Node → ℕ
own weights n = slice_index_or weights n.file 0

-- what the nodes weigh that follow one of this depth, up to the first that is no deeper: those below it
abbrev pub below : (weights : List ℕ) → (depth : ℕ) → List Node → ℕ
below weights depth [] = 0
below weights depth (n ∷ ns) = if nat_lt depth n.depth then own weights n + below weights depth ns else 0

-- each node with what it weighs by itself, and with all below it
abbrev pub branches : (weights : List ℕ) → List Node → List Branch
branches weights [] = []
branches weights (n ∷ ns) =
    record { file = n.file; depth = n.depth; own = own weights n; whole = own weights n + below weights n.depth ns } ∷ branches weights ns

-- the trees of several sources, one after the other
abbrev pub forest : Graph → (sources : List ℕ) → List Node
forest g sources = flat_map (tree_of g) sources

---- as the walk is held

-- how many files and how many nodes there is room for, the tree so far, and what waits
pub record Walk : Type 0 where
  pub files : ℕ
  pub room : ℕ
  pub tree : List Node
  pub waiting : List Node

-- there is room for the walks of a graph
pub record IsFor (g : Graph) (w : Walk) : Type 0 where
  pub files : w.files ≡ g.files
  pub room : w.room ≡ suc (length g.edges)

-- how many edges leave files that are not in the tree
abbrev pub left : Graph → List Node → ℕ
left g tree = length (filter (λ (e : Edge). not (is_met tree e.from)) g.edges)

-- and with what waits, as many steps as there are left at most
abbrev pub steps_left : Graph → (tree waiting : List Node) → ℕ
steps_left g tree waiting = length waiting + left g tree

-- with the source of a new tree alone
abbrev pub begun : Walk → (source : ℕ) → Walk
begun w source = record { files = w.files; room = w.room; tree = []; waiting = record { file = source; depth = 0 } ∷ [] }

-- with one more node
abbrev pub with_node : Walk → Node → Walk
with_node w n = record { files = w.files; room = w.room; tree = w.tree ++ n ∷ []; waiting = w.waiting }

-- with these before what waits
abbrev pub with_waiting : Walk → List Node → Walk
with_waiting w ns = record { files = w.files; room = w.room; tree = w.tree; waiting = ns ++ w.waiting }

-- without the first that waits
abbrev pub without_first : Walk → Walk
without_first w = record { files = w.files; room = w.room; tree = w.tree; waiting = drop 1 w.waiting }

-- the walk goes on to the tree of the source
pub record IsWalking (g : Graph) (source : ℕ) (w : Walk) : Type 0 where
  pub sized : IsFor g w
  pub rest : walked g (steps_left g w.tree w.waiting) w.tree w.waiting ≡ tree_of g source
  pub room : length w.tree + steps_left g w.tree w.waiting ≤ suc (length g.edges)
  pub low : All (λ (n : Node). n.file < g.files) w.waiting
  pub shallow : All (λ (n : Node). n.depth ≤ length w.tree) w.waiting

-- the flags are those of the files of the first so many nodes, and what waits begins within its list, which has as much room
pub record IsKept (flags : List Bool) (tree : List Node) (count : ℕ) (waiting : List Node) (first : ℕ) : Type 0 where
  pub flagged : AreFlags (files_in (take count tree)) flags
  pub counted : count ≤ length tree
  pub within : first ≤ length waiting
  pub long : length tree ≡ length waiting
