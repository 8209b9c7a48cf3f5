-- A step of a walk, by what its calls give.
use Rattle.std.proofs.Common.{◌≡◌, ℕ, ◌+◌, ◌<◌, ◌≤◌, true, false, not, List, [], ◌∷◌, ◌++◌, drop, length, map, sym, ap, ap₂, ◌∙◌, subst, arith}
use Rattle.std.specs.Prelude.{◌==◌, IfSome, slice_get}
use Rattle.std.proofs.lemmas.Bool.{eqb-true, not-false}
use Rattle.std.proofs.lemmas.List.{length-map, nil_from_length}
use Rattle.inc_graph.specs.IncludeGraph.{Graph, IsSound}
use Rattle.inc_graph.specs.Indexes.{edges_leaving}
use Rattle.inc_cost.specs.Trees.{IsFor, IsWalking, Walk, begun, child, children, is_met, steps_left, tree_of, walked, with_node, with_waiting, without_first}
use Rattle.inc_cost.specs.declared.trees.Node.{Node}
use Rattle.inc_cost.proofs.TreeLemmas.{left_more, steps_into, walked_end, walking_begun, walking_into, walking_past}

abbrev node_of : (file depth : ℕ) → Node
node_of file depth = record { file = file; depth = depth }

abbrev walk_of : (files room : ℕ) → (tree waiting : List Node) → Walk
walk_of files room tree waiting = record { files = files; room = room; tree = tree; waiting = waiting }

-- it begins with the source
pub begun_walking : (g : Graph) (source : ℕ) (old new : Walk) → IsFor g old → source < g.files → new ≡ begun old source → IsWalking g source new
begun_walking g source old new sized low is =
    subst (λ (w : Walk). IsWalking g source w) (sym is) (walking_begun g source old.files old.room sized.files sized.room low)

past_by : (g : Graph) (source files room : ℕ) (tree ws : List Node) (file : ℕ) → IsWalking g source (walk_of files room tree ws) → 0 < length ws
    → IfSome (slice_get ws 0) (λ (n : Node). file ≡ n.file) → is_met tree file ≡ true → IsWalking g source (walk_of files room tree (drop 1 ws))
past_by g source files room tree [] file h some at met = absurd (omega arith)
past_by g source files room tree (w ∷ ws) file h some at met = walking_past g source files room tree w ws (ap (is_met tree) (sym at) ∙ met) h

-- the first that waits is passed over
pub step_past : (g : Graph) (source : ℕ) (old new : Walk) (file : ℕ) → IsWalking g source old → 0 < length old.waiting → IfSome (slice_get old.waiting 0) (λ (n : Node). file ≡ n.file)
    → new ≡ without_first old → is_met old.tree file ≡ true → IsWalking g source new
step_past g source old new file h some at is met =
    subst (λ (w : Walk). IsWalking g source w) (sym is) (past_by g source old.files old.room old.tree old.waiting file h some at met)

into_by : (g : Graph) (source files room : ℕ) (tree ws : List Node) (file depth : ℕ) → IsSound g → IsWalking g source (walk_of files room tree ws) → 0 < length ws
    → IfSome (slice_get ws 0) (λ (n : Node). file ≡ n.file) → IfSome (slice_get ws 0) (λ (n : Node). depth ≡ n.depth) → is_met tree file ≡ false
    → IsWalking g source (walk_of files room (tree ++ node_of file depth ∷ []) (map (child depth) (edges_leaving g.edges file) ++ drop 1 ws))
    × (steps_left g (tree ++ node_of file depth ∷ []) (map (child depth) (edges_leaving g.edges file) ++ drop 1 ws) < steps_left g tree ws)
    × (length (edges_leaving g.edges file) + length (drop 1 ws) ≤ room)
into_by g source files room tree [] file depth sound h some at deep out = absurd (omega arith)
into_by g source files room tree (w ∷ ws) file depth sound h some at deep out =
    let same : node_of file depth ≡ w = ap₂ node_of at deep in
    let apart : is_met tree w.file ≡ false = ap (is_met tree) (sym at) ∙ out in
    let steps = steps_into g tree w ws apart in
    let more = left_more g tree w apart in
    let long : length (children g w) ≡ length (edges_leaving g.edges w.file) = length-map (edges_leaving g.edges w.file) (child w.depth) in
    let edges : length (edges_leaving g.edges file) ≡ length (edges_leaving g.edges w.file) = ap (λ (f : ℕ). length (edges_leaving g.edges f)) at in
    let most = h.room in
    let all = h.sized.room in
    let fewer : steps_left g (tree ++ w ∷ []) (children g w ++ ws) < steps_left g tree (w ∷ ws) = omega arith in (
      subst (λ (n : Node). IsWalking g source (walk_of files room (tree ++ n ∷ []) (children g n ++ ws))) (sym same) (walking_into g source files room tree w ws sound apart h),
      subst (λ (n : Node). steps_left g (tree ++ n ∷ []) (children g n ++ ws) < steps_left g tree (w ∷ ws)) (sym same) fewer,
      omega arith,
    )

-- or goes into the tree, before the files to which its edges lead go before what waits
pub step_into : (g : Graph) (source : ℕ) (old mid put new : Walk) (file depth : ℕ) → IsSound g → IsWalking g source old → 0 < length old.waiting
    → IfSome (slice_get old.waiting 0) (λ (n : Node). file ≡ n.file) → IfSome (slice_get old.waiting 0) (λ (n : Node). depth ≡ n.depth) → mid ≡ without_first old → is_met old.tree file ≡ false
    → put ≡ with_node mid (node_of file depth) → new ≡ with_waiting put (map (child depth) (edges_leaving g.edges file))
    → IsWalking g source new × (steps_left g new.tree new.waiting < steps_left g old.tree old.waiting)
step_into g source old mid put new file depth sound h some at deep left out is ends =
    let all = into_by g source old.files old.room old.tree old.waiting file depth sound h some at deep out in
    let same = ends ∙ ap (λ (w : Walk). with_waiting w (map (child depth) (edges_leaving g.edges file))) (is ∙ ap (λ (w : Walk). with_node w (node_of file depth)) left) in (
      subst (λ (w : Walk). IsWalking g source w) (sym same) all.0,
      subst (λ (w : Walk). steps_left g w.tree w.waiting < steps_left g old.tree old.waiting) (sym same) all.1,
    )

pub step_room : (g : Graph) (source : ℕ) (old mid put : Walk) (file depth : ℕ) → IsSound g → IsWalking g source old → 0 < length old.waiting
    → IfSome (slice_get old.waiting 0) (λ (n : Node). file ≡ n.file) → IfSome (slice_get old.waiting 0) (λ (n : Node). depth ≡ n.depth) → mid ≡ without_first old → is_met old.tree file ≡ false
    → put ≡ with_node mid (node_of file depth) → length (edges_leaving g.edges file) + length put.waiting ≤ put.room
step_room g source old mid put file depth sound h some at deep left out is =
    let all = into_by g source old.files old.room old.tree old.waiting file depth sound h some at deep out in
    let same = is ∙ ap (λ (w : Walk). with_node w (node_of file depth)) left in
    subst (λ (w : Walk). length (edges_leaving g.edges file) + length w.waiting ≤ w.room) (sym same) all.2

-- where nothing waits, the tree is that of the source
pub tree_ended : (g : Graph) (source : ℕ) (w : Walk) → IsWalking g source w → w.waiting ≡ [] → w.tree ≡ tree_of g source
tree_ended g source w h none =
    sym (ap (λ (ns : List Node). walked g (steps_left g w.tree w.waiting) w.tree ns) none ∙ walked_end g (steps_left g w.tree w.waiting) w.tree) ∙ h.rest

pub nothing_waits : (ns : List Node) → not (length ns == 0) ≡ false → ns ≡ []
nothing_waits ns none = nil_from_length ns (eqb-true (length ns) 0 (not-false (length ns == 0) none))
