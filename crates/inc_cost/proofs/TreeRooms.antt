-- The lists of a walk, as they change.
use Rattle.std.proofs.Common.{◌≡◌, ℕ, ◌+◌, ◌-◌, ◌<◌, ◌≤◌, Bool, true, false, List, [], ◌∷◌, ◌++◌, length, get_or, set, take, drop, replicate, inl, inr, refl, sym, ap, ◌∙◌, subst, arith, length-set}
use Rattle.std.proofs.lemmas.Bool.{cases_eq, ne_eqb}
use Rattle.std.proofs.lemmas.List.{drop-set, drop-drop, drop_all, drop_more, get_or-set_other, get_or-set_same, take_more_set}
use Rattle.inc_graph.specs.FileSets.{AreFlags}
use Rattle.inc_graph.proofs.Members.{flags_none}
use Rattle.inc_cost.specs.Trees.{IsKept, Walk, files_in, without_first}
use Rattle.inc_cost.specs.declared.trees.Node.{Node}
use Rattle.inc_cost.proofs.TreeLemmas.{met_there, met_other}

-- one more flag
pub flag_put : (ns : List Node) (n : Node) (flags : List Bool) → n.file < length flags → AreFlags (files_in ns) flags → AreFlags (files_in (ns ++ n ∷ [])) (set flags n.file true)
flag_put ns n flags low are f = elim (cases_eq n.file f) [
  | inl same ↦
      ap (λ (k : ℕ). get_or (set flags n.file true) k false) (sym same) ∙ get_or-set_same flags n.file true false low ∙ sym (met_there ns n f same)
  | inr other ↦
      get_or-set_other flags n.file f true false (λ e. other (sym e)) ∙ are f ∙ sym (met_other ns n f (ne_eqb n.file f other))
]

-- a walk that begins, with room for one node
pub kept_begun : (n : ℕ) (tree waiting : List Node) (root : Node) → length tree ≡ length waiting → 0 < length waiting
    → IsKept (replicate n false) tree 0 (set waiting (length waiting - 1) root) (length waiting - 1)
kept_begun n tree waiting root long some = record {
  flagged = flags_none n (replicate n false) refl;
  counted = omega arith;
  within = (let same = length-set waiting (length waiting - 1) root in omega arith);
  long = long ∙ sym (length-set waiting (length waiting - 1) root);
}

pub begun_waiting : (waiting : List Node) (root : Node) → 0 < length waiting → drop (length waiting - 1) (set waiting (length waiting - 1) root) ≡ root ∷ []
begun_waiting waiting root some =
    drop-set waiting (length waiting - 1) root (omega arith) ∙ ap (λ (ns : List Node). root ∷ ns) (drop_all (length waiting - 1 + 1) waiting (omega arith))

-- the first that waits is left out
pub kept_left : (flags : List Bool) (tree : List Node) (count : ℕ) (waiting : List Node) (first next : ℕ) → next ≡ first + 1 → first < length waiting → IsKept flags tree count waiting first
    → IsKept flags tree count waiting next
kept_left flags tree count waiting first next is low k = record { flagged = k.flagged; counted = k.counted; within = omega arith; long = k.long }

pub left_waiting : (waiting : List Node) (first next : ℕ) → next ≡ first + 1 → drop next waiting ≡ drop 1 (drop first waiting)
left_waiting waiting first next is = ap (λ (n : ℕ). drop n waiting) is ∙ sym (drop-drop 1 first waiting)

-- a node goes to the end of the tree
pub kept_put : (flags : List Bool) (tree : List Node) (count next : ℕ) (waiting : List Node) (first : ℕ) (n : Node) → next ≡ count + 1 → n.file < length flags → count < length tree
    → IsKept flags tree count waiting first → IsKept (set flags n.file true) (set tree count n) next waiting first
kept_put flags tree count next waiting first n is low room k = record {
  flagged = subst (λ (ns : List Node). AreFlags (files_in ns) (set flags n.file true)) (sym (put_tree tree count next n is room)) (flag_put (take count tree) n flags low k.flagged);
  counted = (let same = length-set tree count n in omega arith);
  within = k.within;
  long = length-set tree count n ∙ k.long;
}
  where
    put_tree : (tree' : List Node) (count' next' : ℕ) (n' : Node) → next' ≡ count' + 1 → count' < length tree' → take next' (set tree' count' n') ≡ take count' tree' ++ n' ∷ []
    put_tree tree' count' next' n' is' room' = ap (λ (k' : ℕ). take k' (set tree' count' n')) is' ∙ take_more_set tree' count' n' room'

pub tree_put : (tree : List Node) (count next : ℕ) (n : Node) → next ≡ count + 1 → count < length tree → take next (set tree count n) ≡ take count tree ++ n ∷ []
tree_put tree count next n is room = ap (λ (k : ℕ). take k (set tree count n)) is ∙ take_more_set tree count n room

-- a node goes before those that wait
pub kept_child : (flags : List Bool) (tree : List Node) (count : ℕ) (waiting : List Node) (first next : ℕ) (n : Node) → first ≡ next + 1 → IsKept flags tree count waiting first
    → IsKept flags tree count (set waiting next n) next
kept_child flags tree count waiting first next n is k = record {
  flagged = k.flagged;
  counted = k.counted;
  within = (let same = length-set waiting next n in let old = k.within in omega arith);
  long = k.long ∙ sym (length-set waiting next n);
}

pub child_waiting : (waiting : List Node) (first next : ℕ) (n : Node) → first ≡ next + 1 → first ≤ length waiting → drop next (set waiting next n) ≡ n ∷ drop first waiting
child_waiting waiting first next n is low = drop-set waiting next n (omega arith) ∙ ap (λ (k : ℕ). n ∷ drop k waiting) (sym is)

-- what waits is shorter than its room where something has been taken from it
pub first_is : (waiting : List Node) (first : ℕ) (d : Node) → first < length waiting → drop first waiting ≡ get_or waiting first d ∷ drop (first + 1) waiting
first_is waiting first d low = drop_more waiting first d low

---- the walk as it is seen

abbrev walk_of : (files room : ℕ) → (tree waiting : List Node) → Walk
walk_of files room tree waiting = record { files = files; room = room; tree = tree; waiting = waiting }

pub left_out : (files room first next : ℕ) (tree waiting : List Node) (w : Walk) → walk_of files room tree (drop first waiting) ≡ w → next ≡ first + 1
    → walk_of files room tree (drop next waiting) ≡ without_first w
left_out files room first next tree waiting w is more = ap (walk_of files room tree) (left_waiting waiting first next more) ∙ ap without_first is
