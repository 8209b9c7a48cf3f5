-- Trees go by the weights of files that are sources or that edges lead to, and by no others.
use Rattle.std.proofs.Common.{◌≡◌, ℕ, ◌+◌, ◌<◌, true, cond, List, [], ◌∷◌, Option, refl, sym, ap, ap₂, subst, inl, inr}
use Rattle.std.specs.Prelude.{Contains, nat_lt, slice_index_or}
use Rattle.std.specs.Option.{option_map_or}
use Rattle.std.proofs.lemmas.Bool.{and_parts, eqb-true, false≢true}
use Rattle.std.proofs.lemmas.List.Elements.{All-contains}
use Rattle.inc_graph.specs.Chains.{target, leaves, is_walk}
use Rattle.inc_graph.specs.IncludeGraph.{Edge, Graph, IsSound}
use Rattle.inc_graph.proofs.ClosureWalks.{contains_head, contains_tail}
use Rattle.inc_graph.proofs.Walks.{leaving_edge}
use Rattle.inc_cost.specs.Trees.{below, branches, forest, is_met, tree_of}
use Rattle.inc_cost.specs.declared.branches.Branch.{Branch}
use Rattle.inc_cost.specs.declared.trees.Node.{Node}
use Rattle.inc_cost.proofs.SameWeights.{IsMet}
use Rattle.inc_cost.proofs.TreeFiles.{met_either, met_head, met_tail, tree_listed}

module _ (weights others : List ℕ) where
  abbrev pub AreSame : List Node → Type 0
  AreSame ns = (f : ℕ) → is_met ns f ≡ true → slice_index_or weights f 0 ≡ slice_index_or others f 0

  below_same : (d : ℕ) (ns : List Node) → AreSame ns → below weights d ns ≡ below others d ns
  below_same d [] same = refl
  below_same d (n ∷ ns) same =
      ap₂ (λ (a b : ℕ). cond (nat_lt d n.depth) (a + b) 0) (same n.file (met_head n ns)) (below_same d ns (λ f is. same f (met_tail n ns f is)))

  branch_of : Node → (a b : ℕ) → Branch
  branch_of n a b = record { file = n.file; depth = n.depth; own = a; whole = a + b }

  pub branches_same : (ns : List Node) → AreSame ns → branches weights ns ≡ branches others ns
  unfolding branch_of
  branches_same [] same = refl
  branches_same (n ∷ ns) same =
      ap₂ (λ (b : Branch) (bs : List Branch). b ∷ bs)
      (ap₂ (branch_of n) (same n.file (met_head n ns)) (below_same n.depth ns (λ f is. same f (met_tail n ns f is))))
      (branches_same ns (λ f is. same f (met_tail n ns f is)))

-- a walk from a file that is met leads to one
walk_met : (g : Graph) (walk : List ℕ) (a b : ℕ) → IsMet g a → is_walk g a walk b ≡ true → IsMet g b
walk_met g [] a b met real = subst (IsMet g) (eqb-true a b real) met
walk_met g (i ∷ is) a b met real =
    let p = and_parts (leaves g a i) (is_walk g (target g i) is b) real in
    let e = leaving_edge g a i _ refl p.0 in
    let to : target g i ≡ e.0.to = ap (λ (o : Option Edge). option_map_or (λ (x : Edge). x.to) o 0) e.1 in
    walk_met g is (target g i) b (inr (i, (e.0, e.1, sym to))) p.1

source_low : (g : Graph) (s : ℕ) → IsSound g → Contains g.sources s → s < g.files
source_low g s sound there = All-contains (λ (x : ℕ). x < g.files) g.sources s sound.ends.sources_within there

-- a file of the tree of a source is met
pub tree_met : (g : Graph) (s : ℕ) → IsSound g → Contains g.sources s → (f : ℕ) → is_met (tree_of g s) f ≡ true → IsMet g f
tree_met g s sound among f is =
    let walk = (tree_listed g s sound (source_low g s sound among)).into f is in
    walk_met g walk.0 s f (inl among) walk.1

-- so is one of some tree
forest_met : (g : Graph) (sources : List ℕ) → IsSound g → ((s : ℕ) → Contains sources s → Contains g.sources s) → (f : ℕ) → is_met (forest g sources) f ≡ true → IsMet g f
forest_met g [] sound all f is = absurd (false≢true is)
forest_met g (s ∷ ss) sound all f is = elim (met_either (tree_of g s) (forest g ss) f is) [
  | inl first ↦ tree_met g s sound (all s (contains_head s ss)) f first
  | inr later ↦ forest_met g ss sound (λ t there. all t (contains_tail s ss t there)) f later
]

-- with the same weights of files that are met the trees of all sources weigh the same
pub forest_same : (g : Graph) (weights others : List ℕ) → IsSound g → ((file : ℕ) → IsMet g file → slice_index_or weights file 0 ≡ slice_index_or others file 0)
    → branches weights (forest g g.sources) ≡ branches others (forest g g.sources)
forest_same g weights others sound same =
    branches_same weights others (forest g g.sources)
    (λ f is. same f (forest_met g g.sources sound (λ s there. there) f is))
