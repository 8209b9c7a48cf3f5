-- The nodes of trees, weighed from the last to the first.
use Rattle.std.proofs.Common.{◌≡◌, ℕ, ◌+◌, ◌-◌, ◌≤◌, ◌<◌, List, [], ◌∷◌, ◌++◌, drop, get_or, length, reverse, refl, sym, ap, ap₂, ◌∙◌, subst, inl, inr, arith}
use Rattle.std.specs.Prelude.{nat_lt}
use Rattle.std.proofs.lemmas.Bool.{cases_Bool, ltb-true, lt-ltb}
use Rattle.std.proofs.lemmas.List.{drop_more, reverse-append}
use Rattle.inc_cost.specs.Branches.{AreHeld, behind, held_below}
use Rattle.inc_cost.specs.Trees.{branches, own}
use Rattle.inc_cost.specs.declared.branches.Branch.{Branch}
use Rattle.inc_cost.specs.declared.branches.Part.{Part}
use Rattle.inc_cost.specs.declared.trees.Node.{Node}

-- what is above a depth that the first parts are below, with those that are left of them
below_parts : (d depth : ℕ) (ps : List Part) → d ≤ depth → held_below d ps ≡ held_below depth ps + held_below d (behind depth ps)
below_parts d depth [] low = refl
below_parts d depth (p ∷ ps) low = elim (cases_Bool (nat_lt depth p.depth)) [
  | inl deep ↦
      let under : depth < p.depth = ltb-true depth p.depth deep in
      let rest = below_parts d depth ps low in
      rw (deep, lt-ltb d p.depth (omega arith)) (omega (arith, rest))
  | inr flat ↦ rw flat (omega arith)
]

-- one more node, with what is below it
pub held_more : (weights : List ℕ) (n : Node) (ns : List Node) (ps : List Part) → AreHeld weights ns ps
    → AreHeld weights (n ∷ ns) (record { depth = n.depth; whole = own weights n + held_below n.depth ps } ∷ behind n.depth ps)
held_more weights n ns ps h depth = elim (cases_Bool (nat_lt depth n.depth)) [
  | inl deep ↦
      let under : depth < n.depth = ltb-true depth n.depth deep in
      let parts = below_parts depth n.depth ps (omega arith) in
      let same = h depth in
      rw deep (omega (arith, parts, same))
  | inr flat ↦ rw flat refl
]

abbrev part_of : (depth whole : ℕ) → Part
part_of depth whole = record { depth = depth; whole = whole }

-- as it is pushed
pub pushed : (weights : List ℕ) (n : Node) (ns : List Node) (old mid new : List Part) (mine under whole : ℕ) → mine ≡ own weights n → under ≡ held_below n.depth old → mid ≡ behind n.depth old
    → whole ≡ mine + under → new ≡ part_of n.depth whole ∷ mid → AreHeld weights ns old → AreHeld weights (n ∷ ns) new
pushed weights n ns old mid new mine under whole a b m w e h =
    subst (λ (ps : List Part). AreHeld weights (n ∷ ns) ps)
    (sym (e ∙ ap₂ (λ (x : ℕ) (ps : List Part). part_of n.depth x ∷ ps) (w ∙ ap₂ (λ (x y : ℕ). x + y) a b) m)) (held_more weights n ns old h)

-- the node before those that are weighed
pub next_held : (weights : List ℕ) (nodes : List Node) (place : ℕ) (node : Node) (held new : List Part) (b : Branch) (found all : List Branch) → 0 < place → place ≤ length nodes
    → node ≡ get_or nodes (place - 1) node → AreHeld weights (drop place nodes) held → reverse found ≡ branches weights (drop place nodes)
    → branches weights (node ∷ drop place nodes) ≡ b ∷ branches weights (drop place nodes) → AreHeld weights (node ∷ drop place nodes) new → all ≡ found ++ b ∷ []
    → (place - 1 ≤ length nodes) × AreHeld weights (drop (place - 1) nodes) new × (reverse all ≡ branches weights (drop (place - 1) nodes))
next_held weights nodes place node held new b found all some low at h so_far branch more is =
    let back : place - 1 + 1 ≡ place = omega arith in
    let step : drop (place - 1) nodes ≡ node ∷ drop place nodes =
    drop_more nodes (place - 1) node (omega arith) ∙ ap₂ (λ (x : Node) (k : ℕ). x ∷ drop k nodes) (sym at) back in
    let turned : reverse all ≡ b ∷ reverse found = ap reverse is ∙ reverse-append found (b ∷ []) in (
      omega arith,
      subst (λ (ns : List Node). AreHeld weights ns new) (sym step) more,
      turned ∙ ap (λ (bs : List Branch). b ∷ bs) so_far ∙ sym branch ∙ ap (branches weights) (sym step),
    )
