-- What waits for the nodes above it, where the nodes of a tree are weighed from the last to the first.
use Rattle.std.specs.Prelude.{◌≡◌, ℕ, ◌+◌, List, [], ◌∷◌, if◌then◌else◌, nat_lt}
use Rattle.inc_cost.specs.Trees.{below}
use Rattle.inc_cost.specs.declared.branches.Part.{Part}
use Rattle.inc_cost.specs.declared.trees.Node.{Node}

-- what the first parts weigh, up to one that is no deeper than this
abbrev pub held_below : (depth : ℕ) → List Part → ℕ
held_below depth [] = 0
held_below depth (p ∷ ps) = if nat_lt depth p.depth then p.whole + held_below depth ps else 0

-- the parts from that one on
abbrev pub behind : (depth : ℕ) → List Part → List Part
behind depth [] = []
behind depth (p ∷ ps) = if nat_lt depth p.depth then behind depth ps else p ∷ ps

-- as much is below each depth by the parts as by the nodes
abbrev pub AreHeld : (weights : List ℕ) → List Node → List Part → Type 0
AreHeld weights ns ps = (depth : ℕ) → below weights depth ns ≡ held_below depth ps
