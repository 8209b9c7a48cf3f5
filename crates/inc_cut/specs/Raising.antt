-- The flow raised along steps, and taken off edges.
use Rattle.std.specs.Prelude.{◌≡◌, ℕ, ◌+◌, ◌-◌, ◌^◌, ◌<◌, ◌≤◌, Bool, true, false, nat_le, List, [], ◌∷◌, length, slice_set, if◌then◌else◌, min, ⊤}
use Rattle.inc_graph.specs.Cuts.{fixed_by, costs_by}
use Rattle.inc_cut.specs.declared.flows.Step.{Step}
use Rattle.inc_cut.specs.Flows.{flow_by}

-- with an amount more on the edge of a step, or with so much less where the step leads back
abbrev pub stepped : ℕ → List ℕ → Step → List ℕ
stepped d flows s = slice_set flows s.edge (if s.forward then flow_by flows s.edge + d else flow_by flows s.edge - d)

abbrev pub raised : ℕ → List ℕ → List Step → List ℕ
raised d flows [] = flows
raised d flows (s ∷ ss) = raised d (stepped d flows s) ss

-- the amount can be put on the edge of a step, or be taken off it
pub record IsSteppable (d : ℕ) (flows : List ℕ) (s : Step) : Type 0 where
  pub within : s.edge < length flows
  pub ahead : s.forward ≡ true → flow_by flows s.edge + d < 2 ^ 64
  pub back : s.forward ≡ false → d ≤ flow_by flows s.edge

-- one step after the other
abbrev pub IsRaisable : ℕ → List ℕ → List Step → Type 0
IsRaisable d flows [] = ⊤
IsRaisable d flows (s ∷ ss) = IsSteppable d flows s × IsRaisable d (stepped d flows s) ss

-- over edges below a number
abbrev pub AreStepsWithin : ℕ → List Step → Type 0
AreStepsWithin n [] = ⊤
AreStepsWithin n (s ∷ ss) = (s.edge < n) × AreStepsWithin n ss

-- how much more can flow by a step: no bound but that of the number where the edge is fixed
abbrev pub room : (amounts flows : List ℕ) → Step → ℕ
room amounts flows s =
    if s.forward then (if fixed_by amounts s.edge then 2 ^ 64 - 1 else costs_by amounts s.edge - flow_by flows s.edge) else flow_by flows s.edge

-- a step with room for an amount
abbrev pub is_wide : (amounts flows : List ℕ) → (least : ℕ) → Step → Bool
is_wide amounts flows least s = nat_le least (room amounts flows s)

-- the least of the room on steps and a number
abbrev pub least_room : (amounts flows : List ℕ) → ℕ → List Step → ℕ
least_room amounts flows least [] = least
least_room amounts flows least (s ∷ ss) = least_room amounts flows (min least (room amounts flows s)) ss

-- with an amount less on each of these edges
abbrev pub lowered : ℕ → List ℕ → (edges : List ℕ) → List ℕ
lowered d flows [] = flows
lowered d flows (i ∷ is) = lowered d (slice_set flows i (flow_by flows i - d)) is

-- the amount can be taken off the edges, one after the other
abbrev pub IsLowerable : ℕ → List ℕ → (edges : List ℕ) → Type 0
IsLowerable d flows [] = ⊤
IsLowerable d flows (i ∷ is) = ((i < length flows) × (d ≤ flow_by flows i)) × IsLowerable d (slice_set flows i (flow_by flows i - d)) is

-- edges below a number
abbrev pub AreEdgesWithin : ℕ → List ℕ → Type 0
AreEdgesWithin n [] = ⊤
AreEdgesWithin n (i ∷ is) = (i < n) × AreEdgesWithin n is

-- the least flow on edges, or a number
abbrev pub least_flow : (flows : List ℕ) → ℕ → (edges : List ℕ) → ℕ
least_flow flows least [] = least
least_flow flows least (i ∷ is) = least_flow flows (min least (flow_by flows i)) is
