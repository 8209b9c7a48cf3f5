-- The least room on a path: so much more can flow along it.
use Rattle.std.proofs.Common.{◌≡◌, ℕ, ◌+◌, ◌-◌, ◌^◌, ◌<◌, ◌≤◌, Bool, true, false, List, [], ◌∷◌, length, min, inl, inr, refl, sym, ◌∙◌, arith}
use Rattle.std.specs.Prelude.{nat_lt, ◌==◌, if◌then◌else◌}
use Rattle.std.proofs.Math.ListN.{replicate}
use Rattle.std.proofs.lemmas.List.{get_or-replicate, get_or_past, length-replicate}
use Rattle.std.proofs.lemmas.Bool.{and_parts, or_cases, ltb-true, false≢true, cases_Bool, cases_lt}
use Rattle.inc_graph.specs.IncludeGraph.{Graph}
use Rattle.inc_graph.specs.Chains.{target}
use Rattle.inc_graph.specs.Cuts.{fixed_by, costs_by}
use Rattle.inc_graph.proofs.AmountLists.{costs_most}
use Rattle.inc_cut.specs.declared.flows.Step.{Step}
use Rattle.inc_cut.specs.Flows.{AreFor, flow_by, source_of, step_from, step_to, is_walk_by, is_path_by, is_open_by, IsFlow}
use Rattle.inc_cut.specs.Raising.{raised, IsRaisable, AreStepsWithin, room, least_room}
use Rattle.inc_cut.specs.Answers.{IsCuttable, CanRaise, IsRaised}
use Rattle.inc_cut.proofs.FlowSums.{part, sum_range_same}
use Rattle.inc_cut.proofs.SideLemmas.{value_bound}
use Rattle.inc_cut.proofs.RaisingLemmas.{HasRoom, AllRoom, edges_apart, raisable, raised_flow, length-raised}
use Rattle.inc_cut.proofs.PathEnds.{path_parts}

pub room_free : (amounts flows : List ℕ) (e : ℕ) → fixed_by amounts e ≡ false → room amounts flows (record { edge = e; forward = true }) ≡ costs_by amounts e - flow_by flows e
room_free amounts flows e free = rw free refl

pub room_fixed : (amounts flows : List ℕ) (e : ℕ) → fixed_by amounts e ≡ true → room amounts flows (record { edge = e; forward = true }) ≡ 2 ^ 64 - 1
room_fixed amounts flows e fixed = rw fixed refl

-- where there is room for an amount
has_room : (amounts flows : List ℕ) (d e : ℕ) (way : Bool) → ((i : ℕ) → fixed_by amounts i ≡ false → flow_by flows i ≤ costs_by amounts i) → e < length flows
    → d ≤ room amounts flows (record { edge = e; forward = way }) → HasRoom amounts flows d (record { edge = e; forward = way })
has_room amounts flows d e true within low fits = record {
  within = low;
  ahead = λ way free. let x = within e free in let y = room_free amounts flows e free in omega arith;
  back = λ way. absurd (false≢true (sym way));
}
has_room amounts flows d e false within low fits = record {
  within = low;
  ahead = λ way free. absurd (false≢true way);
  back = λ way. fits;
}

pub least_most : (amounts flows : List ℕ) (n : ℕ) (ss : List Step) → least_room amounts flows n ss ≤ n
least_most amounts flows n [] = omega arith
least_most amounts flows n (s ∷ ss) = let x = least_most amounts flows (min n (room amounts flows s)) ss in omega arith

pub all_room : (g : Graph) (test : Step → Bool) (amounts flows : List ℕ) (d n a b : ℕ) (ss : List Step) → AreFor g amounts flows
    → ((i : ℕ) → fixed_by amounts i ≡ false → flow_by flows i ≤ costs_by amounts i) → is_walk_by g test a ss b ≡ true
    → d ≤ least_room amounts flows n ss → AllRoom amounts flows d ss
all_room g test amounts flows d n a b [] are within walk less = tt
all_room g test amounts flows d n a b (s ∷ ss) are within walk less =
    let p = and_parts (nat_lt s.edge (length g.edges)) _ walk in
    let q = and_parts (test s) _ p.1 in
    let r = and_parts (step_from g s == a) (is_walk_by g test (step_to g s) ss b) q.1 in
    let x = least_most amounts flows (min n (room amounts flows s)) ss in
    let low = ltb-true s.edge (length g.edges) p.0 in
    let long = are.flows_long in (
      has_room amounts flows d s.edge s.forward within (omega arith) (omega arith),
      all_room g test amounts flows d (min n (room amounts flows s)) (step_to g s) b ss are within r.1 less,
    )

open_room : (amounts flows : List ℕ) (e : ℕ) (way : Bool) → is_open_by amounts flows (record { edge = e; forward = way }) ≡ true → 1 ≤ room amounts flows (record { edge = e; forward = way })
open_room amounts flows e true open' =
    elim (cases_Bool (fixed_by amounts e)) [
      | inl fixed ↦ let x = room_fixed amounts flows e fixed in omega arith
      | inr free ↦
          let x = room_free amounts flows e free in
          elim (or_cases (fixed_by amounts e) (nat_lt (flow_by flows e) (costs_by amounts e)) open') [
            | inl fixed ↦ absurd (false≢true (sym free ∙ fixed))
            | inr less ↦ let y = ltb-true (flow_by flows e) (costs_by amounts e) less in omega arith
          ]
    ]
open_room amounts flows e false open' = let x = ltb-true 0 (flow_by flows e) open' in omega arith

-- along open steps at least 1
pub least_one : (g : Graph) (amounts flows : List ℕ) (n a b : ℕ) (ss : List Step) → 1 ≤ n → is_walk_by g (is_open_by amounts flows) a ss b ≡ true → 1 ≤ least_room amounts flows n ss
least_one g amounts flows n a b [] some walk = some
least_one g amounts flows n a b (s ∷ ss) some walk =
    let p = and_parts (nat_lt s.edge (length g.edges)) _ walk in
    let q = and_parts (is_open_by amounts flows s) _ p.1 in
    let r = and_parts (step_from g s == a) (is_walk_by g (is_open_by amounts flows) (step_to g s) ss b) q.1 in
    let x = open_room amounts flows s.edge s.forward q.0 in
    least_one g amounts flows (min n (room amounts flows s)) (step_to g s) b ss (omega arith) r.1

---- the flow raised by the least room

pub steps_within : (g : Graph) (test : Step → Bool) (m a b : ℕ) (ss : List Step) → m ≡ length g.edges → is_walk_by g test a ss b ≡ true → AreStepsWithin m ss
steps_within g test m a b [] is walk = tt
steps_within g test m a b (s ∷ ss) is walk =
    let p = and_parts (nat_lt s.edge (length g.edges)) _ walk in
    let q = and_parts (test s) _ p.1 in
    let r = and_parts (step_from g s == a) (is_walk_by g test (step_to g s) ss b) q.1 in
    let low = ltb-true s.edge (length g.edges) p.0 in
    (omega arith, steps_within g test m (step_to g s) b ss is r.1)

pub most_sound : (g : Graph) (amounts flows : List ℕ) (value : ℕ) → IsCuttable g amounts → IsFlow g amounts flows value → value ≤ 1_000_000_000_000
most_sound g amounts flows value c f =
    let x = value_bound g amounts flows value c.inside f c.barrier (costs_most amounts c.costs) in
    let y = (c.sound).sized in
    omega arith

pub record IsRaise (g : Graph) (amounts flows : List ℕ) (value d : ℕ) (ss : List Step) : Type 0 where
  pub raisable : IsRaisable d flows ss
  pub raised : IsRaised g amounts (raised d flows ss) value d

pub raise_is : (g : Graph) (amounts flows : List ℕ) (value : ℕ) (ss : List Step) → CanRaise g amounts flows value ss
    → IsRaise g amounts flows value (least_room amounts flows (2 ^ 64 - 1) ss) ss
raise_is g amounts flows value ss c =
    let d = least_room amounts flows (2 ^ 64 - 1) ss in
    let f = c.flow in
    let p = path_parts g (is_open_by amounts flows) ss c.path in
    let all = all_room g (is_open_by amounts flows) amounts flows d (2 ^ 64 - 1) p.source p.header ss c.are f.within p.walk (omega arith) in
    let new = raised_flow g (is_open_by amounts flows) amounts flows value d ss f c.path all in
    let most = most_sound g amounts (raised d flows ss) (value + d) c.cuttable new in
    let distinct = edges_apart g (is_open_by amounts flows) p.source p.header ss p.walk p.distinct in
    let long = length-raised d flows ss in
    let are = c.are in
    record {
      raisable = raisable amounts flows d ss all distinct (λ i met. let x = f.most i in omega arith);
      raised = record {
        some = least_one g amounts flows (2 ^ 64 - 1) p.source p.header ss (omega arith) p.walk;
        are = record { amounts_long = are.amounts_long; flows_long = long ∙ are.flows_long };
        flow = new;
        most = most;
      };
    }

-- an open path, by the list that the code has read
pub raisable_as : (g : Graph) (amounts flows : List ℕ) (value : ℕ) (steps seen : List Step) → IsCuttable g amounts → AreFor g amounts flows → IsFlow g amounts flows value
    → is_path_by g (is_open_by amounts flows) steps ≡ true → seen ≡ steps → CanRaise g amounts flows value seen
raisable_as g amounts flows value steps seen cuttable are flow path is = rw is (record { cuttable = cuttable; are = are; flow = flow; path = path })

---- no flow

none_at : (n i : ℕ) → flow_by (replicate n 0) i ≡ 0
none_at n i = elim (cases_lt i n) [
  | inl less ↦ get_or-replicate n i 0 0 less
  | inr more ↦ get_or_past (replicate n 0) i 0 (omega (arith, length-replicate {A = ℕ} n 0))
]

if_none : (b c : Bool) (n : ℕ) → n ≡ 0 → (if b then n else 0) ≡ (if c then n else 0)
if_none true true n is = refl
if_none true false n is = is
if_none false true n is = sym is
if_none false false n is = refl

pub none_flow : (g : Graph) (amounts : List ℕ) (n : ℕ) → IsFlow g amounts (replicate n 0) 0
none_flow g amounts n = record {
  within = λ i free. let x = none_at n i in omega arith;
  most = λ i. let x = none_at n i in omega arith;
  balanced = λ inside side.
      let x = sum_range_same (λ i. part (λ j. inside (target g j)) i (flow_by (replicate n 0) i)) (λ i. part (λ j. inside (source_of g j)) i (flow_by (replicate n 0) i)) 0 (length g.edges)
      (λ i low high. if_none (inside (target g i)) (inside (source_of g i)) (flow_by (replicate n 0) i) (none_at n i)) in
      omega arith;
}
