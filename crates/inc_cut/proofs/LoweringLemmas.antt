-- The flow taken off along a chain, which is then counted.
use Rattle.std.proofs.Common.{◌≡◌, ℕ, ◌+◌, ◌-◌, ◌<◌, ◌≤◌, Bool, true, false, List, [], ◌∷◌, length, min, inl, inr, refl, sym, ap, ◌∙◌, arith}
use Rattle.std.specs.Prelude.{◌==◌, not, ◌⊎◌, slice_set, ⊤}
use Rattle.std.proofs.lemmas.List.{get_or-set_same, get_or-set_other, length-set}
use Rattle.std.proofs.lemmas.List.Sums.{sum_by-cons, sum_by-set}
use Rattle.std.proofs.lemmas.Bool.{cases_lt, cases_Bool, false≢true, eq-eqb, eqb-true, eqb-false, and_parts, or_cases, or_parts, or_left, or_right, not-true, both_ways}
use Rattle.inc_graph.specs.IncludeGraph.{Graph}
use Rattle.inc_graph.specs.Chains.{target, leaves, is_walk}
use Rattle.inc_graph.specs.Members.{is_member, is_distinct}
use Rattle.inc_cut.specs.Flows.{flow_by, flow_to, flow_from, source_of}
use Rattle.inc_cut.specs.Raising.{lowered, least_flow}
use Rattle.inc_cut.specs.Answers.{carrying}
use Rattle.inc_cut.proofs.FlowSums.{part, on_less}
use Rattle.inc_cut.proofs.SideLemmas.{source_at}

-- each edge is there and carries the amount
abbrev pub AllCarry : (flows : List ℕ) → ℕ → List ℕ → Type 0
AllCarry flows d [] = ⊤
AllCarry flows d (i ∷ is) = ((i < length flows) × (d ≤ flow_by flows i)) × AllCarry flows d is

pub lowered_other : (d : ℕ) (flows : List ℕ) (is : List ℕ) (j : ℕ) → is_member j is ≡ false → flow_by (lowered d flows is) j ≡ flow_by flows j
lowered_other d flows [] j apart = refl
lowered_other d flows (i ∷ is) j apart =
    let p = or_parts (i == j) (is_member j is) apart in
    lowered_other d (slice_set flows i (flow_by flows i - d)) is j p.1 ∙ get_or-set_other flows i j _ 0 (λ same. eqb-false i j p.0 (sym same))

pub carry_kept : (d : ℕ) (flows : List ℕ) (j : ℕ) (is : List ℕ) → is_member j is ≡ false → AllCarry flows d is → AllCarry (slice_set flows j (flow_by flows j - d)) d is
carry_kept d flows j [] apart all = all
carry_kept d flows j (i ∷ is) apart all =
    let p = or_parts (i == j) (is_member j is) apart in
    let x = get_or-set_other flows j i (flow_by flows j - d) 0 (eqb-false i j p.0) in
    let y = length-set flows j (flow_by flows j - d) in
    let low = all.0.0 in
    let more = all.0.1 in
    ((omega arith, omega arith), carry_kept d flows j is p.1 all.1)

pub length-lowered : (d : ℕ) (flows : List ℕ) (is : List ℕ) → length (lowered d flows is) ≡ length flows
length-lowered d flows [] = refl
length-lowered d flows (i ∷ is) = length-lowered d (slice_set flows i (flow_by flows i - d)) is ∙ length-set flows i _

-- an edge of the chain carries so much less
pub lowered_at : (d : ℕ) (flows : List ℕ) (is : List ℕ) (j : ℕ) → AllCarry flows d is → is_distinct is ≡ true → is_member j is ≡ true → flow_by (lowered d flows is) j + d ≡ flow_by flows j
lowered_at d flows [] j all distinct met = absurd (false≢true met)
lowered_at d flows (i ∷ is) j all distinct met =
    let p = and_parts (not (is_member i is)) (is_distinct is) distinct in
    let apart = not-true (is_member i is) p.0 in
    elim (or_cases (i == j) (is_member j is) met) [
      | inl here ↦
          let same = eqb-true i j here in
          let x = lowered_other d (slice_set flows i (flow_by flows i - d)) is j (ap (λ (n : ℕ). is_member n is) (sym same) ∙ apart) in
          let y = get_or-set_same flows i (flow_by flows i - d) 0 all.0.0 in
          let z : flow_by (slice_set flows i (flow_by flows i - d)) j ≡ flow_by (slice_set flows i (flow_by flows i - d)) i = ap (flow_by (slice_set flows i (flow_by flows i - d))) (sym same) in
          let w : flow_by flows j ≡ flow_by flows i = ap (flow_by flows) (sym same) in
          let more = all.0.1 in
          omega arith
      | inr later ↦
          let x = lowered_at d (slice_set flows i (flow_by flows i - d)) is j (carry_kept d flows i is apart all.1) p.1 later in
          let y = get_or-set_other flows i j (flow_by flows i - d) 0 (λ same. both_ways (is_member i is) apart (ap (λ (n : ℕ). is_member n is) (sym same) ∙ later)) in
          omega arith
    ]

pub lowered_most : (d : ℕ) (flows : List ℕ) (is : List ℕ) (j : ℕ) → AllCarry flows d is → is_distinct is ≡ true → flow_by (lowered d flows is) j ≤ flow_by flows j
lowered_most d flows is j all distinct = elim (cases_Bool (is_member j is)) [
  | inl met ↦ let x = lowered_at d flows is j all distinct met in omega arith
  | inr apart ↦ let x = lowered_other d flows is j apart in omega arith
]

---- how many edges have flow

pub carrying_most : (flows : List ℕ) → carrying flows ≤ length flows
carrying_most [] = omega arith
carrying_most (n ∷ ns) =
    let x = carrying_most ns in
    let e = sum_by-cons (λ (m : ℕ). min m 1) n ns in
    omega arith

lowered_carrying : (flows : List ℕ) (d : ℕ) (is : List ℕ) → AllCarry flows d is → is_distinct is ≡ true → carrying (lowered d flows is) ≤ carrying flows
lowered_carrying flows d [] all distinct = omega arith
lowered_carrying flows d (i ∷ is) all distinct =
    let p = and_parts (not (is_member i is)) (is_distinct is) distinct in
    let x = lowered_carrying (slice_set flows i (flow_by flows i - d)) d is (carry_kept d flows i is (not-true (is_member i is) p.0) all.1) p.1 in
    let y = sum_by-set (λ (n : ℕ). min n 1) flows i (flow_by flows i - d) 0 all.0.0 in
    omega arith

-- one less where an edge carries no more than is taken off
pub lowered_fewer : (flows : List ℕ) (d : ℕ) (is : List ℕ) (j : ℕ) → 1 ≤ d → AllCarry flows d is → is_distinct is ≡ true → is_member j is ≡ true → d ≡ flow_by flows j
    → carrying (lowered d flows is) + 1 ≤ carrying flows
lowered_fewer flows d [] j some all distinct met least = absurd (false≢true met)
lowered_fewer flows d (i ∷ is) j some all distinct met least =
    let p = and_parts (not (is_member i is)) (is_distinct is) distinct in
    let apart = not-true (is_member i is) p.0 in
    let left = carry_kept d flows i is apart all.1 in
    let y = sum_by-set (λ (n : ℕ). min n 1) flows i (flow_by flows i - d) 0 all.0.0 in
    elim (or_cases (i == j) (is_member j is) met) [
      | inl here ↦
          let x = lowered_carrying (slice_set flows i (flow_by flows i - d)) d is left p.1 in
          let w : flow_by flows j ≡ flow_by flows i = ap (flow_by flows) (sym (eqb-true i j here)) in
          omega arith
      | inr later ↦
          let other = get_or-set_other flows i j (flow_by flows i - d) 0 (λ same. both_ways (is_member i is) apart (ap (λ (n : ℕ). is_member n is) (sym same) ∙ later)) in
          let x = lowered_fewer (slice_set flows i (flow_by flows i - d)) d is j some left p.1 later (least ∙ sym other) in
          omega arith
    ]

---- the balance of each side

pub lower_walk : (g : Graph) (inside : ℕ → Bool) (flows : List ℕ) (d a b : ℕ) (is : List ℕ) → is_walk g a is b ≡ true → AllCarry flows d is → is_distinct is ≡ true
    → flow_from g (flow_by (lowered d flows is)) inside + flow_to g (flow_by flows) inside + part inside a d
    ≡ flow_from g (flow_by flows) inside + flow_to g (flow_by (lowered d flows is)) inside + part inside b d
lower_walk g inside flows d a b [] walk all distinct =
    let e : part inside a d ≡ part inside b d = ap (λ (f : ℕ). part inside f d) (eqb-true a b walk) in
    omega arith
lower_walk g inside flows d a b (i ∷ is) walk all distinct =
    let p = and_parts (leaves g a i) (is_walk g (target g i) is b) walk in
    let s = source_at g a i p.0 in
    let u = and_parts (not (is_member i is)) (is_distinct is) distinct in
    let x = on_less flows i d (length g.edges) (λ j. inside (source_of g j)) all.0.0 s.1 all.0.1 in
    let y = on_less flows i d (length g.edges) (λ j. inside (target g j)) all.0.0 s.1 all.0.1 in
    let z = lower_walk g inside (slice_set flows i (flow_by flows i - d)) d (target g i) b is p.1 (carry_kept d flows i is (not-true (is_member i is) u.0) all.1) u.1 in
    let w : part inside (source_of g i) d ≡ part inside a d = ap (λ (f : ℕ). part inside f d) s.0 in
    omega arith

---- the least flow

pub least_flow_most : (flows : List ℕ) (n : ℕ) (is : List ℕ) → least_flow flows n is ≤ n
least_flow_most flows n [] = omega arith
least_flow_most flows n (i ∷ is) = let x = least_flow_most flows (min n (flow_by flows i)) is in omega arith

-- some edge carries no more than the least, or the least is the number
pub least_flow_at : (flows : List ℕ) (n : ℕ) (is : List ℕ)
    → (least_flow flows n is ≡ n) ⊎ ((j : ℕ) × (is_member j is ≡ true) × (least_flow flows n is ≡ flow_by flows j))
least_flow_at flows n [] = inl refl
least_flow_at flows n (i ∷ is) = elim (least_flow_at flows (min n (flow_by flows i)) is) [
  | inl first ↦ elim (cases_lt n (flow_by flows i)) [
    | inl less ↦ inl (omega arith)
    | inr more ↦ inr (i, or_left (i == i) (is_member i is) (eq-eqb i i refl), omega arith)
  ]
  | inr later ↦ inr (later.0, or_right (i == later.0) (is_member later.0 is) later.1, later.2)
]

-- a chain of edges with flow
abbrev pub AllFlow : (flows : List ℕ) → List ℕ → Type 0
AllFlow flows [] = ⊤
AllFlow flows (i ∷ is) = ((i < length flows) × (1 ≤ flow_by flows i)) × AllFlow flows is

pub carry_least : (flows : List ℕ) (d n : ℕ) (is : List ℕ) → AllFlow flows is → d ≤ least_flow flows n is → AllCarry flows d is
carry_least flows d n [] all less = all
carry_least flows d n (i ∷ is) all less =
    let x = least_flow_most flows (min n (flow_by flows i)) is in
    let low = all.0.0 in
    ((low, omega arith), carry_least flows d (min n (flow_by flows i)) is all.1 less)

pub least_flow_one : (flows : List ℕ) (n : ℕ) (is : List ℕ) → 1 ≤ n → AllFlow flows is → 1 ≤ least_flow flows n is
least_flow_one flows n [] some all = some
least_flow_one flows n (i ∷ is) some all =
    let more = all.0.1 in
    least_flow_one flows (min n (flow_by flows i)) is (omega arith) all.1

pub flow_member : (flows : List ℕ) (is : List ℕ) (j : ℕ) → AllFlow flows is → is_member j is ≡ true → (j < length flows) × (1 ≤ flow_by flows j)
flow_member flows [] j all met = absurd (false≢true met)
flow_member flows (i ∷ is) j all met = elim (or_cases (i == j) (is_member j is) met) [
  | inl here ↦
      let same = eqb-true i j here in
      let w : flow_by flows j ≡ flow_by flows i = ap (flow_by flows) (sym same) in
      let low = all.0.0 in
      let more = all.0.1 in
      (omega arith, omega arith)
  | inr later ↦ flow_member flows is j all.1 later
]
