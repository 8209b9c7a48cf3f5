-- The flow raised along a path: it stays a flow, and its value rises by as much.
use Rattle.std.proofs.Common.{◌≡◌, ℕ, ◌+◌, ◌-◌, ◌^◌, ◌<◌, ◌≤◌, Bool, true, false, List, [], ◌∷◌, length, map, inl, inr, refl, sym, ap, ◌∙◌, arith}
use Rattle.std.specs.Prelude.{nat_lt, ◌==◌, not, ◌⊎◌, if◌then◌else◌, ⊤}
use Rattle.std.proofs.lemmas.List.{get_or-set_same, get_or-set_other, length-set}
use Rattle.std.proofs.lemmas.Bool.{cases_eq, cases_Bool, false≢true, true≢false, eq-eqb, eqb-true, eqb-false, and_parts, and_from, or_cases, or_parts, or_left, or_right, not_from_false, not-true, ltb-true, both_ways}
use Rattle.inc_graph.specs.IncludeGraph.{Graph}
use Rattle.inc_graph.specs.Chains.{target}
use Rattle.inc_graph.specs.Members.{is_member, is_distinct}
use Rattle.inc_graph.specs.Cuts.{fixed_by, costs_by}
use Rattle.inc_cut.specs.declared.flows.Step.{Step}
use Rattle.inc_cut.specs.Flows.{flow_by, flow_to, flow_from, source_of, step_from, step_to, is_walk_by, is_path_by, IsFlow}
use Rattle.inc_cut.specs.Raising.{stepped, raised, IsRaisable}
use Rattle.inc_cut.proofs.FlowSums.{part, on_more, on_less}
use Rattle.inc_cut.proofs.PathEnds.{path_parts}

abbrev pub edges_of : List Step → List ℕ
edges_of ss = map (λ (s : Step). s.edge) ss

---- a path has no edge twice

-- a step over an edge that is among those of a walk
pub step_at : (g : Graph) (test : Step → Bool) (c b e : ℕ) (ss : List Step) → is_walk_by g test c ss b ≡ true → is_member e (edges_of ss) ≡ true
    → (t : Step) × (t.edge ≡ e) × (test t ≡ true) × (nat_lt e (length g.edges) ≡ true) × (is_member (step_to g t) (map (step_to g) ss) ≡ true)
step_at g test c b e [] walk met = absurd (false≢true met)
step_at g test c b e (s ∷ ss) walk met =
    let p = and_parts (nat_lt s.edge (length g.edges)) _ walk in
    let q = and_parts (test s) _ p.1 in
    let r = and_parts (step_from g s == c) (is_walk_by g test (step_to g s) ss b) q.1 in
    elim (or_cases (s.edge == e) (is_member e (edges_of ss)) met) [
      | inl here ↦
          let is = eqb-true s.edge e here in
          (s, is, q.0, ap (λ (i : ℕ). nat_lt i (length g.edges)) (sym is) ∙ p.0, or_left (step_to g s == step_to g s) _ (eq-eqb (step_to g s) (step_to g s) refl))
      | inr later ↦
          let t = step_at g test (step_to g s) b e ss r.1 later in
          (t.0, t.1, t.2, t.3, or_right (step_to g s == step_to g t.0) _ t.4)
    ]

same_way : (g : Graph) (s t : Step) → t.edge ≡ s.edge → t.forward ≡ s.forward → step_to g t ≡ step_to g s
same_way g s t edge way = cc

other_way : (g : Graph) (e i : ℕ) (x y : Bool) → i ≡ e → (x ≡ y → ⊥) → step_to g (record { edge = i; forward = x }) ≡ step_from g (record { edge = e; forward = y })
other_way g e i true true is other = absurd (other refl)
other_way g e i true false is other = ap (target g) is
other_way g e i false true is other = ap (source_of g) is
other_way g e i false false is other = absurd (other refl)

cases_way : (x y : Bool) → (x ≡ y) ⊎ (x ≡ y → ⊥)
cases_way true true = inl refl
cases_way true false = inr true≢false
cases_way false true = inr false≢true
cases_way false false = inl refl

pub edges_apart : (g : Graph) (test : Step → Bool) (a b : ℕ) (ss : List Step) → is_walk_by g test a ss b ≡ true → is_distinct (a ∷ map (step_to g) ss) ≡ true
    → is_distinct (edges_of ss) ≡ true
edges_apart g test a b [] walk distinct = refl
edges_apart g test a b (s ∷ ss) walk distinct =
    let p = and_parts (nat_lt s.edge (length g.edges)) _ walk in
    let q = and_parts (test s) _ p.1 in
    let r = and_parts (step_from g s == a) (is_walk_by g test (step_to g s) ss b) q.1 in
    let d = and_parts (not (is_member a (map (step_to g) (s ∷ ss)))) (is_distinct (map (step_to g) (s ∷ ss))) distinct in
    let apart : is_member a (map (step_to g) ss) ≡ false = (or_parts (step_to g s == a) _ (not-true (is_member a (map (step_to g) (s ∷ ss))) d.0)).1 in
    let later = and_parts (not (is_member (step_to g s) (map (step_to g) ss))) (is_distinct (map (step_to g) ss)) d.1 in
    let once : is_member s.edge (edges_of ss) ≡ false = elim (cases_Bool (is_member s.edge (edges_of ss))) [
      | inr out ↦ out
      | inl met ↦
          let t = step_at g test (step_to g s) b s.edge ss r.1 met in
          absurd (elim (cases_way t.0.forward s.forward) [
            | inl same ↦
                both_ways (is_member (step_to g s) (map (step_to g) ss)) (not-true (is_member (step_to g s) (map (step_to g) ss)) later.0)
                (ap (λ (f : ℕ). is_member f (map (step_to g) ss)) (sym (same_way g s t.0 t.1 same)) ∙ t.4)
            | inr other ↦
                both_ways (is_member a (map (step_to g) ss)) apart
                (ap (λ (f : ℕ). is_member f (map (step_to g) ss)) (sym (other_way g s.edge t.0.edge t.0.forward s.forward t.1 other ∙ eqb-true (step_from g s) a r.0)) ∙ t.4)
          ])
    ] in
    and_from (not (is_member s.edge (edges_of ss))) (is_distinct (edges_of ss)) (not_from_false (is_member s.edge (edges_of ss)) once) (edges_apart g test (step_to g s) b ss r.1 d.1)

---- what the steps leave room for

-- the edge of the step is there, and the amount fits on it, or can be taken off it
pub record HasRoom (amounts flows : List ℕ) (d : ℕ) (s : Step) : Type 0 where
  pub within : s.edge < length flows
  pub ahead : s.forward ≡ true → fixed_by amounts s.edge ≡ false → flow_by flows s.edge + d ≤ costs_by amounts s.edge
  pub back : s.forward ≡ false → d ≤ flow_by flows s.edge

abbrev pub AllRoom : (amounts flows : List ℕ) → ℕ → List Step → Type 0
AllRoom amounts flows d [] = ⊤
AllRoom amounts flows d (s ∷ ss) = HasRoom amounts flows d s × AllRoom amounts flows d ss

pub stepped_other : (d : ℕ) (flows : List ℕ) (s : Step) (i : ℕ) → (i ≡ s.edge → ⊥) → flow_by (stepped d flows s) i ≡ flow_by flows i
stepped_other d flows s i other = get_or-set_other flows s.edge i _ 0 other

pub stepped_here : (d : ℕ) (flows : List ℕ) (s : Step) → s.edge < length flows
    → flow_by (stepped d flows s) s.edge ≡ (if s.forward then flow_by flows s.edge + d else flow_by flows s.edge - d)
stepped_here d flows s low = get_or-set_same flows s.edge _ 0 low

pub length-stepped : (d : ℕ) (flows : List ℕ) (s : Step) → length (stepped d flows s) ≡ length flows
length-stepped d flows s = length-set flows s.edge _

room_at : (amounts flows flows2 : List ℕ) (d : ℕ) (s : Step) → length flows2 ≡ length flows → flow_by flows2 s.edge ≡ flow_by flows s.edge → HasRoom amounts flows d s → HasRoom amounts flows2 d s
room_at amounts flows flows2 d s long same r = record {
  within = let w = r.within in omega arith;
  ahead = λ way free. let w = r.ahead way free in omega arith;
  back = λ way. let w = r.back way in omega arith;
}

pub room_kept : (amounts flows : List ℕ) (d : ℕ) (s : Step) (ss : List Step) → is_member s.edge (edges_of ss) ≡ false → AllRoom amounts flows d ss → AllRoom amounts (stepped d flows s) d ss
room_kept amounts flows d s [] apart all = all
room_kept amounts flows d s (t ∷ ts) apart all =
    let p = or_parts (t.edge == s.edge) (is_member s.edge (edges_of ts)) apart in (
      room_at amounts flows (stepped d flows s) d t (length-stepped d flows s) (stepped_other d flows s t.edge (eqb-false t.edge s.edge p.0)) all.0,
      room_kept amounts flows d s ts p.1 all.1,
    )

pub raised_other : (d : ℕ) (flows : List ℕ) (ss : List Step) (i : ℕ) → is_member i (edges_of ss) ≡ false → flow_by (raised d flows ss) i ≡ flow_by flows i
raised_other d flows [] i apart = refl
raised_other d flows (s ∷ ss) i apart =
    let p = or_parts (s.edge == i) (is_member i (edges_of ss)) apart in
    raised_other d (stepped d flows s) ss i p.1 ∙ stepped_other d flows s i (λ is. eqb-false s.edge i p.0 (sym is))

pub length-raised : (d : ℕ) (flows : List ℕ) (ss : List Step) → length (raised d flows ss) ≡ length flows
length-raised d flows [] = refl
length-raised d flows (s ∷ ss) = length-raised d (stepped d flows s) ss ∙ length-stepped d flows s

chosen_most : (b : Bool) (y d : ℕ) → (if b then y + d else y - d) ≤ y + d
chosen_most true y d = omega arith
chosen_most false y d = omega arith

pub raised_most : (amounts flows : List ℕ) (d : ℕ) (ss : List Step) (i : ℕ) → AllRoom amounts flows d ss → is_distinct (edges_of ss) ≡ true → flow_by (raised d flows ss) i ≤ flow_by flows i + d
raised_most amounts flows d [] i all distinct = omega arith
raised_most amounts flows d (s ∷ ss) i all distinct =
    let p = and_parts (not (is_member s.edge (edges_of ss))) (is_distinct (edges_of ss)) distinct in
    let apart = not-true (is_member s.edge (edges_of ss)) p.0 in
    elim (cases_eq i s.edge) [
      | inl is ↦
          let x = raised_other d (stepped d flows s) ss i (ap (λ (j : ℕ). is_member j (edges_of ss)) is ∙ apart) in
          let y : flow_by (stepped d flows s) i ≡ flow_by (stepped d flows s) s.edge = ap (flow_by (stepped d flows s)) is in
          let z = stepped_here d flows s all.0.within in
          let w = chosen_most s.forward (flow_by flows s.edge) d in
          let v : flow_by flows i ≡ flow_by flows s.edge = ap (flow_by flows) is in
          omega arith
      | inr other ↦
          let x = raised_most amounts (stepped d flows s) d ss i (room_kept amounts flows d s ss apart all.1) p.1 in
          let y = stepped_other d flows s i other in
          omega arith
    ]

chosen_within : (b : Bool) (y d c : ℕ) → (b ≡ true → y + d ≤ c) → y ≤ c → (if b then y + d else y - d) ≤ c
chosen_within true y d c up low = up refl
chosen_within false y d c up low = omega arith

pub raised_within : (amounts flows : List ℕ) (d : ℕ) (ss : List Step) → ((i : ℕ) → fixed_by amounts i ≡ false → flow_by flows i ≤ costs_by amounts i)
    → AllRoom amounts flows d ss → is_distinct (edges_of ss) ≡ true → (i : ℕ) → fixed_by amounts i ≡ false → flow_by (raised d flows ss) i ≤ costs_by amounts i
raised_within amounts flows d [] within all distinct i free = within i free
raised_within amounts flows d (s ∷ ss) within all distinct i free =
    let p = and_parts (not (is_member s.edge (edges_of ss))) (is_distinct (edges_of ss)) distinct in
    let apart = not-true (is_member s.edge (edges_of ss)) p.0 in
    raised_within amounts (stepped d flows s) d ss (λ j free2. elim (cases_eq j s.edge) [
      | inl is ↦
          let y : flow_by (stepped d flows s) j ≡ flow_by (stepped d flows s) s.edge = ap (flow_by (stepped d flows s)) is in
          let z = stepped_here d flows s all.0.within in
          let u = within j free2 in
          let v : flow_by flows j ≡ flow_by flows s.edge = ap (flow_by flows) is in
          let c : costs_by amounts j ≡ costs_by amounts s.edge = ap (costs_by amounts) is in
          let w = chosen_within s.forward (flow_by flows s.edge) d (costs_by amounts s.edge)
          (λ way. all.0.ahead way (ap (fixed_by amounts) (sym is) ∙ free2)) (omega arith) in
          omega arith
      | inr other ↦ let y = stepped_other d flows s j other in let u = within j free2 in omega arith
    ]) (room_kept amounts flows d s ss apart all.1) p.1 i free

-- so the steps can be made one after the other
pub raisable : (amounts flows : List ℕ) (d : ℕ) (ss : List Step) → AllRoom amounts flows d ss → is_distinct (edges_of ss) ≡ true
    → ((i : ℕ) → is_member i (edges_of ss) ≡ true → flow_by flows i + d < 2 ^ 64) → IsRaisable d flows ss
raisable amounts flows d [] all distinct fits = all
raisable amounts flows d (s ∷ ss) all distinct fits =
    let p = and_parts (not (is_member s.edge (edges_of ss))) (is_distinct (edges_of ss)) distinct in
    let apart = not-true (is_member s.edge (edges_of ss)) p.0 in (
      record {
        within = all.0.within;
        ahead = λ way. fits s.edge (or_left (s.edge == s.edge) _ (eq-eqb s.edge s.edge refl));
        back = all.0.back;
      },
      raisable amounts (stepped d flows s) d ss (room_kept amounts flows d s ss apart all.1) p.1
          (λ i met.
          let x = fits i (or_right (s.edge == i) (is_member i (edges_of ss)) met) in
          let y = stepped_other d flows s i (λ is. both_ways (is_member i (edges_of ss)) (ap (λ (j : ℕ). is_member j (edges_of ss)) is ∙ apart) met) in
          omega arith),
    )

---- the balance of each side

-- one more flows out of the side where the step begins inside, and one more into it where the step ends inside
raise_step : (g : Graph) (inside : ℕ → Bool) (amounts flows : List ℕ) (d e : ℕ) (way : Bool) → HasRoom amounts flows d (record { edge = e; forward = way }) → e < length g.edges
    → flow_from g (flow_by (stepped d flows (record { edge = e; forward = way }))) inside + flow_to g (flow_by flows) inside + part inside (step_to g (record { edge = e; forward = way })) d
    ≡ flow_from g (flow_by flows) inside + flow_to g (flow_by (stepped d flows (record { edge = e; forward = way }))) inside + part inside (step_from g (record { edge = e; forward = way })) d
raise_step g inside amounts flows d e true r low =
    let x = on_more flows e d (length g.edges) (λ i. inside (source_of g i)) r.within low in
    let y = on_more flows e d (length g.edges) (λ i. inside (target g i)) r.within low in
    omega arith
raise_step g inside amounts flows d e false r low =
    let x = on_less flows e d (length g.edges) (λ i. inside (source_of g i)) r.within low (r.back refl) in
    let y = on_less flows e d (length g.edges) (λ i. inside (target g i)) r.within low (r.back refl) in
    omega arith

pub raise_walk : (g : Graph) (test : Step → Bool) (inside : ℕ → Bool) (amounts flows : List ℕ) (d a b : ℕ) (ss : List Step) → is_walk_by g test a ss b ≡ true
    → AllRoom amounts flows d ss → is_distinct (edges_of ss) ≡ true
    → flow_from g (flow_by (raised d flows ss)) inside + flow_to g (flow_by flows) inside + part inside b d
    ≡ flow_from g (flow_by flows) inside + flow_to g (flow_by (raised d flows ss)) inside + part inside a d
raise_walk g test inside amounts flows d a b [] walk all distinct =
    let e : part inside a d ≡ part inside b d = ap (λ (f : ℕ). part inside f d) (eqb-true a b walk) in
    omega arith
raise_walk g test inside amounts flows d a b (s ∷ ss) walk all distinct =
    let p = and_parts (nat_lt s.edge (length g.edges)) _ walk in
    let q = and_parts (test s) _ p.1 in
    let r = and_parts (step_from g s == a) (is_walk_by g test (step_to g s) ss b) q.1 in
    let u = and_parts (not (is_member s.edge (edges_of ss))) (is_distinct (edges_of ss)) distinct in
    let apart = not-true (is_member s.edge (edges_of ss)) u.0 in
    let x = raise_step g inside amounts flows d s.edge s.forward all.0 (ltb-true s.edge (length g.edges) p.0) in
    let y = raise_walk g test inside amounts (stepped d flows s) d (step_to g s) b ss r.1 (room_kept amounts flows d s ss apart all.1) u.1 in
    let z : part inside (step_from g s) d ≡ part inside a d = ap (λ (f : ℕ). part inside f d) (eqb-true (step_from g s) a r.0) in
    omega arith

pub part_in : (test : ℕ → Bool) (i n : ℕ) → test i ≡ true → part test i n ≡ n
part_in test i n in' = rw in' refl

pub part_out : (test : ℕ → Bool) (i n : ℕ) → test i ≡ false → part test i n ≡ 0
part_out test i n out = rw out refl

pub raised_flow : (g : Graph) (test : Step → Bool) (amounts flows : List ℕ) (value d : ℕ) (ss : List Step) → IsFlow g amounts flows value → is_path_by g test ss ≡ true
    → AllRoom amounts flows d ss → IsFlow g amounts (raised d flows ss) (value + d)
raised_flow g test amounts flows value d ss f path all =
    let p = path_parts g test ss path in
    let distinct = edges_apart g test p.source p.header ss p.walk p.distinct in
    record {
      within = raised_within amounts flows d ss f.within all distinct;
      most = λ i. let x = raised_most amounts flows d ss i all distinct in let y = f.most i in omega arith;
      balanced = λ inside side.
          let x = raise_walk g test inside amounts flows d p.source p.header ss p.walk all distinct in
          let y = f.balanced inside side in
          let z = part_in inside p.source d (side.sources p.source p.begins) in
          let w = part_out inside p.header d (side.headers p.header p.ends) in
          omega arith;
    }
