-- Sides of a graph that steps do not leave, and the edges that lead out of them.
use Rattle.std.proofs.Common.{◌≡◌, ℕ, ◌+◌, ◌*◌, ◌<◌, ◌≤◌, Bool, true, false, List, [], ◌∷◌, ◌++◌, length, filter, zero, suc, inl, inr, refl, sym, ap, ◌∙◌, arith}
use Rattle.std.specs.Prelude.{nat_lt, ◌==◌, not, ◌&&◌, sum_by, slice_get, if◌then◌else◌}
use Rattle.std.specs.List.{range_with_len, list_any, list_all}
use Rattle.std.specs.List.Sorted.{IsStrictlyIncreasing}
use Rattle.std.proofs.lemmas.List.FromFn.{get_or-range_with_len, length-range_with_len}
use Rattle.std.proofs.lemmas.List.Kept.{IsStrictlyIncreasing-filter}
use Rattle.std.proofs.lemmas.List.Sums.{sum_by-cons}
use Rattle.std.proofs.lemmas.Bool.{cases_eq, cases_Bool, false≢true, eq-eqb, eqb-true, and_parts, and_from, or_cases, or_left, or_right, or_parts, not_from_false, not-true, lt-ltb, ltb-false, both_ways, cond-true, cond-false, false_from_ne_true}
use Rattle.inc_graph.specs.IncludeGraph.{Graph}
use Rattle.inc_graph.specs.Chains.{target, leaves, is_walk}
use Rattle.inc_graph.specs.Members.{is_member, is_distinct}
use Rattle.inc_graph.specs.Cuts.{Fixed, fixed_by, costs_by, is_editable, meets, total_cost, IsSeparating}
use Rattle.inc_graph.proofs.Walks.{leaving_edge, chain_parts}
use Rattle.inc_cut.specs.declared.flows.Step.{Step}
use Rattle.inc_cut.specs.Flows.{flow_by, source_of, step_from, step_to, is_walk_by, is_open_by, is_fixed_ahead, IsReach, IsFlow, IsSide, IsBarrier, leaving}
use Rattle.std.proofs.lemmas.Option.{slice_get_within}
use Rattle.inc_cut.proofs.StepLists.{from_at}
use Rattle.inc_cut.proofs.FlowSums.{part, sum_range_split, sum_range_over}

---- sides that no passing step leaves

pub record IsClosed (g : Graph) (test : Step → Bool) (inside : ℕ → Bool) : Type 0 where
  pub side : IsSide g inside
  pub step : (s : Step) → s.edge < length g.edges → test s ≡ true → inside (step_from g s) ≡ true → inside (step_to g s) ≡ true

pub walk_more : (g : Graph) (test : Step → Bool) (a b : ℕ) (ss : List Step) (s : Step) → is_walk_by g test a ss b ≡ true → s.edge < length g.edges → test s ≡ true
    → step_from g s ≡ b → is_walk_by g test a (ss ++ s ∷ []) (step_to g s) ≡ true
walk_more g test a b [] s walk low passes from =
    and_from (nat_lt s.edge (length g.edges)) _ (lt-ltb s.edge (length g.edges) low) (and_from (test s) _ passes
    (and_from (step_from g s == a) _ (eq-eqb (step_from g s) a (from ∙ sym (eqb-true a b walk))) (eq-eqb (step_to g s) (step_to g s) refl)))
walk_more g test a b (t ∷ ts) s walk low passes from =
    let p = and_parts (nat_lt t.edge (length g.edges)) _ walk in
    let q = and_parts (test t) _ p.1 in
    let r = and_parts (step_from g t == a) (is_walk_by g test (step_to g t) ts b) q.1 in
    and_from (nat_lt t.edge (length g.edges)) _ p.0 (and_from (test t) _ q.0 (and_from (step_from g t == a) _ r.0 (walk_more g test (step_to g t) b ts s r.1 low passes from)))

pub reach_closed : (g : Graph) (test : Step → Bool) (reach : ℕ → Bool) → IsReach g test reach → IsClosed g test reach
reach_closed g test reach r = record {
  side = record { sources = λ s is. (r.exact s).1 (record { source = s; among = is; walk = []; real = eq-eqb s s refl }); headers = r.closed };
  step = λ s low passes from.
      let w = (r.exact (step_from g s)).0 from in
      (r.exact (step_to g s)).1 (record {
        source = w.source;
        among = w.among;
        walk = w.walk ++ s ∷ [];
        real = walk_more g test w.source (step_from g s) w.walk s w.real low passes refl;
      });
}

pub barrier_from_reach : (g : Graph) (amounts : List ℕ) (reach : ℕ → Bool) → IsReach g (is_fixed_ahead amounts) reach → IsBarrier g amounts reach
barrier_from_reach g amounts reach r =
    let c = reach_closed g (is_fixed_ahead amounts) reach r in
    record {
      side = c.side;
      editable = λ i low from to. false_from_ne_true (fixed_by amounts i) (λ fixed.
          both_ways (reach (target g i)) to (c.step (record { edge = i; forward = true }) low fixed from));
    }

---- the value is bounded

bound_share : (from to : Bool) (flow : ℕ) → (from ≡ true → to ≡ false → flow ≤ 1_000_000)
    → (if from then flow else 0) ≤ (if to then flow else 0) + 1_000_000
bound_share true true flow less = omega arith
bound_share true false flow less = let x = less refl refl in omega arith
bound_share false true flow less = omega arith
bound_share false false flow less = omega arith

pub value_bound : (g : Graph) (amounts flows : List ℕ) (value : ℕ) (inside : ℕ → Bool) → IsFlow g amounts flows value → IsBarrier g amounts inside
    → ((i : ℕ) → costs_by amounts i ≤ 1_000_000) → value ≤ length g.edges * 1_000_000
value_bound g amounts flows value inside f b costs =
    let x = sum_range_over (λ i. part (λ j. inside (source_of g j)) i (flow_by flows i)) (λ i. part (λ j. inside (target g j)) i (flow_by flows i)) 0 (length g.edges)
    (λ i low high. bound_share (inside (source_of g i)) (inside (target g i)) (flow_by flows i)
    (λ from to. let y = f.within i (b.editable i (omega arith) from to) in let z = costs i in omega arith)) in
    let y = f.balanced inside b.side in
    omega arith

---- the edges that lead out of a side

pub member_range : (p : ℕ → Bool) (i a n : ℕ) → a ≤ i → i < a + n → p i ≡ true → is_member i (filter p (range_with_len a n)) ≡ true
member_range p i a zero low high passes = absurd (omega arith)
member_range p i a (suc n) low high passes =
    elim (cases_eq a i) [
      | inl is ↦ rw (cond-true (p a) (a ∷ filter p (range_with_len (a + 1) n)) (filter p (range_with_len (a + 1) n)) (ap p is ∙ passes)) (or_left (a == i) _ (eq-eqb a i is))
      | inr other ↦
          let r = member_range p i (a + 1) n (omega arith) (omega arith) passes in
          elim (cases_Bool (p a)) [
            | inl passed ↦ rw (cond-true (p a) (a ∷ filter p (range_with_len (a + 1) n)) (filter p (range_with_len (a + 1) n)) passed) (or_right (a == i) _ r)
            | inr failed ↦ rw (cond-false (p a) (a ∷ filter p (range_with_len (a + 1) n)) (filter p (range_with_len (a + 1) n)) failed) r
          ]
    ]

pub range_member : (p : ℕ → Bool) (i a n : ℕ) → is_member i (filter p (range_with_len a n)) ≡ true → (p i ≡ true) × (a ≤ i) × (i < a + n)
range_member p i a zero met = absurd (false≢true met)
range_member p i a (suc n) met =
    elim (cases_Bool (p a)) [
      | inl passed ↦
          elim (or_cases (a == i) (is_member i (filter p (range_with_len (a + 1) n))) (ap (is_member i) (sym (cond-true (p a) (a ∷ filter p (range_with_len (a + 1) n)) (filter p (range_with_len (a + 1) n)) passed)) ∙ met)) [
            | inl here ↦ let is = eqb-true a i here in (ap p (sym is) ∙ passed, omega arith, omega arith)
            | inr later ↦ let r = range_member p i (a + 1) n later in (r.0, omega (arith, r.1), omega (arith, r.2))
          ]
      | inr failed ↦
          let r = range_member p i (a + 1) n (ap (is_member i) (sym (cond-false (p a) (a ∷ filter p (range_with_len (a + 1) n)) (filter p (range_with_len (a + 1) n)) failed)) ∙ met) in
          (r.0, omega (arith, r.1), omega (arith, r.2))
    ]

pub distinct_range : (p : ℕ → Bool) (a n : ℕ) → is_distinct (filter p (range_with_len a n)) ≡ true
distinct_range p a zero = refl
distinct_range p a (suc n) =
    elim (cases_Bool (p a)) [
      | inl passed ↦
          let apart : is_member a (filter p (range_with_len (a + 1) n)) ≡ false = false_from_ne_true _ (λ met. let r = range_member p a (a + 1) n met in omega (arith, r.1)) in
          rw (cond-true (p a) (a ∷ filter p (range_with_len (a + 1) n)) (filter p (range_with_len (a + 1) n)) passed)
          (and_from (not (is_member a (filter p (range_with_len (a + 1) n)))) _ (not_from_false _ apart) (distinct_range p (a + 1) n))
      | inr failed ↦ rw (cond-false (p a) (a ∷ filter p (range_with_len (a + 1) n)) (filter p (range_with_len (a + 1) n)) failed) (distinct_range p (a + 1) n)
    ]

pub all_range : (p q : ℕ → Bool) (a n : ℕ) → ((i : ℕ) → i < a + n → p i ≡ true → q i ≡ true) → list_all q (filter p (range_with_len a n)) ≡ true
all_range p q a zero each = refl
all_range p q a (suc n) each =
    let r = all_range p q (a + 1) n (λ i low passes. each i (omega arith) passes) in
    elim (cases_Bool (p a)) [
      | inl passed ↦
          rw (cond-true (p a) (a ∷ filter p (range_with_len (a + 1) n)) (filter p (range_with_len (a + 1) n)) passed) (and_from (q a) _ (each a (omega arith) passed) r)
      | inr failed ↦ rw (cond-false (p a) (a ∷ filter p (range_with_len (a + 1) n)) (filter p (range_with_len (a + 1) n)) failed) r
    ]

pub sum_filter_range : (p : ℕ → Bool) (f : ℕ → ℕ) (a n : ℕ) → sum_by f (filter p (range_with_len a n)) ≡ sum_by (λ i. part p i (f i)) (range_with_len a n)
sum_filter_range p f a zero = refl
sum_filter_range p f a (suc n) =
    let r = sum_filter_range p f (a + 1) n in
    let x = sum_by-cons (λ i. part p i (f i)) a (range_with_len (a + 1) n) in
    elim (cases_Bool (p a)) [
      | inl passed ↦
          let y = sum_by-cons f a (filter p (range_with_len (a + 1) n)) in
          let z : part p a (f a) ≡ f a = cond-true (p a) (f a) 0 passed in
          rw (cond-true (p a) (a ∷ filter p (range_with_len (a + 1) n)) (filter p (range_with_len (a + 1) n)) passed) (omega arith)
      | inr failed ↦
          let z : part p a (f a) ≡ 0 = cond-false (p a) (f a) 0 failed in
          rw (cond-false (p a) (a ∷ filter p (range_with_len (a + 1) n)) (filter p (range_with_len (a + 1) n)) failed) (omega arith)
    ]

pub increasing_range : (p : ℕ → Bool) (n : ℕ) → IsStrictlyIncreasing (filter p (range_with_len 0 n))
increasing_range p n = IsStrictlyIncreasing-filter p (range_with_len 0 n) (λ k less.
    let long = length-range_with_len 0 n in
    let x = get_or-range_with_len 0 n k 0 (omega arith) in
    let y = get_or-range_with_len 0 n (k + 1) 0 (omega arith) in
    omega arith)

pub member_leaving : (g : Graph) (inside : ℕ → Bool) (i : ℕ) → i < length g.edges → inside (source_of g i) ≡ true → inside (target g i) ≡ false → is_member i (leaving g inside) ≡ true
member_leaving g inside i low from to =
    member_range (λ j. inside (source_of g j) && not (inside (target g j))) i 0 (length g.edges) (omega arith) (omega arith)
    (and_from (inside (source_of g i)) _ from (not_from_false (inside (target g i)) to))

pub leaving_member : (g : Graph) (inside : ℕ → Bool) (i : ℕ) → is_member i (leaving g inside) ≡ true → (i < length g.edges) × (inside (source_of g i) ≡ true) × (inside (target g i) ≡ false)
leaving_member g inside i met =
    let r = range_member (λ j. inside (source_of g j) && not (inside (target g j))) i 0 (length g.edges) met in
    let p = and_parts (inside (source_of g i)) (not (inside (target g i))) r.0 in
    (omega (arith, r.2), p.0, not-true (inside (target g i)) p.1)

---- a walk out of a side

pub source_at : (g : Graph) (a i : ℕ) → leaves g a i ≡ true → (source_of g i ≡ a) × (i < length g.edges)
source_at g a i l =
    let e = leaving_edge g a i (slice_get g.edges i) refl l in
    (from_at g i e.0 e.1 ∙ e.2, slice_get_within g.edges i e.0 e.1)

pub crossing : (g : Graph) (inside : ℕ → Bool) (a b : ℕ) (walk : List ℕ) → is_walk g a walk b ≡ true → inside a ≡ true → inside b ≡ false
    → (i : ℕ) × (is_member i walk ≡ true) × (i < length g.edges) × (inside (source_of g i) ≡ true) × (inside (target g i) ≡ false)
crossing g inside a b [] walk from to = absurd (both_ways (inside b) to (ap inside (sym (eqb-true a b walk)) ∙ from))
crossing g inside a b (i ∷ is) walk from to =
    let p = and_parts (leaves g a i) (is_walk g (target g i) is b) walk in
    let s = source_at g a i p.0 in
    elim (cases_Bool (inside (target g i))) [
      | inl in' ↦
          let r = crossing g inside (target g i) b is p.1 in' to in
          (r.0, or_right (i == r.0) (is_member r.0 is) r.1, r.2, r.3, r.4)
      | inr out ↦ (i, or_left (i == i) (is_member i is) (eq-eqb i i refl), s.1, ap inside s.0 ∙ from, out)
    ]

-- a list that has a member of another
pub meets_at : (i : ℕ) (is js : List ℕ) → is_member i is ≡ true → is_member i js ≡ true → meets is js ≡ true
meets_at i [] js met there = absurd (false≢true met)
meets_at i (k ∷ ks) js met there =
    elim (or_cases (k == i) (is_member i ks) met) [
      | inl here ↦ or_left (is_member k js) _ (ap (λ (n : ℕ). is_member n js) (eqb-true k i here) ∙ there)
      | inr later ↦ or_right (is_member k js) (list_any (λ n. is_member n js) ks) (meets_at i ks js later there)
    ]

-- the edges that lead out of a side separate where all of them are editable
pub side_separates : (g : Graph) (fixed : Fixed) (inside : ℕ → Bool) → IsSide g inside
    → ((i : ℕ) → i < length g.edges → inside (source_of g i) ≡ true → inside (target g i) ≡ false → fixed i ≡ false) → IsSeparating g fixed (leaving g inside)
side_separates g fixed inside side editable = record {
  editable = all_range (λ i. inside (source_of g i) && not (inside (target g i))) (is_editable g fixed) 0 (length g.edges) (λ i low out.
      let p = and_parts (inside (source_of g i)) (not (inside (target g i))) out in
      let within : i < length g.edges = omega arith in
      and_from (nat_lt i (length g.edges)) _ (lt-ltb i (length g.edges) within) (not_from_false (fixed i) (editable i within p.0 (not-true (inside (target g i)) p.1))));
  once = distinct_range (λ i. inside (source_of g i) && not (inside (target g i))) 0 (length g.edges);
  met = λ chain real.
      let p = chain_parts g chain real in
      let c = crossing g inside p.source p.header chain p.walk (side.sources p.source p.begins) (side.headers p.header p.ends) in
      meets_at c.0 chain (leaving g inside) c.1 (member_leaving g inside c.0 c.2 c.3 c.4);
}

pub leaving_separates : (g : Graph) (amounts : List ℕ) (inside : ℕ → Bool) → IsBarrier g amounts inside → IsSeparating g (fixed_by amounts) (leaving g inside)
leaving_separates g amounts inside b = side_separates g (fixed_by amounts) inside b.side b.editable

---- where no open step leads out

open_ahead : (amounts flows : List ℕ) (i : ℕ) → is_open_by amounts flows (record { edge = i; forward = true }) ≡ false → (fixed_by amounts i ≡ false) × (costs_by amounts i ≤ flow_by flows i)
open_ahead amounts flows i closed =
    let p = or_parts (fixed_by amounts i) (nat_lt (flow_by flows i) (costs_by amounts i)) closed in
    (p.0, ltb-false (flow_by flows i) (costs_by amounts i) p.1)

pub record IsTight (g : Graph) (amounts flows : List ℕ) (inside : ℕ → Bool) : Type 0 where
  pub side : IsSide g inside
  pub out : (i : ℕ) → i < length g.edges → inside (source_of g i) ≡ true → inside (target g i) ≡ false → (fixed_by amounts i ≡ false) × (costs_by amounts i ≤ flow_by flows i)
  pub back : (i : ℕ) → i < length g.edges → inside (source_of g i) ≡ false → inside (target g i) ≡ true → flow_by flows i ≡ 0

pub tight_from_closed : (g : Graph) (amounts flows : List ℕ) (inside : ℕ → Bool) → IsClosed g (is_open_by amounts flows) inside → IsTight g amounts flows inside
tight_from_closed g amounts flows inside c = record {
  side = c.side;
  out = λ i low from to. open_ahead amounts flows i (false_from_ne_true _ (λ passes. both_ways (inside (target g i)) to (c.step (record { edge = i; forward = true }) low passes from)));
  back = λ i low from to.
      let x = ltb-false 0 (flow_by flows i) (false_from_ne_true _ (λ passes. both_ways (inside (source_of g i)) from (c.step (record { edge = i; forward = false }) low passes to))) in
      omega arith;
}

pub tight_barrier : (g : Graph) (amounts flows : List ℕ) (inside : ℕ → Bool) → IsTight g amounts flows inside → IsBarrier g amounts inside
tight_barrier g amounts flows inside t = record { side = t.side; editable = λ i low from to. (t.out i low from to).0 }

tight_share : (from to : Bool) (flow cost : ℕ) → (from ≡ true → to ≡ false → flow ≡ cost) → (from ≡ false → to ≡ true → flow ≡ 0)
    → (if from then flow else 0) ≡ (if to then flow else 0) + (if from && not to then cost else 0)
tight_share true true flow cost out back = omega arith
tight_share true false flow cost out back = let x = out refl refl in omega arith
tight_share false true flow cost out back = let x = back refl refl in omega arith
tight_share false false flow cost out back = refl

-- the value is what the edges that lead out cost
pub tight_value : (g : Graph) (amounts flows : List ℕ) (value : ℕ) (inside : ℕ → Bool) → IsFlow g amounts flows value → IsTight g amounts flows inside
    → value ≡ total_cost (costs_by amounts) (leaving g inside)
tight_value g amounts flows value inside f t =
    let x = sum_range_split (λ i. part (λ j. inside (source_of g j)) i (flow_by flows i)) (λ i. part (λ j. inside (target g j)) i (flow_by flows i))
    (λ i. part (λ j. inside (source_of g j) && not (inside (target g j))) i (costs_by amounts i)) 0 (length g.edges)
    (λ i low high. tight_share (inside (source_of g i)) (inside (target g i)) (flow_by flows i) (costs_by amounts i)
    (λ from to. let y = t.out i (omega arith) from to in let z = f.within i y.0 in omega (arith, y.1))
    (λ from to. t.back i (omega arith) from to)) in
    let y = f.balanced inside t.side in
    let z = sum_filter_range (λ j. inside (source_of g j) && not (inside (target g j))) (costs_by amounts) 0 (length g.edges) in
    omega arith
