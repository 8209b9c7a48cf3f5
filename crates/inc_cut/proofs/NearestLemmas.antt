-- The edges that lead out of what open steps reach are the nearest cut, and there is one nearest cut.
use Rattle.std.proofs.Common.{◌≡◌, ℕ, ◌+◌, ◌<◌, ◌≤◌, Bool, true, false, List, [], ◌∷◌, ◌++◌, length, suc, inl, inr, refl, sym, ap, ◌∙◌, arith}
use Rattle.std.specs.Prelude.{nat_lt, ◌==◌, not, ◌&&◌, sum_by, slice_index, if◌then◌else◌}
use Rattle.std.specs.List.{range_with_len, list_all}
use Rattle.std.specs.List.Sorted.{IsStrictlyIncreasing}
use Rattle.std.proofs.lemmas.List.Sums.{sum_by-cons}
use Rattle.std.proofs.lemmas.Bool.{cases_Bool, false≢true, eq-eqb, eqb-true, and_parts, and_from, or_cases, or_parts, or_left, or_right, not_from_false, not-true, ltb-true, both_ways, false_from_ne_true}
use Rattle.inc_graph.specs.IncludeGraph.{Graph}
use Rattle.inc_graph.specs.Chains.{target}
use Rattle.inc_graph.specs.Members.{is_member, is_distinct}
use Rattle.inc_graph.specs.Cuts.{Fixed, Costs, AreCosts, fixed_by, costs_by, is_editable, meets, total_cost, IsSeparating, IsCheapest, IsNear, IsNearest}
use Rattle.inc_graph.proofs.LooplessWalks.{chain_of_walk}
use Rattle.inc_graph.proofs.Walks.{walk_push}
use Rattle.inc_cut.specs.declared.flows.Step.{Step}
use Rattle.inc_cut.specs.Flows.{flow_by, source_of, step_from, step_to, is_walk_by, is_open_by, IsReach, IsFlow, IsSide, IsBarrier, leaving}
use Rattle.inc_cut.proofs.FlowSums.{part, sum_range_pairs, sum_range_le, sum_range_has, sum_range_tight}
use Rattle.inc_cut.proofs.SideLemmas.{IsTight, reach_closed, tight_from_closed, tight_value, crossing, meets_at, leaving_member, member_leaving, side_separates, sum_filter_range, distinct_range}
use Rattle.inc_cut.proofs.Links.{near, near_to, near_from, member_append, leaves_source, no_meeting}

---- sums over part of a list

-- f but for one number
but : (ℕ → ℕ) → ℕ → ℕ → ℕ
but f x i = if i == x then 0 else f i

but_here : (f : ℕ → ℕ) (x i : ℕ) → i ≡ x → but f x i ≡ 0
unfolding but
but_here f x i is = rw (eq-eqb i x is) refl

but_other : (f : ℕ → ℕ) (x i : ℕ) → (i == x) ≡ false → but f x i ≡ f i
unfolding but
but_other f x i other = rw other refl

sum_apart : (f : ℕ → ℕ) (x : ℕ) (xs : List ℕ) → is_member x xs ≡ false → sum_by f xs ≡ sum_by (but f x) xs
sum_apart f x [] apart = refl
sum_apart f x (y ∷ ys) apart =
    let p = or_parts (y == x) (is_member x ys) apart in
    let a = sum_by-cons f y ys in
    let b = sum_by-cons (but f x) y ys in
    let c = but_other f x y p.0 in
    let r = sum_apart f x ys p.1 in
    omega arith

but_less : (f : ℕ → ℕ) (x i : ℕ) → but f x i ≤ f i
but_less f x i = elim (cases_Bool (i == x)) [
  | inl is ↦ let a = but_here f x i (eqb-true i x is) in omega arith
  | inr other ↦ let a = but_other f x i other in omega arith
]

sum_less : (f : ℕ → ℕ) (x : ℕ) (xs : List ℕ) → sum_by (but f x) xs ≤ sum_by f xs
sum_less f x [] = omega arith
sum_less f x (y ∷ ys) =
    let a = sum_by-cons f y ys in
    let b = sum_by-cons (but f x) y ys in
    let c = but_less f x y in
    let r = sum_less f x ys in
    omega arith

sum_without : (f : ℕ → ℕ) (x : ℕ) (xs : List ℕ) → is_member x xs ≡ true → f x + sum_by (but f x) xs ≤ sum_by f xs
sum_without f x [] met = absurd (false≢true met)
sum_without f x (y ∷ ys) met =
    let a = sum_by-cons f y ys in
    let b = sum_by-cons (but f x) y ys in
    elim (cases_Bool (y == x)) [
      | inl is ↦
          let same = eqb-true y x is in
          let c = but_here f x y same in
          let d = ap f same in
          let r = sum_less f x ys in
          omega arith
      | inr other ↦
          let later : is_member x ys ≡ true = elim (or_cases (y == x) (is_member x ys) met) [ inl is ↦ absurd (both_ways (y == x) other is) | inr there ↦ there ] in
          let c = but_less f x y in
          let e = but_other f x y other in
          let r = sum_without f x ys later in
          omega arith
    ]

pub sum_within : (f : ℕ → ℕ) (xs ys : List ℕ) → is_distinct xs ≡ true → ((i : ℕ) → is_member i xs ≡ true → is_member i ys ≡ true) → sum_by f xs ≤ sum_by f ys
sum_within f [] ys distinct among = omega arith
sum_within f (x ∷ xs) ys distinct among =
    let p = and_parts (not (is_member x xs)) (is_distinct xs) distinct in
    let a = sum_by-cons f x xs in
    let b = sum_apart f x xs (not-true (is_member x xs) p.0) in
    let r = sum_within (but f x) xs ys p.1 (λ i met. among i (or_right (x == i) (is_member i xs) met)) in
    let c = sum_without f x ys (among x (or_left (x == x) _ (eq-eqb x x refl))) in
    omega arith

---- the near side of a separating set

pub all_member : (q : ℕ → Bool) (i : ℕ) (xs : List ℕ) → list_all q xs ≡ true → is_member i xs ≡ true → q i ≡ true
all_member q i [] all met = absurd (false≢true met)
all_member q i (x ∷ xs) all met =
    let p = and_parts (q x) (list_all q xs) all in
    elim (or_cases (x == i) (is_member i xs) met) [
      | inl here ↦ ap q (sym (eqb-true x i here)) ∙ p.0
      | inr later ↦ all_member q i xs p.1 later
    ]

meets_among : (v w set : List ℕ) → ((i : ℕ) → is_member i v ≡ true → is_member i w ≡ true) → meets w set ≡ false → meets v set ≡ false
meets_among v w set among apart = no_meeting v set (λ i met. false_from_ne_true (is_member i set) (λ there. both_ways (meets w set) apart (meets_at i w set (among i met) there)))

pub near_side : (g : Graph) (fixed : Fixed) (set : List ℕ) → IsSeparating g fixed set → IsSide g (near g set)
near_side g fixed set s = record {
  sources = λ a begins. near_from g set a (record { source = a; among = begins; walk = []; real = eq-eqb a a refl; outside = refl });
  headers = λ h ends. false_from_ne_true (near g set h) (λ there.
      let n = near_to g set h there in
      let c = chain_of_walk g n.source h n.walk n.among ends n.real in
      both_ways (meets c.0 set) (meets_among c.0 n.walk set c.2 (not-true (meets n.walk set) n.outside)) (s.met c.0 c.1));
}

-- an edge that leads out of the near side is in the set
pub near_out : (g : Graph) (set : List ℕ) (i : ℕ) → i < length g.edges → near g set (source_of g i) ≡ true → near g set (target g i) ≡ false → is_member i set ≡ true
near_out g set i low from to = elim (cases_Bool (is_member i set)) [
  | inl there ↦ there
  | inr apart ↦
      let n = near_to g set (source_of g i) from in
      absurd (both_ways (near g set (target g i)) to (near_from g set (target g i) (record {
        source = n.source;
        among = n.among;
        walk = n.walk ++ i ∷ [];
        real = walk_push g n.source n.walk (source_of g i) i n.real (leaves_source g i low);
        outside = not_from_false (meets (n.walk ++ i ∷ []) set) (no_meeting (n.walk ++ i ∷ []) set (λ j met. elim (member_append j n.walk (i ∷ []) met) [
          | inl first ↦ false_from_ne_true (is_member j set) (λ there. both_ways (meets n.walk set) (not-true (meets n.walk set) n.outside) (meets_at j n.walk set first there))
          | inr last ↦ elim (or_cases (i == j) false last) [
            | inl here ↦ ap (λ (k : ℕ). is_member k set) (sym (eqb-true i j here)) ∙ apart
            | inr no' ↦ absurd (false≢true no')
          ]
        ]));
      })))
]

pub editable_in : (g : Graph) (fixed : Fixed) (set : List ℕ) (i : ℕ) → IsSeparating g fixed set → is_member i set ≡ true → fixed i ≡ false
editable_in g fixed set i s met =
    not-true (fixed i) (and_parts (nat_lt i (length g.edges)) (not (fixed i)) (all_member (is_editable g fixed) i set s.editable met)).1

pub near_leaving : (g : Graph) (fixed : Fixed) (set : List ℕ) → IsSeparating g fixed set → IsSeparating g fixed (leaving g (near g set))
near_leaving g fixed set s =
    side_separates g fixed (near g set) (near_side g fixed set s) (λ i low from to. editable_in g fixed set i s (near_out g set i low from to))

pub near_leaving_cost : (g : Graph) (cost : Costs) (set : List ℕ) → total_cost cost (leaving g (near g set)) ≤ total_cost cost set
near_leaving_cost g cost set =
    sum_within cost (leaving g (near g set)) set (distinct_range (λ i. near g set (source_of g i) && not (near g set (target g i))) 0 (length g.edges))
    (λ i met. let l = leaving_member g (near g set) i met in near_out g set i l.0 l.1 l.2)

---- a flow whose value is the cost of a set fills the edges out of its near side

cross_share : (from to : Bool) (flow : ℕ)
    → (if from then flow else 0) + (if not from && to then flow else 0) ≡ (if to then flow else 0) + (if from && not to then flow else 0)
cross_share true true flow = refl
cross_share true false flow = omega arith
cross_share false true flow = omega arith
cross_share false false flow = refl

out_share : (from to : Bool) (flow cost : ℕ) → (from ≡ true → to ≡ false → flow ≤ cost) → (if from && not to then flow else 0) ≤ (if from && not to then cost else 0)
out_share true true flow cost less = omega arith
out_share true false flow cost less = less refl refl
out_share false true flow cost less = omega arith
out_share false false flow cost less = omega arith

out_equal : (from to : Bool) (flow cost : ℕ) → from ≡ true → to ≡ false → (if from && not to then flow else 0) ≡ (if from && not to then cost else 0) → flow ≡ cost
out_equal true true flow cost f t e = absurd (false≢true (sym t))
out_equal true false flow cost f t e = e
out_equal false true flow cost f t e = absurd (false≢true f)
out_equal false false flow cost f t e = absurd (false≢true f)

in_equal : (from to : Bool) (flow : ℕ) → from ≡ false → to ≡ true → (if not from && to then flow else 0) ≤ 0 → flow ≡ 0
in_equal true true flow f t e = absurd (false≢true (sym f))
in_equal true false flow f t e = absurd (false≢true t)
in_equal false true flow f t e = omega arith
in_equal false false flow f t e = absurd (false≢true t)

-- no flow comes back into a side out of which no more than the value can flow, and its edges are full
pub full_side : (g : Graph) (amounts flows : List ℕ) (value : ℕ) (inside : ℕ → Bool) → IsFlow g amounts flows value → IsBarrier g amounts inside
    → total_cost (costs_by amounts) (leaving g inside) ≤ value → IsTight g amounts flows inside
full_side g amounts flows value inside f b most = record {
  side = b.side;
  out = λ i low from to.
      let e = sum_range_tight (λ j. part (λ k. inside (source_of g k) && not (inside (target g k))) j (flow_by flows j))
      (λ j. part (λ k. inside (source_of g k) && not (inside (target g k))) j (costs_by amounts j)) i 0 (length g.edges) each full (omega arith) (omega arith) in
      let x = out_equal (inside (source_of g i)) (inside (target g i)) (flow_by flows i) (costs_by amounts i) from to e in
      (b.editable i low from to, omega arith);
  back = λ i low from to.
      let x = sum_range_has (λ j. part (λ k. not (inside (source_of g k)) && inside (target g k)) j (flow_by flows j)) i 0 (length g.edges) (omega arith) (omega arith) in
      in_equal (inside (source_of g i)) (inside (target g i)) (flow_by flows i) from to (omega (arith, x, empty));
}
  where
    each : (j : ℕ) → 0 ≤ j → j < 0 + length g.edges → part (λ k. inside (source_of g k) && not (inside (target g k))) j (flow_by flows j)
        ≤ part (λ k. inside (source_of g k) && not (inside (target g k))) j (costs_by amounts j)
    each j low high = out_share (inside (source_of g j)) (inside (target g j)) (flow_by flows j) (costs_by amounts j) (λ from to. f.within j (b.editable j (omega arith) from to))

    sums : sum_by (λ j. part (λ k. not (inside (source_of g k)) && inside (target g k)) j (flow_by flows j)) (range_with_len 0 (length g.edges)) + value
        ≡ sum_by (λ j. part (λ k. inside (source_of g k) && not (inside (target g k))) j (flow_by flows j)) (range_with_len 0 (length g.edges))
    sums =
        let x = sum_range_pairs (λ j. part (λ k. inside (source_of g k)) j (flow_by flows j)) (λ j. part (λ k. not (inside (source_of g k)) && inside (target g k)) j (flow_by flows j))
        (λ j. part (λ k. inside (target g k)) j (flow_by flows j)) (λ j. part (λ k. inside (source_of g k) && not (inside (target g k))) j (flow_by flows j)) 0 (length g.edges)
        (λ i low high. cross_share (inside (source_of g i)) (inside (target g i)) (flow_by flows i)) in
        let y = f.balanced inside b.side in
        omega arith

    costs : total_cost (costs_by amounts) (leaving g inside) ≡ sum_by (λ j. part (λ k. inside (source_of g k) && not (inside (target g k))) j (costs_by amounts j)) (range_with_len 0 (length g.edges))
    costs = sum_filter_range (λ k. inside (source_of g k) && not (inside (target g k))) (costs_by amounts) 0 (length g.edges)

    full : sum_by (λ j. part (λ k. inside (source_of g k) && not (inside (target g k))) j (costs_by amounts j)) (range_with_len 0 (length g.edges))
        ≤ sum_by (λ j. part (λ k. inside (source_of g k) && not (inside (target g k))) j (flow_by flows j)) (range_with_len 0 (length g.edges))
    full = omega (arith, sums, costs)

    empty : sum_by (λ j. part (λ k. not (inside (source_of g k)) && inside (target g k)) j (flow_by flows j)) (range_with_len 0 (length g.edges)) ≤ 0
    empty =
        let x = sum_range_le (λ j. part (λ k. inside (source_of g k) && not (inside (target g k))) j (flow_by flows j))
        (λ j. part (λ k. inside (source_of g k) && not (inside (target g k))) j (costs_by amounts j)) 0 (length g.edges) each in
        omega (arith, sums, costs)

---- so open steps stay in it

tight_step : (g : Graph) (amounts flows : List ℕ) (inside : ℕ → Bool) (i : ℕ) (way : Bool) → IsTight g amounts flows inside → i < length g.edges
    → is_open_by amounts flows (record { edge = i; forward = way }) ≡ true → inside (step_from g (record { edge = i; forward = way })) ≡ true
    → inside (step_to g (record { edge = i; forward = way })) ≡ true
tight_step g amounts flows inside i true t low open' from = elim (cases_Bool (inside (target g i))) [
  | inl in' ↦ in'
  | inr out ↦
      let full = t.out i low from out in
      absurd (elim (or_cases (fixed_by amounts i) (nat_lt (flow_by flows i) (costs_by amounts i)) open') [
        | inl fixed ↦ both_ways (fixed_by amounts i) full.0 fixed
        | inr less ↦ let x = ltb-true (flow_by flows i) (costs_by amounts i) less in omega (arith, full.1)
      ])
]
tight_step g amounts flows inside i false t low open' from = elim (cases_Bool (inside (source_of g i))) [
  | inl in' ↦ in'
  | inr out ↦ let x = t.back i low out from in let y = ltb-true 0 (flow_by flows i) open' in absurd (omega arith)
]

pub tight_walk : (g : Graph) (amounts flows : List ℕ) (inside : ℕ → Bool) (a b : ℕ) (ss : List Step) → IsTight g amounts flows inside
    → is_walk_by g (is_open_by amounts flows) a ss b ≡ true → inside a ≡ true → inside b ≡ true
tight_walk g amounts flows inside a b [] t walk from = ap inside (sym (eqb-true a b walk)) ∙ from
tight_walk g amounts flows inside a b (s ∷ ss) t walk from =
    let p = and_parts (nat_lt s.edge (length g.edges)) _ walk in
    let q = and_parts (is_open_by amounts flows s) _ p.1 in
    let r = and_parts (step_from g s == a) (is_walk_by g (is_open_by amounts flows) (step_to g s) ss b) q.1 in
    tight_walk g amounts flows inside (step_to g s) b ss t r.1
    (tight_step g amounts flows inside s.edge s.forward t (ltb-true s.edge (length g.edges) p.0) q.0 (ap inside (eqb-true (step_from g s) a r.0) ∙ from))

-- the edges out of what open steps reach, where they are a cheapest set
pub reach_is_nearest : (g : Graph) (amounts flows : List ℕ) (value : ℕ) (reach : ℕ → Bool) → IsFlow g amounts flows value → IsReach g (is_open_by amounts flows) reach
    → IsCheapest g (fixed_by amounts) (costs_by amounts) (leaving g reach) → IsNearest g (fixed_by amounts) (costs_by amounts) (leaving g reach)
reach_is_nearest g amounts flows value reach f r cheapest = record { cheapest = cheapest; within = within }
  where
    tight : IsTight g amounts flows reach
    tight = tight_from_closed g amounts flows reach (reach_closed g (is_open_by amounts flows) reach r)

    within : (other : List ℕ) → IsCheapest g (fixed_by amounts) (costs_by amounts) other → (file : ℕ) → IsNear g (leaving g reach) file → IsNear g other file
    within other c file n =
        let in' : reach file ≡ true = elim (cases_Bool (reach file)) [
          | inl there ↦ there
          | inr apart ↦
              let x = crossing g reach n.source file n.walk n.real ((tight.side).sources n.source n.among) apart in
              absurd (both_ways (meets n.walk (leaving g reach)) (not-true (meets n.walk (leaving g reach)) n.outside)
              (meets_at x.0 n.walk (leaving g reach) x.1 (member_leaving g reach x.0 x.2 x.3 x.4)))
        ] in
        let w = (r.exact file).0 in' in
        let value_is = tight_value g amounts flows value reach f tight in
        let least = c.least (leaving g reach) cheapest.separates in
        let less = near_leaving_cost g (costs_by amounts) other in
        let barrier : IsBarrier g amounts (near g other) = record {
          side = near_side g (fixed_by amounts) other c.separates;
          editable = λ i low from to. editable_in g (fixed_by amounts) other i c.separates (near_out g other i low from to);
        } in
        let full = full_side g amounts flows value (near g other) f barrier (omega arith) in
        near_to g other file (tight_walk g amounts flows (near g other) w.source file w.walk full w.real ((full.side).sources w.source w.among))

---- there is one nearest cut

rest_increasing : (x : ℕ) (xs : List ℕ) → IsStrictlyIncreasing (x ∷ xs) → IsStrictlyIncreasing xs
rest_increasing x xs inc k less =
    let e : suc k + 1 ≡ suc (k + 1) = omega arith in
    let r : slice_index (x ∷ xs) (suc k) < slice_index (x ∷ xs) (suc k + 1) = inc (suc k) (omega arith) in
    rw e at r

above_first : (x : ℕ) (xs : List ℕ) (i : ℕ) → IsStrictlyIncreasing (x ∷ xs) → is_member i xs ≡ true → x < i
above_first x [] i inc met = absurd (false≢true met)
above_first x (y ∷ ys) i inc met =
    let r : x < y = inc 0 (omega arith) in
    elim (or_cases (y == i) (is_member i ys) met) [
      | inl here ↦ let same = eqb-true y i here in omega arith
      | inr later ↦ let s = above_first y ys i (rest_increasing x (y ∷ ys) inc) later in omega arith
    ]

pub same_increasing : (xs ys : List ℕ) → IsStrictlyIncreasing xs → IsStrictlyIncreasing ys → ((i : ℕ) → is_member i xs ≡ true → is_member i ys ≡ true)
    → ((i : ℕ) → is_member i ys ≡ true → is_member i xs ≡ true) → xs ≡ ys
same_increasing [] [] a b to from = refl
same_increasing [] (y ∷ ys) a b to from = absurd (false≢true (from y (or_left (y == y) _ (eq-eqb y y refl))))
same_increasing (x ∷ xs) [] a b to from = absurd (false≢true (to x (or_left (x == x) _ (eq-eqb x x refl))))
same_increasing (x ∷ xs) (y ∷ ys) a b to from =
    let first : x ≡ y = elim (or_cases (y == x) (is_member x ys) (to x (or_left (x == x) _ (eq-eqb x x refl)))) [
      | inl here ↦ sym (eqb-true y x here)
      | inr later ↦ elim (or_cases (x == y) (is_member y xs) (from y (or_left (y == y) _ (eq-eqb y y refl)))) [
        | inl here ↦ eqb-true x y here
        | inr other ↦
            let p = above_first y ys x b later in
            let q = above_first x xs y a other in
            absurd (omega arith)
      ]
    ] in
    let rest = same_increasing xs ys (rest_increasing x xs a) (rest_increasing y ys b)
    (λ i met. elim (or_cases (y == i) (is_member i ys) (to i (or_right (x == i) (is_member i xs) met))) [
      | inl here ↦ let same = eqb-true y i here in let p = above_first x xs i a met in absurd (omega arith)
      | inr later ↦ later
    ])
    (λ i met. elim (or_cases (x == i) (is_member i xs) (from i (or_right (y == i) (is_member i ys) met))) [
      | inl here ↦ let same = eqb-true x i here in let p = above_first y ys i b met in absurd (omega arith)
      | inr later ↦ later
    ]) in
    rw (first, rest) refl

-- each edge of a cheapest set leads out of its near side, where edges cost something
leads_out : (g : Graph) (fixed : Fixed) (cost : Costs) (set : List ℕ) (i : ℕ) → AreCosts g fixed cost → IsCheapest g fixed cost set → is_member i set ≡ true
    → is_member i (leaving g (near g set)) ≡ true
leads_out g fixed cost set i costs c met = elim (cases_Bool (is_member i (leaving g (near g set)))) [
  | inl there ↦ there
  | inr apart ↦
      let s = c.separates in
      let one = (costs i (all_member (is_editable g fixed) i set s.editable met)).0 in
      let least = c.least (leaving g (near g set)) (near_leaving g fixed set s) in
      let distinct = distinct_range (λ j. near g set (source_of g j) && not (near g set (target g j))) 0 (length g.edges) in
      let x = sum_within cost (i ∷ leaving g (near g set)) set (and_from (not (is_member i (leaving g (near g set)))) _ (not_from_false _ apart) distinct)
      (λ j there. elim (or_cases (i == j) (is_member j (leaving g (near g set))) there) [
        | inl here ↦ ap (λ (k : ℕ). is_member k set) (sym (eqb-true i j here)) ∙ met
        | inr later ↦ let l = leaving_member g (near g set) j later in near_out g set j l.0 l.1 l.2
      ]) in
      let y = sum_by-cons cost i (leaving g (near g set)) in
      absurd (omega arith)
]

-- so its edges are those that lead out of the near side of any nearest set
same_members : (g : Graph) (fixed : Fixed) (cost : Costs) (a b : List ℕ) → AreCosts g fixed cost → IsNearest g fixed cost a → IsNearest g fixed cost b
    → (i : ℕ) → is_member i a ≡ true → is_member i b ≡ true
same_members g fixed cost a b costs x y i met =
    let l = leaving_member g (near g a) i (leads_out g fixed cost a i costs x.cheapest met) in
    let from : near g b (source_of g i) ≡ true = near_from g b (source_of g i) (x.within b y.cheapest (source_of g i) (near_to g a (source_of g i) l.1)) in
    let to : near g b (target g i) ≡ false = false_from_ne_true (near g b (target g i)) (λ there.
    both_ways (near g a (target g i)) l.2 (near_from g a (target g i) (y.within a x.cheapest (target g i) (near_to g b (target g i) there)))) in
    near_out g b i l.0 from to

pub nearest_is_one : (g : Graph) (fixed : Fixed) (cost : Costs) (a b : List ℕ) → AreCosts g fixed cost → IsNearest g fixed cost a → IsNearest g fixed cost b
    → IsStrictlyIncreasing a → IsStrictlyIncreasing b → a ≡ b
nearest_is_one g fixed cost a b costs x y up down = same_increasing a b up down (same_members g fixed cost a b costs x y) (same_members g fixed cost b a costs y x)
