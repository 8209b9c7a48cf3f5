-- Paths that lead ahead are chains, and which chains a flow is made of.
use Rattle.std.proofs.Common.{◌≡◌, ℕ, ◌+◌, ◌-◌, ◌^◌, ◌<◌, ◌≤◌, Bool, true, false, List, [], ◌∷◌, ◌++◌, Some, length, map, sum, inl, inr, refl, sym, ap, ◌∙◌, arith}
use Rattle.std.specs.Prelude.{nat_lt, ◌==◌, not, ◌&&◌, slice_get, slice_set, if◌then◌else◌}
use Rattle.std.specs.List.{list_all, list_any}
use Rattle.std.proofs.lemmas.List.{length_push}
use Rattle.std.proofs.lemmas.List.Sums.{sum_by_push, sum_by-set}
use Rattle.std.proofs.lemmas.Bool.{false≢true, eq-eqb, eqb-true, and_parts, and_from, or_cases, or_left, or_right, not_from_false, not-true, ltb-true, ltb-false, lt-ltb, both_ways, false_from_ne_true}
use Rattle.inc_graph.specs.IncludeGraph.{Graph}
use Rattle.inc_graph.specs.Chains.{target, leaves, is_walk, is_chain}
use Rattle.inc_graph.specs.Members.{is_member, is_distinct}
use Rattle.inc_graph.specs.Cuts.{Counted, fixed_by, costs_by, meets, total_count, count_through, IsFixedChain}
use Rattle.inc_graph.proofs.Lists.{push_at}
use Rattle.inc_graph.proofs.Walks.{inner_edge}
use Rattle.inc_cut.specs.declared.flows.Step.{Step}
use Rattle.inc_cut.specs.Flows.{flow_by, source_of, step_from, step_to, is_walk_by, is_path_by, is_fixed_ahead, is_flowing, IsReach, IsSide}
use Rattle.inc_cut.specs.Raising.{lowered, least_flow, IsLowerable, AreEdgesWithin}
use Rattle.inc_cut.specs.Answers.{IsCuttable, CanSplit, AreChainsOf}
use Rattle.inc_cut.proofs.StepLists.{at_of, from_at}
use Rattle.inc_cut.proofs.FlowSums.{part, sum_range_le}
use Rattle.inc_cut.proofs.RaisingLemmas.{edges_of, edges_apart, part_in, part_out}
use Rattle.inc_graph.proofs.AmountLists.{costs_most}
use Rattle.inc_cut.proofs.NearestLemmas.{editable_in}
use Rattle.inc_cut.proofs.SideLemmas.{reach_closed}
use Rattle.inc_cut.proofs.Links.{leaves_source}
use Rattle.inc_cut.proofs.LoweringLemmas.{AllCarry, AllFlow, carry_kept, carry_least, least_flow_one, least_flow_at, flow_member, lowered_at, lowered_other, lowered_most, lowered_fewer, length-lowered, lower_walk}
use Rattle.inc_graph.proofs.Walks.{chain_parts, chain_of}
use Rattle.inc_cut.proofs.PathEnds.{path_parts}

---- paths ahead

ahead_step : (g : Graph) (i a : ℕ) (way : Bool) → way ≡ true → i < length g.edges → step_from g (record { edge = i; forward = way }) ≡ a
    → (leaves g a i ≡ true) × (step_to g (record { edge = i; forward = way }) ≡ target g i)
ahead_step g i a true is low from = (ap (λ (f : ℕ). leaves g f i) (sym from) ∙ leaves_source g i low, refl)
ahead_step g i a false is low from = absurd (false≢true is)

pub ahead_walk : (g : Graph) (test : Step → Bool) (a b : ℕ) (ss : List Step) → ((s : Step) → test s ≡ true → s.forward ≡ true) → is_walk_by g test a ss b ≡ true
    → (is_walk g a (edges_of ss) b ≡ true) × (map (step_to g) ss ≡ map (target g) (edges_of ss))
ahead_walk g test a b [] ahead walk = (walk, refl)
ahead_walk g test a b (s ∷ ss) ahead walk =
    let p = and_parts (nat_lt s.edge (length g.edges)) _ walk in
    let q = and_parts (test s) _ p.1 in
    let r = and_parts (step_from g s == a) (is_walk_by g test (step_to g s) ss b) q.1 in
    let x = ahead_step g s.edge a s.forward (ahead s q.0) (ltb-true s.edge (length g.edges) p.0) (eqb-true (step_from g s) a r.0) in
    let y = ahead_walk g test (step_to g s) b ss ahead r.1 in (
      and_from (leaves g a s.edge) _ x.0 (ap (λ (f : ℕ). is_walk g f (edges_of ss) b) (sym x.1) ∙ y.0),
      rw (x.1, y.1) refl,
    )

pub ahead_chain : (g : Graph) (test : Step → Bool) (ss : List Step) → ((s : Step) → test s ≡ true → s.forward ≡ true) → is_path_by g test ss ≡ true → is_chain g (edges_of ss) ≡ true
ahead_chain g test ss ahead path =
    let p = path_parts g test ss path in
    let w = ahead_walk g test p.source p.header ss ahead p.walk in
    chain_of g (edges_of ss) (record {
      source = p.source;
      begins = p.begins;
      header = p.header;
      ends = p.ends;
      walk = w.0;
      distinct = ap (λ (fs : List ℕ). is_distinct (p.source ∷ fs)) (sym w.1) ∙ p.distinct;
    })

all_fixed : (g : Graph) (amounts : List ℕ) (a b : ℕ) (ss : List Step) → is_walk_by g (is_fixed_ahead amounts) a ss b ≡ true → list_all (fixed_by amounts) (edges_of ss) ≡ true
all_fixed g amounts a b [] walk = refl
all_fixed g amounts a b (s ∷ ss) walk =
    let p = and_parts (nat_lt s.edge (length g.edges)) _ walk in
    let q = and_parts (is_fixed_ahead amounts s) _ p.1 in
    let r = and_parts (step_from g s == a) (is_walk_by g (is_fixed_ahead amounts) (step_to g s) ss b) q.1 in
    and_from (fixed_by amounts s.edge) _ (and_parts s.forward (fixed_by amounts s.edge) q.0).1 (all_fixed g amounts (step_to g s) b ss r.1)

pub fixed_chain : (g : Graph) (amounts : List ℕ) (ss : List Step) → is_path_by g (is_fixed_ahead amounts) ss ≡ true → IsFixedChain g (fixed_by amounts) (edges_of ss)
fixed_chain g amounts ss path = record {
  real = ahead_chain g (is_fixed_ahead amounts) ss (λ s passes. (and_parts s.forward (fixed_by amounts s.edge) passes).0) path;
  uncuttable = let p = path_parts g (is_fixed_ahead amounts) ss path in all_fixed g amounts p.source p.header ss p.walk;
}

all_flow : (g : Graph) (flows : List ℕ) (a b : ℕ) (ss : List Step) → length flows ≡ length g.edges → is_walk_by g (is_flowing flows) a ss b ≡ true → AllFlow flows (edges_of ss)
all_flow g flows a b [] long walk = tt
all_flow g flows a b (s ∷ ss) long walk =
    let p = and_parts (nat_lt s.edge (length g.edges)) _ walk in
    let q = and_parts (is_flowing flows s) _ p.1 in
    let r = and_parts (step_from g s == a) (is_walk_by g (is_flowing flows) (step_to g s) ss b) q.1 in
    let low = ltb-true s.edge (length g.edges) p.0 in
    let some = ltb-true 0 (flow_by flows s.edge) (and_parts s.forward (nat_lt 0 (flow_by flows s.edge)) q.0).1 in
    ((omega arith, omega arith), all_flow g flows (step_to g s) b ss long r.1)

---- what is asked of the flow before an amount is taken off

pub edges_within : (flows is : List ℕ) → AllFlow flows is → AreEdgesWithin (length flows) is
edges_within flows [] all = tt
edges_within flows (i ∷ is) all = (all.0.0, edges_within flows is all.1)

pub lowerable : (flows : List ℕ) (d : ℕ) (is : List ℕ) → AllCarry flows d is → is_distinct is ≡ true → IsLowerable d flows is
lowerable flows d [] all distinct = tt
lowerable flows d (i ∷ is) all distinct =
    let p = and_parts (not (is_member i is)) (is_distinct is) distinct in
    (all.0, lowerable (slice_set flows i (flow_by flows i - d)) d is (carry_kept d flows i is (not-true (is_member i is) p.0) all.1) p.1)

-- the sum of the flows falls
lowered_sum : (flows : List ℕ) (d : ℕ) (is : List ℕ) → AllCarry flows d is → is_distinct is ≡ true → sum (lowered d flows is) ≤ sum flows
lowered_sum flows d [] all distinct = omega arith
lowered_sum flows d (i ∷ is) all distinct =
    let p = and_parts (not (is_member i is)) (is_distinct is) distinct in
    let x = lowered_sum (slice_set flows i (flow_by flows i - d)) d is (carry_kept d flows i is (not-true (is_member i is) p.0) all.1) p.1 in
    let y = sum_by-set (λ (n : ℕ). n) flows i (flow_by flows i - d) 0 all.0.0 in
    let z = all.0.1 in
    omega arith

pub lowered_falls : (flows : List ℕ) (d i : ℕ) (is : List ℕ) → 1 ≤ d → AllCarry flows d (i ∷ is) → is_distinct (i ∷ is) ≡ true → sum (lowered d flows (i ∷ is)) < sum flows
lowered_falls flows d i is some all distinct =
    let p = and_parts (not (is_member i is)) (is_distinct is) distinct in
    let x = lowered_sum (slice_set flows i (flow_by flows i - d)) d is (carry_kept d flows i is (not-true (is_member i is) p.0) all.1) p.1 in
    let y = sum_by-set (λ (n : ℕ). n) flows i (flow_by flows i - d) 0 all.0.0 in
    let z = all.0.1 in
    omega arith

---- a chain that is taken off

met_at : (is set : List ℕ) → meets is set ≡ true → (i : ℕ) × (is_member i is ≡ true) × (is_member i set ≡ true)
met_at is set met = go is met
  where
    go : (js : List ℕ) → list_any (λ i. is_member i set) js ≡ true → (i : ℕ) × (is_member i js ≡ true) × (is_member i set ≡ true)
    go [] there = absurd (false≢true there)
    go (j ∷ js) there = elim (or_cases (is_member j set) _ there) [
      | inl here ↦ (j, or_left (j == j) _ (eq-eqb j j refl), here)
      | inr later ↦ let r = go js later in (r.0, or_right (j == r.0) (is_member r.0 js) r.1, r.2)
    ]

carry_member : (flows : List ℕ) (d : ℕ) (is : List ℕ) (j : ℕ) → AllCarry flows d is → is_member j is ≡ true → d ≤ flow_by flows j
carry_member flows d [] j all met = absurd (false≢true met)
carry_member flows d (i ∷ is) j all met = elim (or_cases (i == j) (is_member j is) met) [
  | inl here ↦ let same : flow_by flows j ≡ flow_by flows i = ap (flow_by flows) (sym (eqb-true i j here)) in let x = all.0.1 in omega arith
  | inr later ↦ carry_member flows d is j all.1 later
]

pub all_push : {X : Type 0} (p : X → Bool) (xs : List X) (x : X) → list_all p xs ≡ true → p x ≡ true → list_all p (xs ++ x ∷ []) ≡ true
all_push p [] x all is = and_from (p x) true is refl
all_push p (y ∷ ys) x all is = let q = and_parts (p y) (list_all p ys) all in and_from (p y) _ q.0 (all_push p ys x q.1 is)

-- no source is a header
source_apart : (g : Graph) (amounts : List ℕ) (a : ℕ) → IsCuttable g amounts → is_member a g.sources ≡ true → is_member a g.headers ≡ true → ⊥
source_apart g amounts a c begins ends =
    let side = (c.barrier).side in
    both_ways (c.inside a) (side.headers a ends) (side.sources a begins)

some_edge : (g : Graph) (amounts : List ℕ) (is : List ℕ) → IsCuttable g amounts → is_chain g is ≡ true → is ≡ [] → ⊥
some_edge g amounts is c real none =
    let p = chain_parts g is real in
    let same : p.source ≡ p.header = eqb-true p.source p.header (ap (λ (l : List ℕ). is_walk g p.source l p.header) (sym none) ∙ p.walk) in
    source_apart g amounts p.source c p.begins (ap (λ (f : ℕ). is_member f g.headers) same ∙ p.ends)

falls : (flows : List ℕ) (d : ℕ) (is : List ℕ) → (is ≡ [] → ⊥) → 1 ≤ d → AllCarry flows d is → is_distinct is ≡ true → sum (lowered d flows is) < sum flows
falls flows d [] some one all distinct = absurd (some refl)
falls flows d (i ∷ is) some one all distinct = lowered_falls flows d i is one all distinct

pub through_push : (i : ℕ) (chains : List Counted) (c : Counted) → count_through i (chains ++ c ∷ []) ≡ count_through i chains + (if is_member i c.chain then c.count else 0)
through_push i chains c = sum_by_push (λ (x : Counted). if is_member i x.chain then x.count else 0) chains c

pub record IsCount (g : Graph) (amounts flows : List ℕ) (value : ℕ) (chains : List Counted) (is : List ℕ) (d : ℕ) : Type 0 where
  pub lowerable : IsLowerable d flows is
  pub small : d ≤ 1_000_000
  pub next : CanSplit g amounts (lowered d flows is) value (chains ++ record { chain = is; count = d } ∷ [])
  pub falls : sum (lowered d flows is) < sum flows

-- the parts of it
record IsTakeable (g : Graph) (amounts flows : List ℕ) (is : List ℕ) (d : ℕ) : Type 0 where
  real : is_chain g is ≡ true
  distinct : is_distinct is ≡ true
  flowing : AllFlow flows is
  carry : AllCarry flows d is
  one : 1 ≤ d
  small : d ≤ 1_000_000
  least : (j : ℕ) × (is_member j is ≡ true) × (d ≡ flow_by flows j)

takeable : (g : Graph) (amounts flows : List ℕ) (value : ℕ) (chains : List Counted) (ss : List Step) → CanSplit g amounts flows value chains → is_path_by g (is_flowing flows) ss ≡ true
    → IsTakeable g amounts flows (edges_of ss) (least_flow flows (2 ^ 64 - 1) (edges_of ss))
takeable g amounts flows value chains ss c path =
    let is = edges_of ss in
    let d = least_flow flows (2 ^ 64 - 1) (edges_of ss) in
    let p = path_parts g (is_flowing flows) ss path in
    let real = ahead_chain g (is_flowing flows) ss (λ s passes. (and_parts s.forward (nat_lt 0 (flow_by flows s.edge)) passes).0) path in
    let are = c.are in
    let all = all_flow g flows p.source p.header ss are.flows_long p.walk in
    let carry = carry_least flows d (2 ^ 64 - 1) (edges_of ss) all (omega arith) in
    let s = c.separates in
    let m = met_at (edges_of ss) c.set (s.met (edges_of ss) real) in
    let free = editable_in g (fixed_by amounts) c.set m.0 s m.2 in
    let fits = c.within m.0 free in
    let few = costs_most amounts (c.cuttable).costs m.0 in
    let under = carry_member flows d (edges_of ss) m.0 carry m.1 in
    let small : d ≤ 1_000_000 = omega arith in
    record {
      real = real;
      distinct = edges_apart g (is_flowing flows) p.source p.header ss p.walk p.distinct;
      flowing = all;
      carry = carry;
      one = least_flow_one flows (2 ^ 64 - 1) (edges_of ss) (omega arith) all;
      small = small;
      least = elim (least_flow_at flows (2 ^ 64 - 1) (edges_of ss)) [
        | inl none ↦ absurd (omega arith)
        | inr at ↦ at
      ];
    }

through_fits : (b : Bool) (through here d flow cost : ℕ) → through + flow ≤ cost → (b ≡ true → here + d ≡ flow) → (b ≡ false → here ≡ flow)
    → through + (if b then d else 0) + here ≤ cost
through_fits true through here d flow cost fits in' out = let x = in' refl in omega arith
through_fits false through here d flow cost fits in' out = let x = out refl in omega arith

pub count_is : (g : Graph) (amounts flows : List ℕ) (value : ℕ) (chains : List Counted) (ss : List Step) → CanSplit g amounts flows value chains → is_path_by g (is_flowing flows) ss ≡ true
    → IsCount g amounts flows value chains (edges_of ss) (least_flow flows (2 ^ 64 - 1) (edges_of ss))
count_is g amounts flows value chains ss c path = from_takeable (edges_of ss) (least_flow flows (2 ^ 64 - 1) (edges_of ss)) (takeable g amounts flows value chains ss c path)
  where
    from_takeable : (is : List ℕ) (d : ℕ) → IsTakeable g amounts flows is d → IsCount g amounts flows value chains is d
    from_takeable is d t =
        let are = c.are in
        let new : Counted = record { chain = is; count = d } in
        record {
          lowerable = lowerable flows d is t.carry t.distinct;
          small = t.small;
          falls = falls flows d is (some_edge g amounts is c.cuttable t.real) t.one t.carry t.distinct;
          next = record {
            cuttable = c.cuttable;
            are = record { amounts_long = are.amounts_long; flows_long = length-lowered d flows is ∙ are.flows_long };
            set = c.set;
            separates = c.separates;
            real = all_push (λ (x : Counted). is_chain g x.chain && nat_lt 0 x.count) chains new c.real (and_from (is_chain g is) _ t.real (lt-ltb 0 d (let x = t.one in omega arith)));
            within = λ i free.
                let x = through_push i chains new in
                let y = through_fits (is_member i is) (count_through i chains) (flow_by (lowered d flows is) i) d (flow_by flows i) (costs_by amounts i) (c.within i free)
                (λ met. lowered_at d flows is i t.carry t.distinct met) (λ apart. lowered_other d flows is i apart) in
                omega arith;
            balanced = λ inside side.
                let x = sum_by_push (λ (y : Counted). y.count) chains new in
                let p = chain_parts g is t.real in
                let y = lower_walk g inside flows d p.source p.header is p.walk t.carry t.distinct in
                let z = part_in inside p.source d (side.sources p.source p.begins) in
                let w = part_out inside p.header d (side.headers p.header p.ends) in
                let v = c.balanced inside side in
                omega arith;
            emptied = λ k x at. elim (push_at chains new k x at) [
              | inl old ↦
                  let e = c.emptied k x old.1 in
                  let less = lowered_most d flows is e.edge t.carry t.distinct in
                  let was = e.empty in
                  record { edge = e.edge; there = e.there; empty = omega arith }
              | inr last ↦
                  let j = t.least in
                  let y = lowered_at d flows is j.0 t.carry t.distinct j.1 in
                  let z = j.2 in
                  record { edge = j.0; there = ap (λ (v : Counted). is_member j.0 v.chain) (sym last.1) ∙ j.1; empty = omega arith }
            ];
            different = λ k j x y k_at j_at same. elim (push_at chains new k x k_at) [
              | inl old ↦ elim (push_at chains new j y j_at) [
                | inl too ↦ c.different k j x y old.1 too.1 same
                | inr last ↦ absurd (one_flows k x old.1 (same ∙ ap (λ (v : Counted). v.chain) (sym last.1)))
              ]
              | inr last ↦ elim (push_at chains new j y j_at) [
                | inl old ↦ absurd (one_flows j y old.1 (sym same ∙ ap (λ (v : Counted). v.chain) (sym last.1)))
                | inr too ↦ last.0 ∙ sym too.0
              ]
            ];
            few =
                let j = t.least in
                let x = length_push chains new in
                let y = lowered_fewer flows d is j.0 t.one t.carry t.distinct j.1 j.2 in
                let z = c.few in
                omega arith;
          };
        }
      where
        one_flows : (k : ℕ) (x : Counted) → slice_get chains k ≡ Some x → x.chain ≡ is → ⊥
        one_flows k x at same =
            let e = c.emptied k x at in
            let m = flow_member flows is e.edge t.flowing (ap (is_member e.edge) (sym same) ∙ e.there) in
            let z = e.empty in
            omega (arith, m.1)

---- where no chain is left

rest_share : (from to : Bool) (flow : ℕ) → (from ≡ true → to ≡ false → flow ≡ 0) → (if from then flow else 0) ≤ (if to then flow else 0)
rest_share true true flow none = omega arith
rest_share true false flow none = let x = none refl refl in omega arith
rest_share false to flow none = omega arith

full_share : (from to : Bool) (flow : ℕ) → from ≡ true → (if to then flow else 0) ≤ (if from then flow else 0)
full_share true true flow is = omega arith
full_share true false flow is = omega arith
full_share false to flow is = absurd (false≢true is)

pub none_left : (g : Graph) (amounts flows : List ℕ) (value : ℕ) (chains : List Counted) (reach : ℕ → Bool) → CanSplit g amounts flows value chains → IsReach g (is_flowing flows) reach
    → total_count chains ≡ value
none_left g amounts flows value chains reach c r =
    let closed = reach_closed g (is_flowing flows) reach r in
    let low = sum_range_le (λ i. part (λ j. reach (source_of g j)) i (flow_by flows i)) (λ i. part (λ j. reach (target g j)) i (flow_by flows i)) 0 (length g.edges)
    (λ i above below. rest_share (reach (source_of g i)) (reach (target g i)) (flow_by flows i) (λ from to.
    let x = ltb-false 0 (flow_by flows i) (false_from_ne_true (nat_lt 0 (flow_by flows i)) (λ some.
    both_ways (reach (target g i)) to (closed.step (record { edge = i; forward = true }) (omega arith) some from))) in
    omega arith)) in
    let x = c.balanced reach closed.side in
    let apart = source_apart g amounts in
    let side : IsSide g (λ f. not (is_member f g.headers)) = record {
      sources = λ s begins. not_from_false (is_member s g.headers) (false_from_ne_true (is_member s g.headers) (apart s c.cuttable begins));
      headers = λ h ends. ap not ends;
    } in
    let sound = (c.cuttable).sound in
    let high = sum_range_le (λ i. part (λ j. not (is_member (target g j) g.headers)) i (flow_by flows i)) (λ i. part (λ j. not (is_member (source_of g j) g.headers)) i (flow_by flows i)) 0 (length g.edges)
    (λ i above below. full_share (not (is_member (source_of g i) g.headers)) (not (is_member (target g i) g.headers)) (flow_by flows i)
    (let e = at_of g.edges i (omega arith) in
    not_from_false (is_member (source_of g i) g.headers) (ap (λ (f : ℕ). is_member f g.headers) (from_at g i e.0 e.1) ∙ (inner_edge g i e.0 sound e.1).before))) in
    let y = c.balanced (λ f. not (is_member f g.headers)) side in
    omega arith

-- the same by the lists and numbers that code has made
pub count_as : (g : Graph) (amounts flows flows2 : List ℕ) (value : ℕ) (chains : List Counted) (is made seen : List ℕ) (d count : ℕ) → made ≡ is → seen ≡ is → count ≡ d
    → flows2 ≡ lowered count flows made → IsCount g amounts flows value chains is d
    → CanSplit g amounts flows2 value (chains ++ record { chain = seen; count = count } ∷ []) × (sum flows2 < sum flows)
count_as g amounts flows flows2 value chains is made seen d count made_is seen_is count_is flows_are r =
    rw (flows_are, made_is, seen_is, count_is) (r.next, r.falls)

pub path_within : (g : Graph) (amounts flows : List ℕ) (value : ℕ) (chains : List Counted) (ss : List Step) → CanSplit g amounts flows value chains → is_path_by g (is_flowing flows) ss ≡ true
    → AreEdgesWithin (length flows) (edges_of ss)
path_within g amounts flows value chains ss c path =
    let p = path_parts g (is_flowing flows) ss path in
    let are = c.are in
    edges_within flows (edges_of ss) (all_flow g flows p.source p.header ss are.flows_long p.walk)

pub lowerable_as : (flows is made : List ℕ) (d count : ℕ) → made ≡ is → count ≡ d → IsLowerable d flows is → IsLowerable count flows made
lowerable_as flows is made d count made_is count_is can = rw (made_is, count_is) can

pub chains_of : (g : Graph) (amounts flows : List ℕ) (value : ℕ) (chains : List Counted) → CanSplit g amounts flows value chains → total_count chains ≡ value → AreChainsOf g amounts value chains
chains_of g amounts flows value chains c total = record {
  real = c.real;
  within = λ i free. let x = c.within i free in omega arith;
  total = total;
  few = let x = c.few in omega arith;
}
