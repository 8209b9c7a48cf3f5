-- A way along levels: a step on, a step back, and that it is a path in the end.
use Rattle.std.proofs.Common.{◌≡◌, ℕ, ◌+◌, ◌-◌, ◌*◌, ◌<◌, Bool, true, false, cond, Some, List, [], ◌∷◌, ◌++◌, length, map, inl, inr, refl, sym, ap, ◌∙◌, arith}
use Rattle.std.specs.Prelude.{nat_lt, ◌==◌, not, slice_get, slice_set, count_by}
use Rattle.std.proofs.lemmas.List.{get_or-set_other, length-set}
use Rattle.std.proofs.lemmas.List.Sums.{sum_by-set}
use Rattle.std.proofs.lemmas.Bool.{false≢true, eq-eqb, eqb-true, and_parts, and_from, or_cases, not_from_false, ltb-true, lt-ltb, false_from_ne_true}
use Rattle.inc_graph.specs.IncludeGraph.{Graph, IsSound}
use Rattle.inc_graph.specs.Members.{is_member, is_distinct}
use Rattle.inc_graph.proofs.Walks.{inner_edge}
use Rattle.inc_cut.specs.declared.flows.Step.{Step}
use Rattle.inc_cut.specs.declared.searches.next_steps.NextStep.{NextStep}
use Rattle.inc_cut.specs.Flows.{step_from, step_to, is_walk_by, is_path_by}
use Rattle.inc_cut.specs.Phases.{rank, IsUp, Climbs, IsWay, left_over}
use Rattle.inc_cut.proofs.StepLists.{at_of, from_at, to_at}
use Rattle.inc_cut.proofs.SideLemmas.{walk_more}
use Rattle.inc_graph.proofs.Members.{member_at, member_has}
use Rattle.inc_cut.proofs.PathEnds.{path_of}

---- a step on

climbs_push : (g : Graph) (test : Step → Bool) (levels : List ℕ) (a b : ℕ) (ss : List Step) (s : Step) → Climbs g levels a ss → is_walk_by g test a ss b ≡ true
    → rank levels b < rank levels (step_to g s) → Climbs g levels a (ss ++ s ∷ [])
climbs_push g test levels a b [] s climbs walk up =
    let e : rank levels a ≡ rank levels b = ap (rank levels) (eqb-true a b walk) in
    (omega arith, tt)
climbs_push g test levels a b (x ∷ xs) s climbs walk up =
    let p = and_parts (nat_lt x.edge (length g.edges)) _ walk in
    let q = and_parts (test x) _ p.1 in
    let r = and_parts (step_from g x == a) (is_walk_by g test (step_to g x) xs b) q.1 in
    (climbs.0, climbs_push g test levels (step_to g x) b xs s climbs.1 r.1 up)

pub way_push : (g : Graph) (test : Step → Bool) (levels : List ℕ) (steps steps2 : List Step) (file : ℕ) (next : NextStep) → IsWay g test levels steps file → IsUp g test levels file next
    → steps2 ≡ steps ++ next.step ∷ [] → IsWay g test levels steps2 next.to
way_push g test levels steps steps2 file next w u pushed =
    let real = u.real in
    let up : rank levels file < rank levels (step_to g next.step) = let e = ap (rank levels) real.to in let x = u.up in omega arith in
    rw pushed (record {
      sound = w.sound;
      long = w.long;
      inside = real.inside;
      source = w.source;
      among = w.among;
      walk = ap (λ (f : ℕ). is_walk_by g test w.source (steps ++ next.step ∷ []) f) (sym real.to) ∙ walk_more g test w.source file steps next.step w.walk real.within u.passes real.from;
      climbs = climbs_push g test levels w.source file steps next.step w.climbs w.walk up;
    })

---- a step back

pub walk_last : (g : Graph) (test : Step → Bool) (a b : ℕ) (ss : List Step) (s : Step) → is_walk_by g test a (ss ++ s ∷ []) b ≡ true
    → (is_walk_by g test a ss (step_from g s) ≡ true) × (s.edge < length g.edges) × (step_to g s ≡ b)
walk_last g test a b [] s walk =
    let p = and_parts (nat_lt s.edge (length g.edges)) _ walk in
    let q = and_parts (test s) _ p.1 in
    let r = and_parts (step_from g s == a) (step_to g s == b) q.1 in
    (eq-eqb a (step_from g s) (sym (eqb-true (step_from g s) a r.0)), ltb-true s.edge (length g.edges) p.0, eqb-true (step_to g s) b r.1)
walk_last g test a b (x ∷ xs) s walk =
    let p = and_parts (nat_lt x.edge (length g.edges)) _ walk in
    let q = and_parts (test x) _ p.1 in
    let r = and_parts (step_from g x == a) (is_walk_by g test (step_to g x) (xs ++ s ∷ []) b) q.1 in
    let rest = walk_last g test (step_to g x) b xs s r.1 in (
      and_from (nat_lt x.edge (length g.edges)) _ p.0 (and_from (test x) _ q.0 (and_from (step_from g x == a) _ r.0 rest.0)),
      rest.1,
      rest.2,
    )

climbs_drop : (g : Graph) (levels : List ℕ) (a b : ℕ) (ss : List Step) (s : Step) → Climbs g levels a (ss ++ s ∷ []) → step_to g s ≡ b
    → (rank levels a < rank levels b) × Climbs g (slice_set levels b 0) a ss
climbs_drop g levels a b [] s climbs to = let e = ap (rank levels) to in let x = climbs.0 in (omega arith, tt)
climbs_drop g levels a b (x ∷ xs) s climbs to =
    let rest = climbs_drop g levels (step_to g x) b xs s climbs.1 to in
    let first = climbs.0 in
    let next = rest.0 in
    let under : rank levels a < rank levels b = omega arith in
    let e = get_or-set_other levels b a 0 0 (λ same. let z = ap (rank levels) same in omega arith) in
    let f = get_or-set_other levels b (step_to g x) 0 0 (λ same. let z = ap (rank levels) same in omega arith) in
    (under, (omega arith, rest.1))

pub step_inside : (g : Graph) (e : ℕ) (way : Bool) → IsSound g → e < length g.edges → step_from g (record { edge = e; forward = way }) < g.files
step_inside g e true sound low =
    let x = at_of g.edges e low in
    rw (from_at g e x.0 x.1) (inner_edge g e x.0 sound x.1).from_within
step_inside g e false sound low =
    let x = at_of g.edges e low in
    rw (to_at g e x.0 x.1) (inner_edge g e x.0 sound x.1).to_within

pub way_pop : (g : Graph) (test : Step → Bool) (levels levels2 : List ℕ) (steps steps2 : List Step) (file back : ℕ) (s : Step) → IsWay g test levels steps file
    → steps ≡ steps2 ++ s ∷ [] → levels2 ≡ slice_set levels file 0 → back ≡ step_from g s → IsWay g test levels2 steps2 back
way_pop g test levels levels2 steps steps2 file back s w popped given is =
    let walk = walk_last g test w.source file steps2 s (ap (λ (l : List Step). is_walk_by g test w.source l file) (sym popped) ∙ w.walk) in
    let climbs : Climbs g levels w.source (steps2 ++ s ∷ []) = rw popped at w.climbs in
    let drop = climbs_drop g levels w.source file steps2 s climbs walk.2 in
    rw (given, is) (record {
      sound = w.sound;
      long = length-set levels file 0 ∙ w.long;
      inside = step_inside g s.edge s.forward w.sound walk.1;
      source = w.source;
      among = w.among;
      walk = walk.0;
      climbs = drop.1;
    })

pub less_pop : (g : Graph) (test : Step → Bool) (levels levels2 : List ℕ) (steps steps2 : List Step) (file back : ℕ) (s : Step) → IsWay g test levels steps file
    → steps ≡ steps2 ++ s ∷ [] → levels2 ≡ slice_set levels file 0 → left_over levels2 back < left_over levels file
less_pop g test levels levels2 steps steps2 file back s w popped given =
    let walk = walk_last g test w.source file steps2 s (ap (λ (l : List Step). is_walk_by g test w.source l file) (sym popped) ∙ w.walk) in
    let climbs : Climbs g levels w.source (steps2 ++ s ∷ []) = rw popped at w.climbs in
    let above = (climbs_drop g levels w.source file steps2 s climbs walk.2).0 in
    let inside = w.inside in
    let long = w.long in
    let sums = sum_by-set (λ (n : ℕ). cond {A = ℕ} (nat_lt 0 n) 1 0) levels file 0 0 (omega arith) in
    let one : cond {A = ℕ} (nat_lt 0 (rank levels file)) 1 0 ≡ 1 = rw (lt-ltb 0 (rank levels file) (omega arith)) refl in
    let fewer : count_by (λ n. nat_lt 0 n) (slice_set levels file 0) + 1 ≡ count_by (λ n. nat_lt 0 n) levels = omega arith in
    rw given (fall (count_by (λ n. nat_lt 0 n) (slice_set levels file 0)) (count_by (λ n. nat_lt 0 n) levels) (rank (slice_set levels file 0) back) (rank levels file) fewer)
  where
    fall : (c2 c r2 r : ℕ) → c2 + 1 ≡ c → c2 * 65_537 + (65_536 - r2) < c * 65_537 + (65_536 - r)
    fall c2 c r2 r fewer = omega arith

---- a header is reached

climbs_above : (g : Graph) (levels : List ℕ) (a f : ℕ) (ss : List Step) → Climbs g levels a ss → is_member f (map (step_to g) ss) ≡ true → rank levels a < rank levels f
climbs_above g levels a f [] climbs met = absurd (false≢true met)
climbs_above g levels a f (s ∷ ss) climbs met =
    let first = climbs.0 in
    elim (or_cases (step_to g s == f) (is_member f (map (step_to g) ss)) met) [
      | inl here ↦ let e = ap (rank levels) (eqb-true (step_to g s) f here) in omega arith
      | inr later ↦ let rest = climbs_above g levels (step_to g s) f ss climbs.1 later in omega arith
    ]

climbs_distinct : (g : Graph) (levels : List ℕ) (a : ℕ) (ss : List Step) → Climbs g levels a ss → is_distinct (a ∷ map (step_to g) ss) ≡ true
climbs_distinct g levels a [] climbs = refl
climbs_distinct g levels a (s ∷ ss) climbs =
    and_from (not (is_member a (map (step_to g) (s ∷ ss)))) _
    (not_from_false (is_member a (map (step_to g) (s ∷ ss))) (false_from_ne_true (is_member a (map (step_to g) (s ∷ ss))) (λ met.
    let up = climbs_above g levels a a (s ∷ ss) climbs met in omega arith)))
    (climbs_distinct g levels (step_to g s) ss climbs.1)

pub way_path : (g : Graph) (test : Step → Bool) (levels : List ℕ) (steps : List Step) (file : ℕ) → IsWay g test levels steps file → is_member file g.headers ≡ true → is_path_by g test steps ≡ true
way_path g test levels steps file w is =
    path_of g test steps (record { source = w.source; begins = w.among; header = file; ends = is; walk = w.walk; distinct = climbs_distinct g levels w.source steps w.climbs })

---- the start

-- at a source
pub way_begun : (g : Graph) (test : Step → Bool) (levels : List ℕ) (steps : List Step) (sources : List ℕ) (k file : ℕ) → IsSound g → length levels ≡ g.files → sources ≡ g.sources
    → slice_get sources k ≡ Some file → steps ≡ [] → IsWay g test levels steps file
way_begun g test levels steps sources k file sound long are at none =
    let there : is_member file g.sources ≡ true = member_at g.sources k file (ap (λ (l : List ℕ). slice_get l k) (sym are) ∙ at) in
    rw none (record {
      sound = sound;
      long = long;
      inside = member_has (λ f. f < g.files) g.sources file sound.ends.sources_within there;
      source = file;
      among = there;
      walk = eq-eqb file file refl;
      climbs = tt;
    })
