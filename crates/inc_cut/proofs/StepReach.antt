-- Which files steps that pass a test reach, as a test of files, and where they reach the header a path.
use Rattle.std.proofs.Common.{◌≡◌, ℕ, ◌<◌, ◌≤◌, Bool, true, false, List, [], ◌∷◌, ◌++◌, length, map, zero, suc, inl, inr, refl, sym, ap, ◌∙◌, arith}
use Rattle.std.specs.Prelude.{nat_lt, ◌==◌, not, ◌&&◌, ◌||◌, ◌⊎◌, slice_index_or}
use Rattle.std.specs.List.{list_any, range_with_len}
use Rattle.std.proofs.lemmas.List.{get_or_past}
use Rattle.std.proofs.lemmas.List.FromFn.{get_or-map-range_with_len, length-map-range_with_len}
use Rattle.std.proofs.lemmas.Bool.{cases_lt, cases_Bool, false≢true, eq-eqb, eqb-true, ltb-true, lt-ltb, and_parts, and_from, or_cases, or_left, or_right, not_from_false, false_from_ne_true, both_ways}
use Rattle.inc_graph.specs.IncludeGraph.{Graph, IsSound}
use Rattle.inc_graph.specs.Members.{is_member, is_distinct}
use Rattle.inc_cut.specs.declared.flows.Step.{Step}
use Rattle.inc_cut.specs.Flows.{step_from, step_to, is_walk_by, is_path_by, IsLedTo, IsReach}
use Rattle.inc_cut.proofs.PhaseLemmas.{step_inside}
use Rattle.inc_graph.proofs.Members.{any_member, any_by, member_has}
use Rattle.inc_cut.proofs.PathEnds.{path_of}

---- steps from any file to any other

-- as the test says, or up to a step that passes, over it and on
abbrev pub or_over : Graph → (Step → Bool) → Step → (ℕ → ℕ → Bool) → ℕ → ℕ → Bool
or_over g test s joins a b = joins a b || (test s && (joins a (step_from g s) && joins (step_to g s) b))

abbrev pub step_over : (edge : ℕ) → (forward : Bool) → Step
step_over e way = record { edge = e; forward = way }

-- by steps that pass over the first n edges and back over them
abbrev pub joins_by : Graph → (Step → Bool) → (n : ℕ) → ℕ → ℕ → Bool
joins_by g test zero = λ a b. a == b
joins_by g test (suc n) = or_over g test (step_over n false) (or_over g test (step_over n true) (joins_by g test n))

-- a test that holds only where a walk leads, at one file, and on from a file over each of these steps that passes
pub record IsJoin (g : Graph) (test : Step → Bool) (Of : Step → Type 0) (joins : ℕ → ℕ → Bool) : Type 0 where
  pub itself : (a : ℕ) → joins a a ≡ true
  pub walk : (a b : ℕ) → joins a b ≡ true → (w : List Step) × (is_walk_by g test a w b ≡ true)
  pub closed : (s : Step) → Of s → test s ≡ true → (a : ℕ) → joins a (step_from g s) ≡ true → joins a (step_to g s) ≡ true

pub walk_over : (g : Graph) (test : Step → Bool) (a b : ℕ) (v w : List Step) (s : Step) → s.edge < length g.edges → test s ≡ true
    → is_walk_by g test a v (step_from g s) ≡ true → is_walk_by g test (step_to g s) w b ≡ true → is_walk_by g test a (v ++ s ∷ w) b ≡ true
walk_over g test a b [] w s low passes first second =
    and_from (nat_lt s.edge (length g.edges)) _ (lt-ltb s.edge (length g.edges) low) (and_from (test s) _ passes
    (and_from (step_from g s == a) _ (eq-eqb (step_from g s) a (sym (eqb-true a (step_from g s) first))) second))
walk_over g test a b (t ∷ ts) w s low passes first second =
    let p = and_parts (nat_lt t.edge (length g.edges)) _ first in
    let q = and_parts (test t) _ p.1 in
    let r = and_parts (step_from g t == a) (is_walk_by g test (step_to g t) ts (step_from g s)) q.1 in
    and_from (nat_lt t.edge (length g.edges)) _ p.0 (and_from (test t) _ q.0 (and_from (step_from g t == a) _ r.0 (walk_over g test (step_to g t) b ts w s low passes r.1 second)))

-- with one more step
join_more : (g : Graph) (test : Step → Bool) (Of : Step → Type 0) (joins : ℕ → ℕ → Bool) (t : Step) → t.edge < length g.edges → IsJoin g test Of joins
    → IsJoin g test (λ s. Of s ⊎ (s ≡ t)) (or_over g test t joins)
join_more g test Of joins t low j = record {
  itself = λ a. or_left (joins a a) _ (j.itself a);
  walk = λ a b is. elim (or_cases (joins a b) _ is) [
    | inl without ↦ j.walk a b without
    | inr over ↦
        let p = and_parts (test t) _ over in
        let q = and_parts (joins a (step_from g t)) (joins (step_to g t) b) p.1 in
        let v = j.walk a (step_from g t) q.0 in
        let w = j.walk (step_to g t) b q.1 in
        (v.0 ++ t ∷ w.0, walk_over g test a b v.0 w.0 t low p.0 v.1 w.1)
  ];
  closed = λ s of passes a from. elim of [
    | inl old ↦ elim (or_cases (joins a (step_from g s)) _ from) [
      | inl without ↦ or_left (joins a (step_to g s)) _ (j.closed s old passes a without)
      | inr over ↦
          let p = and_parts (test t) _ over in
          let q = and_parts (joins a (step_from g t)) (joins (step_to g t) (step_from g s)) p.1 in
          or_right (joins a (step_to g s)) _ (and_from (test t) _ p.0 (and_from (joins a (step_from g t)) _ q.0 (j.closed s old passes (step_to g t) q.1)))
    ]
    | inr new ↦
        let at : or_over g test t joins a (step_from g t) ≡ true = ap (λ (x : Step). or_over g test t joins a (step_from g x)) (sym new) ∙ from in
        let there : joins a (step_from g t) ≡ true = elim (or_cases (joins a (step_from g t)) _ at) [
          | inl without ↦ without
          | inr over ↦ (and_parts (joins a (step_from g t)) _ (and_parts (test t) _ over).1).0
        ] in
        ap (λ (x : Step). or_over g test t joins a (step_to g x)) new
        ∙ or_right (joins a (step_to g t)) _ (and_from (test t) _ (ap test (sym new) ∙ passes) (and_from (joins a (step_from g t)) _ there (j.itself (step_to g t))))
  ];
}

pub joins_is : (g : Graph) (test : Step → Bool) (n : ℕ) → n ≤ length g.edges → IsJoin g test (λ s. s.edge < n) (joins_by g test n)
joins_is g test zero low = record {
  itself = λ a. eq-eqb a a refl;
  walk = λ a b is. ([], is);
  closed = λ s of passes a from. absurd (omega arith);
}
joins_is g test (suc n) low =
    let fewer = joins_is g test n (omega arith) in
    let ahead = join_more g test (λ s. s.edge < n) (joins_by g test n) (step_over n true) (omega arith) fewer in
    let both = join_more g test (λ s. (s.edge < n) ⊎ (s ≡ step_over n true)) (or_over g test (step_over n true) (joins_by g test n)) (step_over n false) (omega arith) ahead in
    record {
      itself = both.itself;
      walk = both.walk;
      closed = λ s of passes a from. both.closed s (one_of s.edge s.forward of) passes a from;
    }
  where
    one_of : (e : ℕ) (way : Bool) → e < suc n → ((e < n) ⊎ (step_over e way ≡ step_over n true)) ⊎ (step_over e way ≡ step_over n false)
    one_of e way less = elim (cases_lt e n) [
      | inl before ↦ inl (inl before)
      | inr last ↦ by_way way (omega arith)
    ]
      where
        by_way : (b : Bool) → e ≡ n → ((e < n) ⊎ (step_over e b ≡ step_over n true)) ⊎ (step_over e b ≡ step_over n false)
        by_way true is = inl (inr (ap (λ (k : ℕ). step_over k true) is))
        by_way false is = inr (ap (λ (k : ℕ). step_over k false) is)

---- the files that the sources reach

abbrev pub reaches : Graph → (Step → Bool) → ℕ → Bool
reaches g test f = list_any (λ a. joins_by g test (length g.edges) a f) g.sources

pub reach_walk : (g : Graph) (test : Step → Bool) (f : ℕ) → reaches g test f ≡ true → IsLedTo g test f
reach_walk g test f is =
    let j = joins_is g test (length g.edges) (omega arith) in
    let s = any_member (λ a. joins_by g test (length g.edges) a f) g.sources is in
    let w = j.walk s.0 f s.2 in
    record { source = s.0; among = s.1; walk = w.0; real = w.1 }

walk_on : (g : Graph) (test : Step → Bool) (start a b : ℕ) (w : List Step) → joins_by g test (length g.edges) start a ≡ true → is_walk_by g test a w b ≡ true
    → joins_by g test (length g.edges) start b ≡ true
walk_on g test start a b [] is walk = ap (joins_by g test (length g.edges) start) (sym (eqb-true a b walk)) ∙ is
walk_on g test start a b (s ∷ ss) is walk =
    let p = and_parts (nat_lt s.edge (length g.edges)) _ walk in
    let q = and_parts (test s) _ p.1 in
    let r = and_parts (step_from g s == a) (is_walk_by g test (step_to g s) ss b) q.1 in
    let j = joins_is g test (length g.edges) (omega arith) in
    walk_on g test start (step_to g s) b ss
    (j.closed s (ltb-true s.edge (length g.edges) p.0) q.0 start (ap (joins_by g test (length g.edges) start) (eqb-true (step_from g s) a r.0) ∙ is)) r.1

pub walk_reach : (g : Graph) (test : Step → Bool) (f : ℕ) → IsLedTo g test f → reaches g test f ≡ true
walk_reach g test f w =
    let j = joins_is g test (length g.edges) (omega arith) in
    any_by (λ a. joins_by g test (length g.edges) a f) g.sources w.source w.among (walk_on g test w.source w.source f w.walk (j.itself w.source) w.real)

---- each of them is a file of the graph

ends_inside : (g : Graph) (e : ℕ) (way : Bool) → IsSound g → e < length g.edges → step_to g (record { edge = e; forward = way }) < g.files
ends_inside g e true sound low = step_inside g e false sound low
ends_inside g e false sound low = step_inside g e true sound low

walk_inside : (g : Graph) (test : Step → Bool) (a b : ℕ) (w : List Step) → IsSound g → a < g.files → is_walk_by g test a w b ≡ true → b < g.files
walk_inside g test a b [] sound within walk = let is = eqb-true a b walk in omega arith
walk_inside g test a b (s ∷ ss) sound within walk =
    let p = and_parts (nat_lt s.edge (length g.edges)) _ walk in
    let q = and_parts (test s) _ p.1 in
    let r = and_parts (step_from g s == a) (is_walk_by g test (step_to g s) ss b) q.1 in
    walk_inside g test (step_to g s) b ss sound (ends_inside g s.edge s.forward sound (ltb-true s.edge (length g.edges) p.0)) r.1

-- for each file whether it is reached
abbrev pub reached_list : Graph → (Step → Bool) → List Bool
reached_list g test = map (reaches g test) (range_with_len 0 g.files)

reached_at : (g : Graph) (test : Step → Bool) (f : ℕ) → IsSound g → slice_index_or (reached_list g test) f false ≡ reaches g test f
reached_at g test f sound = elim (cases_lt f g.files) [
  | inl less ↦ get_or-map-range_with_len (reaches g test) 0 g.files f f false less (omega arith)
  | inr more ↦
      let none : reaches g test f ≡ false = false_from_ne_true (reaches g test f) (λ is.
      let w = reach_walk g test f is in
      let less = walk_inside g test w.source f w.walk sound (member_has (λ x. x < g.files) g.sources w.source sound.ends.sources_within w.among) w.real in
      omega arith) in
      get_or_past (reached_list g test) f false (omega (arith, length-map-range_with_len (reaches g test) 0 g.files)) ∙ sym none
]

-- true for exactly the files that steps which pass reach, no header among them
abbrev pub IsReachOf : Graph → (Step → Bool) → List Bool → Type 0
IsReachOf g test reached = (length reached ≡ g.files) × IsReach g test (λ f. slice_index_or reached f false)

pub reach_of : (g : Graph) (test : Step → Bool) → IsSound g → ((h : ℕ) → is_member h g.headers ≡ true → reaches g test h ≡ false) → IsReachOf g test (reached_list g test)
reach_of g test sound none = (
  length-map-range_with_len (reaches g test) 0 g.files,
  record {
    exact = λ f. (
      λ is. reach_walk g test f (sym (reached_at g test f sound) ∙ is),
      λ w. reached_at g test f sound ∙ walk_reach g test f w,
    );
    closed = λ h ends. reached_at g test h sound ∙ none h ends;
  },
)

---- a walk without its loops

-- what is after a file that is met
behind : (g : Graph) (test : Step → Bool) (a s b : ℕ) (ss : List Step) → is_walk_by g test s ss b ≡ true → is_distinct (s ∷ map (step_to g) ss) ≡ true
    → is_member a (s ∷ map (step_to g) ss) ≡ true → (rest : List Step) × (is_walk_by g test a rest b ≡ true) × (is_distinct (a ∷ map (step_to g) rest) ≡ true)
behind g test a s b [] walk distinct met = elim (or_cases (s == a) (is_member a []) met) [
  | inl here ↦ ([], eq-eqb a b (sym (eqb-true s a here) ∙ eqb-true s b walk), refl)
  | inr later ↦ absurd (false≢true later)
]
behind g test a s b (t ∷ ts) walk distinct met = elim (or_cases (s == a) (is_member a (map (step_to g) (t ∷ ts))) met) [
  | inl here ↦
      let same = eqb-true s a here in
      (t ∷ ts, ap (λ (f : ℕ). is_walk_by g test f (t ∷ ts) b) (sym same) ∙ walk, ap (λ (f : ℕ). is_distinct (f ∷ map (step_to g) (t ∷ ts))) (sym same) ∙ distinct)
  | inr later ↦
      let p = and_parts (nat_lt t.edge (length g.edges)) _ walk in
      let q = and_parts (test t) _ p.1 in
      let r = and_parts (step_from g t == s) (is_walk_by g test (step_to g t) ts b) q.1 in
      let d = and_parts (not (is_member s (map (step_to g) (t ∷ ts)))) (is_distinct (map (step_to g) (t ∷ ts))) distinct in
      behind g test a (step_to g t) b ts r.1 d.1 later
]

pub without_loops : (g : Graph) (test : Step → Bool) (a b : ℕ) (w : List Step) → is_walk_by g test a w b ≡ true
    → (ss : List Step) × (is_walk_by g test a ss b ≡ true) × (is_distinct (a ∷ map (step_to g) ss) ≡ true)
without_loops g test a b [] walk = ([], walk, refl)
without_loops g test a b (s ∷ ss) walk =
    let p = and_parts (nat_lt s.edge (length g.edges)) _ walk in
    let q = and_parts (test s) _ p.1 in
    let r = and_parts (step_from g s == a) (is_walk_by g test (step_to g s) ss b) q.1 in
    let further = without_loops g test (step_to g s) b ss r.1 in
    elim (cases_Bool (is_member a (step_to g s ∷ map (step_to g) further.0))) [
      | inl met ↦ behind g test a (step_to g s) b further.0 further.1 further.2 met
      | inr apart ↦ (
        s ∷ further.0,
        and_from (nat_lt s.edge (length g.edges)) _ p.0 (and_from (test s) _ q.0 (and_from (step_from g s == a) _ r.0 further.1)),
        and_from (not (is_member a (step_to g s ∷ map (step_to g) further.0))) _ (not_from_false (is_member a (step_to g s ∷ map (step_to g) further.0)) apart) further.2,
      )
    ]

-- steps that pass lead to a header, or they reach these files
pub path_or_reach : (g : Graph) (test : Step → Bool) → IsSound g → ((ss : List Step) × (is_path_by g test ss ≡ true)) ⊎ ((reached : List Bool) × IsReachOf g test reached)
path_or_reach g test sound = elim (cases_Bool (list_any (reaches g test) g.headers)) [
  | inl is ↦
      let h = any_member (reaches g test) g.headers is in
      let w = reach_walk g test h.0 h.2 in
      let path = without_loops g test w.source h.0 w.walk w.real in
      inl (path.0, path_of g test path.0 (record { source = w.source; begins = w.among; header = h.0; ends = h.1; walk = path.1; distinct = path.2 }))
  | inr none ↦ inr (
    reached_list g test,
    reach_of g test sound (λ h ends. false_from_ne_true (reaches g test h) (λ is. both_ways (list_any (reaches g test) g.headers) none (any_by (reaches g test) g.headers h ends is))),
  )
]
