-- A search depth first: its start, a step on, a step back, and what it has reached in the end.
use Rattle.std.proofs.Common.{◌≡◌, ℕ, ◌+◌, ◌<◌, ◌≤◌, Bool, true, false, List, [], ◌∷◌, ◌++◌, Some, length, get_or, take, map, inl, inr, refl, sym, ap, ◌∙◌, arith}
use Rattle.std.specs.Prelude.{nat_lt, ◌==◌, not, slice_get, slice_index, slice_index_or, slice_set}
use Rattle.std.proofs.Math.ListN.{replicate}
use Rattle.std.proofs.lemmas.List.{get_or-set_same, get_or-set_other, length-set, length-replicate, get_or-replicate, get_or_past, get_or_default, map_push, take_more}
use Rattle.std.proofs.lemmas.Option.{same_Some, slice_get_read, slice_get_within}
use Rattle.std.proofs.lemmas.Bool.{cases_eq, cases_lt, false≢true, eq-eqb, eqb-true, and_parts, and_from, or_cases, or_left, or_right, or_from, ne_eqb, not_from_false, not-true, ltb-true, both_ways, false_from_ne_true}
use Rattle.inc_graph.specs.IncludeGraph.{Graph, IsSound}
use Rattle.inc_graph.specs.Members.{is_member, is_distinct}
use Rattle.inc_graph.proofs.Walks.{distinct_push}
use Rattle.inc_graph.proofs.Members.{member_has, member_at}
use Rattle.inc_cut.proofs.PathEnds.{path_of}
use Rattle.inc_cut.specs.declared.flows.Step.{Step}
use Rattle.inc_cut.specs.declared.searches.next_steps.NextStep.{NextStep}
use Rattle.inc_cut.specs.Flows.{step_from, step_to, is_walk_by, is_path_by, IsReach}
use Rattle.inc_cut.specs.NextSteps.{steps_of}
use Rattle.inc_cut.specs.Descents.{holds, AreLooked, IsDescent, IsBetween, IsNewStep, IsLookedThrough}
use Rattle.inc_cut.proofs.NextStepLemmas.{step_among}
use Rattle.inc_cut.proofs.PhaseLemmas.{walk_last, step_inside}
use Rattle.inc_cut.proofs.SideLemmas.{walk_more}
use Rattle.inc_cut.proofs.Links.{member_append}

---- lists

member_first : (i : ℕ) (xs ys : List ℕ) → is_member i xs ≡ true → is_member i (xs ++ ys) ≡ true
member_first i [] ys met = absurd (false≢true met)
member_first i (x ∷ xs) ys met = elim (or_cases (x == i) (is_member i xs) met) [
  | inl here ↦ or_left (x == i) _ here
  | inr later ↦ or_right (x == i) (is_member i (xs ++ ys)) (member_first i xs ys later)
]

member_out : (i n : ℕ) (xs : List ℕ) → is_member i xs ≡ false → (n ≡ i → ⊥) → is_member i (xs ++ n ∷ []) ≡ false
member_out i n xs out other = false_from_ne_true (is_member i (xs ++ n ∷ [])) (λ met. elim (member_append i xs (n ∷ []) met) [
  | inl first ↦ both_ways (is_member i xs) out first
  | inr last ↦ elim (or_cases (n == i) false last) [ inl here ↦ other (eqb-true n i here) | inr none ↦ false≢true none ]
])

distinct_front : (xs ys : List ℕ) → is_distinct (xs ++ ys) ≡ true → is_distinct xs ≡ true
distinct_front [] ys distinct = refl
distinct_front (x ∷ xs) ys distinct =
    let p = and_parts (not (is_member x (xs ++ ys))) (is_distinct (xs ++ ys)) distinct in
    and_from (not (is_member x xs)) (is_distinct xs)
    (not_from_false (is_member x xs) (false_from_ne_true (is_member x xs) (λ met. both_ways (is_member x (xs ++ ys)) (not-true (is_member x (xs ++ ys)) p.0) (member_first x xs ys met))))
    (distinct_front xs ys p.1)

end_member : (g : Graph) (test : Step → Bool) (a b : ℕ) (ss : List Step) → is_walk_by g test a ss b ≡ true → is_member b (a ∷ map (step_to g) ss) ≡ true
end_member g test a b [] walk = or_left (a == b) _ walk
end_member g test a b (s ∷ ss) walk =
    let p = and_parts (nat_lt s.edge (length g.edges)) _ walk in
    let q = and_parts (test s) _ p.1 in
    let r = and_parts (step_from g s == a) (is_walk_by g test (step_to g s) ss b) q.1 in
    or_right (a == b) _ (end_member g test (step_to g s) b ss r.1)

files_push : (g : Graph) (a : ℕ) (steps : List Step) (s : Step) → a ∷ map (step_to g) (steps ++ s ∷ []) ≡ (a ∷ map (step_to g) steps) ++ step_to g s ∷ []
files_push g a steps s = ap (λ (l : List ℕ). a ∷ l) (map_push (step_to g) steps s)

---- what is reached stays so

holds_kept : (reached : List Bool) (t f : ℕ) → holds reached f ≡ true → t < length reached → holds (slice_set reached t true) f ≡ true
holds_kept reached t f is low = elim (cases_eq f t) [
  | inl same ↦ ap (holds (slice_set reached t true)) same ∙ get_or-set_same reached t true false low
  | inr other ↦ get_or-set_other reached t f true false other ∙ is
]

holds_was : (reached : List Bool) (t f : ℕ) → (f ≡ t → ⊥) → holds (slice_set reached t true) f ≡ true → holds reached f ≡ true
holds_was reached t f other is = sym (get_or-set_other reached t f true false other) ∙ is

here_holds : (g : Graph) (test : Step → Bool) (reached : List Bool) (looked : List ℕ) (steps : List Step) (file : ℕ) → IsDescent g test reached looked steps file → holds reached file ≡ true
here_holds g test reached looked steps file d = d.reaching.way_reached file (end_member g test d.source file steps d.walk)

-- a file that is no header
no_end : (g : Graph) (file h : ℕ) → is_member file g.headers ≡ false → is_member h g.headers ≡ true → file ≡ h → ⊥
no_end g file h apart ends same = both_ways (is_member file g.headers) apart (ap (λ (f : ℕ). is_member f g.headers) same ∙ ends)

---- a step on

pub descent_on : (g : Graph) (test : Step → Bool) (reached : List Bool) (looked looked2 : List ℕ) (steps : List Step) (file : ℕ) (next : NextStep)
    → IsDescent g test reached looked steps file → is_member file g.headers ≡ false → IsNewStep g test reached looked looked2 file next
    → IsDescent g test (slice_set reached next.to true) looked2 (steps ++ next.step ∷ []) next.to
descent_on g test reached looked looked2 steps file next d apart n =
    let real = n.real in
    let s = next.step in
    let t = next.to in
    let here = here_holds g test reached looked steps file d in
    let low : next.to < length reached = rw d.reaching.reached_long real.inside in
    let file_low : file < length looked = rw d.reaching.looked_long d.inside in
    let files = files_push g d.source steps next.step in
    let walk : is_walk_by g test d.source (steps ++ next.step ∷ []) next.to ≡ true =
    ap (λ (f : ℕ). is_walk_by g test d.source (steps ++ next.step ∷ []) f) (sym real.to) ∙ walk_more g test d.source file steps next.step d.walk real.within n.passes real.from in
    let other_file : (f : ℕ) → (f ≡ file → ⊥) → slice_index looked2 f ≡ slice_index looked f = λ f other. ap (λ (l : List ℕ). slice_index l f) n.looked_is ∙ get_or-set_other looked file f (n.index + 1) 0 other in
    let same_file : slice_index looked2 file ≡ n.index + 1 = ap (λ (l : List ℕ). slice_index l file) n.looked_is ∙ get_or-set_same looked file (n.index + 1) 0 file_low in
    let new_other : next.to ≡ file → ⊥ = λ same. both_ways (holds reached next.to) n.new (ap (holds reached) same ∙ here) in
    record {
      source = d.source;
      among = d.among;
      inside = real.inside;
      walk = walk;
      distinct = ap is_distinct files ∙ distinct_push (d.source ∷ map (step_to g) steps) (step_to g next.step) d.distinct
          (false_from_ne_true (is_member (step_to g next.step) (d.source ∷ map (step_to g) steps)) (λ met.
          both_ways (holds reached next.to) n.new (ap (holds reached) (sym real.to) ∙ d.reaching.way_reached (step_to g next.step) met)));
      header = λ h ends is. elim (cases_eq h next.to) [
        | inl same ↦ sym same
        | inr other ↦ absurd (no_end g file h apart ends (d.header h ends (holds_was reached next.to h other is)))
      ];
      reaching = record {
        sound = d.reaching.sound;
        reached_long = length-set reached next.to true ∙ d.reaching.reached_long;
        looked_long = ap (λ (l : List ℕ). length l) n.looked_is ∙ length-set looked file (n.index + 1) ∙ d.reaching.looked_long;
        way_reached = λ f met. elim (member_append f (d.source ∷ map (step_to g) steps) (step_to g next.step ∷ []) (ap (is_member f) (sym files) ∙ met)) [
          | inl old ↦ holds_kept reached next.to f (d.reaching.way_reached f old) low
          | inr last ↦ elim (or_cases (step_to g next.step == f) false last) [
            | inl is ↦ ap (holds (slice_set reached next.to true)) (sym (eqb-true (step_to g next.step) f is) ∙ real.to) ∙ get_or-set_same reached next.to true false low
            | inr none ↦ absurd (false≢true none)
          ]
        ];
        by_walk = λ f is. elim (cases_eq f next.to) [
          | inl same ↦ record { source = d.source; among = d.among; walk = steps ++ next.step ∷ []; real = ap (λ (k : ℕ). is_walk_by g test d.source (steps ++ next.step ∷ []) k) same ∙ walk }
          | inr other ↦ d.reaching.by_walk f (holds_was reached next.to f other is)
        ];
        done = λ f is i step first last at passes. elim (cases_eq f next.to) [
          | inl same ↦
              let none = d.reaching.fresh next.to n.new in
              let e = other_file next.to new_other in
              let z = ap (slice_index looked2) same in
              absurd (omega arith)
          | inr other ↦
              let was = holds_was reached next.to f other is in
              elim (cases_eq f file) [
                | inl same ↦
                    let e : slice_index looked2 f ≡ n.index + 1 = ap (slice_index looked2) same ∙ same_file in
                    let at_file : slice_get (steps_of g file) i ≡ Some step = ap (λ (k : ℕ). slice_get (steps_of g k) i) (sym same) ∙ at in
                    elim (cases_lt i (slice_index looked file)) [
                      | inl old ↦ holds_kept reached next.to (step_to g step) (d.reaching.done file here i step (omega arith) old at_file passes) low
                      | inr new ↦ elim (cases_lt i n.index) [
                        | inl before ↦ holds_kept reached next.to (step_to g step) (n.before i step new before at_file passes) low
                        | inr last2 ↦
                            let is_index : i ≡ n.index = omega arith in
                            let same_step : next.step ≡ step = same_Some next.step step (sym n.at ∙ ap (slice_get (steps_of g file)) (sym is_index) ∙ at_file) in
                            ap (holds (slice_set reached next.to true)) (ap (step_to g) (sym same_step) ∙ real.to) ∙ get_or-set_same reached next.to true false low
                      ]
                    ]
                | inr apart2 ↦
                    let e = other_file f apart2 in
                    holds_kept reached next.to (step_to g step) (d.reaching.done f was i step first (omega arith) at passes) low
              ]
        ];
        fresh = λ f is. elim (cases_eq f next.to) [
          | inl same ↦ absurd (both_ways (holds (slice_set reached next.to true) f) is (ap (holds (slice_set reached next.to true)) same ∙ get_or-set_same reached next.to true false low))
          | inr other ↦
              let was : holds reached f ≡ false = sym (get_or-set_other reached next.to f true false other) ∙ is in
              other_file f (λ same. both_ways (holds reached f) was (ap (holds reached) same ∙ here)) ∙ d.reaching.fresh f was
        ];
        over = λ f is out.
            let out2 : is_member f ((d.source ∷ map (step_to g) steps) ++ step_to g next.step ∷ []) ≡ false = ap (is_member f) (sym files) ∙ out in
            let old_out : is_member f (d.source ∷ map (step_to g) steps) ≡ false = false_from_ne_true (is_member f (d.source ∷ map (step_to g) steps)) (λ met.
            both_ways (is_member f ((d.source ∷ map (step_to g) steps) ++ step_to g next.step ∷ [])) out2 (member_first f (d.source ∷ map (step_to g) steps) (step_to g next.step ∷ []) met)) in
            let not_next : f ≡ next.to → ⊥ = λ same.
            both_ways (is_member f (d.source ∷ map (step_to g) (steps ++ next.step ∷ []))) out
            (ap (λ (k : ℕ). is_member k (d.source ∷ map (step_to g) (steps ++ next.step ∷ []))) same ∙ end_member g test d.source next.to (steps ++ next.step ∷ []) walk) in
            let not_file : f ≡ file → ⊥ = λ same.
            both_ways (is_member f (d.source ∷ map (step_to g) steps)) old_out (ap (λ (k : ℕ). is_member k (d.source ∷ map (step_to g) steps)) same ∙ end_member g test d.source file steps d.walk) in
            let e = other_file f not_file in
            let o = d.reaching.over f (holds_was reached next.to f not_next is) old_out in
            omega arith;
      };
    }

---- all steps from a file are looked at

through_done : (g : Graph) (test : Step → Bool) (reached : List Bool) (looked looked2 : List ℕ) (steps : List Step) (file : ℕ) → IsDescent g test reached looked steps file
    → IsLookedThrough g test reached looked looked2 file → (f : ℕ) → holds reached f ≡ true → AreLooked g test reached f 0 (slice_index looked2 f)
through_done g test reached looked looked2 steps file d t f is i s first last at passes =
    let file_low : file < length looked = rw d.reaching.looked_long d.inside in
    elim (cases_eq f file) [
      | inl same ↦
          let e : slice_index looked2 f ≡ length (steps_of g file) =
          ap (slice_index looked2) same ∙ ap (λ (l : List ℕ). slice_index l file) t.looked_is ∙ get_or-set_same looked file (length (steps_of g file)) 0 file_low in
          let at_file : slice_get (steps_of g file) i ≡ Some s = ap (λ (k : ℕ). slice_get (steps_of g k) i) (sym same) ∙ at in
          let here = here_holds g test reached looked steps file d in
          elim (cases_lt i (slice_index looked file)) [
            | inl old ↦ d.reaching.done file here i s (omega arith) old at_file passes
            | inr new ↦ t.all i s new (omega arith) at_file passes
          ]
      | inr other ↦
          let e : slice_index looked2 f ≡ slice_index looked f = ap (λ (l : List ℕ). slice_index l f) t.looked_is ∙ get_or-set_other looked file f (length (steps_of g file)) 0 other in
          d.reaching.done f is i s first (omega arith) at passes
    ]

pub descent_back : (g : Graph) (test : Step → Bool) (reached : List Bool) (looked looked2 : List ℕ) (steps steps2 : List Step) (file : ℕ) (s : Step)
    → IsDescent g test reached looked steps file → is_member file g.headers ≡ false → IsLookedThrough g test reached looked looked2 file → steps ≡ steps2 ++ s ∷ []
    → IsDescent g test reached looked2 steps2 (step_from g s)
descent_back g test reached looked looked2 steps steps2 file s d apart t popped =
    let last = walk_last g test d.source file steps2 s (ap (λ (l : List Step). is_walk_by g test d.source l file) (sym popped) ∙ d.walk) in
    let files : d.source ∷ map (step_to g) steps ≡ (d.source ∷ map (step_to g) steps2) ++ step_to g s ∷ [] = ap (λ (l : List Step). d.source ∷ map (step_to g) l) popped ∙ files_push g d.source steps2 s in
    let here = here_holds g test reached looked steps file d in
    let file_low : file < length looked = rw d.reaching.looked_long d.inside in
    record {
      source = d.source;
      among = d.among;
      inside = step_inside g s.edge s.forward d.reaching.sound last.1;
      walk = last.0;
      distinct = distinct_front (d.source ∷ map (step_to g) steps2) (step_to g s ∷ []) (ap is_distinct (sym files) ∙ d.distinct);
      header = λ h ends is. absurd (no_end g file h apart ends (d.header h ends is));
      reaching = record {
        sound = d.reaching.sound;
        reached_long = d.reaching.reached_long;
        looked_long = ap (λ (l : List ℕ). length l) t.looked_is ∙ length-set looked file (length (steps_of g file)) ∙ d.reaching.looked_long;
        way_reached = λ f met. d.reaching.way_reached f (ap (is_member f) files ∙ member_first f (d.source ∷ map (step_to g) steps2) (step_to g s ∷ []) met);
        by_walk = d.reaching.by_walk;
        done = through_done g test reached looked looked2 steps file d t;
        fresh = λ f is.
            ap (λ (l : List ℕ). slice_index l f) t.looked_is ∙ get_or-set_other looked file f (length (steps_of g file)) 0 (λ same. both_ways (holds reached f) is (ap (holds reached) same ∙ here)) ∙ d.reaching.fresh f is;
        over = λ f is out. elim (cases_eq f file) [
          | inl same ↦
              let e : slice_index looked2 f ≡ length (steps_of g file) =
              ap (slice_index looked2) same ∙ ap (λ (l : List ℕ). slice_index l file) t.looked_is ∙ get_or-set_same looked file (length (steps_of g file)) 0 file_low in
              let l : length (steps_of g f) ≡ length (steps_of g file) = ap (λ (k : ℕ). length (steps_of g k)) same in
              omega arith
          | inr other ↦
              let e : slice_index looked2 f ≡ slice_index looked f = ap (λ (l : List ℕ). slice_index l f) t.looked_is ∙ get_or-set_other looked file f (length (steps_of g file)) 0 other in
              let out2 = member_out f (step_to g s) (d.source ∷ map (step_to g) steps2) out (λ same. other (sym same ∙ last.2)) in
              let o = d.reaching.over f is (ap (is_member f) files ∙ out2) in
              omega arith
        ];
      };
    }

---- nothing is left

walk_holds : (g : Graph) (test : Step → Bool) (reached : List Bool) (looked : List ℕ) (a b : ℕ) (w : List Step) → IsSound g
    → ((f : ℕ) → holds reached f ≡ true → AreLooked g test reached f 0 (slice_index looked f)) → ((f : ℕ) → holds reached f ≡ true → length (steps_of g f) ≤ slice_index looked f)
    → is_walk_by g test a w b ≡ true → holds reached a ≡ true → holds reached b ≡ true
walk_holds g test reached looked a b [] sound done all walk is = ap (holds reached) (sym (eqb-true a b walk)) ∙ is
walk_holds g test reached looked a b (s ∷ ss) sound done all walk is =
    let p = and_parts (nat_lt s.edge (length g.edges)) _ walk in
    let q = and_parts (test s) _ p.1 in
    let r = and_parts (step_from g s == a) (is_walk_by g test (step_to g s) ss b) q.1 in
    let k = step_among g a s sound (ltb-true s.edge (length g.edges) p.0) (eqb-true (step_from g s) a r.0) in
    let low = slice_get_within (steps_of g a) k.0 s k.1 in
    let most = all a is in
    walk_holds g test reached looked (step_to g s) b ss sound done all r.1 (done a is k.0 s (omega arith) (omega arith) k.1 q.0)

pub descent_end : (g : Graph) (test : Step → Bool) (reached : List Bool) (looked looked2 : List ℕ) (steps : List Step) (file : ℕ) → IsDescent g test reached looked steps file
    → is_member file g.headers ≡ false → IsLookedThrough g test reached looked looked2 file → steps ≡ [] → IsBetween g test reached looked2
descent_end g test reached looked looked2 steps file d apart t none =
    let at_source : d.source ≡ file = eqb-true d.source file (ap (λ (l : List Step). is_walk_by g test d.source l file) (sym none) ∙ d.walk) in
    let file_low : file < length looked = rw d.reaching.looked_long d.inside in
    let all : (f : ℕ) → holds reached f ≡ true → length (steps_of g f) ≤ slice_index looked2 f = λ f is. elim (cases_eq f file) [
      | inl same ↦
          let e : slice_index looked2 f ≡ length (steps_of g file) =
          ap (slice_index looked2) same ∙ ap (λ (l : List ℕ). slice_index l file) t.looked_is ∙ get_or-set_same looked file (length (steps_of g file)) 0 file_low in
          let l : length (steps_of g f) ≡ length (steps_of g file) = ap (λ (k : ℕ). length (steps_of g k)) same in
          omega arith
      | inr other ↦
          let e : slice_index looked2 f ≡ slice_index looked f = ap (λ (l : List ℕ). slice_index l f) t.looked_is ∙ get_or-set_other looked file f (length (steps_of g file)) 0 other in
          let out : is_member f (d.source ∷ []) ≡ false = or_from (d.source == f) false (ne_eqb d.source f (λ same. other (sym same ∙ at_source))) refl in
          let o = d.reaching.over f is (ap (λ (l : List Step). is_member f (d.source ∷ map (step_to g) l)) none ∙ out) in
          omega arith
    ] in
    record {
      reaching = record {
        sound = d.reaching.sound;
        reached_long = d.reaching.reached_long;
        looked_long = ap (λ (l : List ℕ). length l) t.looked_is ∙ length-set looked file (length (steps_of g file)) ∙ d.reaching.looked_long;
        way_reached = λ f met. absurd (false≢true met);
        by_walk = d.reaching.by_walk;
        done = through_done g test reached looked looked2 steps file d t;
        fresh = λ f is.
            ap (λ (l : List ℕ). slice_index l f) t.looked_is
            ∙ get_or-set_other looked file f (length (steps_of g file)) 0 (λ same. both_ways (holds reached f) is (ap (holds reached) same ∙ here_holds g test reached looked steps file d)) ∙ d.reaching.fresh f is;
        over = λ f is out. all f is;
      };
      header = λ h ends. false_from_ne_true (holds reached h) (λ is. no_end g file h apart ends (d.header h ends is));
    }

-- from all sources
pub between_reach : (g : Graph) (test : Step → Bool) (reached : List Bool) (looked : List ℕ) → IsBetween g test reached looked → ((a : ℕ) → is_member a g.sources ≡ true → holds reached a ≡ true)
    → (length reached ≡ g.files) × IsReach g test (λ f. slice_index_or reached f false)
between_reach g test reached looked b all = (
  b.reaching.reached_long,
  record {
    exact = λ f. (
      (λ is. b.reaching.by_walk f is),
      (λ w. walk_holds g test reached looked w.source f w.walk b.reaching.sound b.reaching.done (λ x is. b.reaching.over x is refl) w.real (all w.source w.among)),
    );
    closed = b.header;
  },
)

---- the start

zeros : (n f : ℕ) → slice_index (replicate n 0) f ≡ 0
zeros n f = elim (cases_lt f n) [
  | inl less ↦ get_or-replicate n f 0 0 less
  | inr more ↦ get_or_past (replicate n 0) f 0 (omega (arith, length-replicate {A = ℕ} n 0))
]

below_zero : (n f i : ℕ) → i < slice_index (replicate n 0) f → ⊥
below_zero n f i less = let z = zeros n f in omega arith

flags_none : (n f : ℕ) → holds (replicate n false) f ≡ false
flags_none n f = elim (cases_lt f n) [
  | inl less ↦ get_or-replicate n f false false less
  | inr more ↦ get_or_past (replicate n false) f false (omega (arith, length-replicate {A = Bool} n false))
]

-- before the first source
pub between_start : (g : Graph) (test : Step → Bool) (n m : ℕ) (reached : List Bool) (looked : List ℕ) → IsSound g → n ≡ g.files → m ≡ g.files → reached ≡ replicate n false → looked ≡ replicate m 0
    → IsBetween g test reached looked
between_start g test n m reached looked sound n_is m_is none fresh =
    let unreached : (f : ℕ) → holds reached f ≡ false = λ f. ap (λ (l : List Bool). holds l f) none ∙ flags_none n f in
    let never : (f : ℕ) → holds reached f ≡ true → ⊥ = λ f is. both_ways (holds reached f) (unreached f) is in
    record {
      reaching = record {
        sound = sound;
        reached_long = ap (λ (l : List Bool). length l) none ∙ length-replicate {A = Bool} n false ∙ n_is;
        looked_long = ap (λ (l : List ℕ). length l) fresh ∙ length-replicate {A = ℕ} m 0 ∙ m_is;
        way_reached = λ f met. absurd (false≢true met);
        by_walk = λ f is. absurd (never f is);
        done = λ f is. absurd (never f is);
        fresh = λ f is. ap (λ (l : List ℕ). slice_index l f) fresh ∙ zeros m f;
        over = λ f is. absurd (never f is);
      };
      header = λ h ends. unreached h;
    }

-- at a source that is not reached
pub descent_begun : (g : Graph) (test : Step → Bool) (reached : List Bool) (looked : List ℕ) (source : ℕ) → IsBetween g test reached looked → is_member source g.sources ≡ true → holds reached source ≡ false
    → IsDescent g test (slice_set reached source true) looked [] source
descent_begun g test reached looked source b among new =
    let r = b.reaching in
    let inside : source < g.files = member_has (λ f. f < g.files) g.sources source r.sound.ends.sources_within among in
    let low : source < length reached = rw r.reached_long inside in
    let here : holds (slice_set reached source true) source ≡ true = get_or-set_same reached source true false low in
    let none : slice_index looked source ≡ 0 = r.fresh source new in
    record {
      source = source;
      among = among;
      inside = inside;
      walk = eq-eqb source source refl;
      distinct = refl;
      header = λ h ends is. elim (cases_eq h source) [
        | inl same ↦ sym same
        | inr other ↦ absurd (both_ways (holds reached h) (b.header h ends) (holds_was reached source h other is))
      ];
      reaching = record {
        sound = r.sound;
        reached_long = length-set reached source true ∙ r.reached_long;
        looked_long = r.looked_long;
        way_reached = λ f met. elim (or_cases (source == f) false met) [
          | inl is ↦ ap (holds (slice_set reached source true)) (sym (eqb-true source f is)) ∙ here
          | inr no' ↦ absurd (false≢true no')
        ];
        by_walk = λ f is. elim (cases_eq f source) [
          | inl same ↦ record { source = source; among = among; walk = []; real = eq-eqb source f (sym same) }
          | inr other ↦ r.by_walk f (holds_was reached source f other is)
        ];
        done = λ f is i step first last at passes. elim (cases_eq f source) [
          | inl same ↦ let z = ap (slice_index looked) same in absurd (omega arith)
          | inr other ↦ holds_kept reached source (step_to g step) (r.done f (holds_was reached source f other is) i step first last at passes) low
        ];
        fresh = λ f is. elim (cases_eq f source) [
          | inl same ↦ ap (slice_index looked) same ∙ none
          | inr other ↦ r.fresh f (sym (get_or-set_other reached source f true false other) ∙ is)
        ];
        over = λ f is out.
            let other : f ≡ source → ⊥ = λ same. both_ways (is_member f (source ∷ [])) out (or_left (source == f) false (eq-eqb source f (sym same))) in
            r.over f (holds_was reached source f other is) refl;
      };
    }

-- a path, at a header
pub descent_path : (g : Graph) (test : Step → Bool) (reached : List Bool) (looked : List ℕ) (steps : List Step) (file : ℕ) → IsDescent g test reached looked steps file → is_member file g.headers ≡ true
    → is_path_by g test steps ≡ true
descent_path g test reached looked steps file d ends = path_of g test steps (record { source = d.source; begins = d.among; header = file; ends = ends; walk = d.walk; distinct = d.distinct })

-- the same by the lists that code has made
pub descent_as : (g : Graph) (test : Step → Bool) (reached reached2 : List Bool) (looked looked2 : List ℕ) (steps steps2 : List Step) (file file2 : ℕ) → reached2 ≡ reached → looked2 ≡ looked
    → steps2 ≡ steps → file2 ≡ file → IsDescent g test reached looked steps file → IsDescent g test reached2 looked2 steps2 file2
descent_as g test reached reached2 looked looked2 steps steps2 file file2 r l s f d = rw (r, l, s, f) d

pub between_as : (g : Graph) (test : Step → Bool) (reached reached2 : List Bool) (looked looked2 : List ℕ) → reached2 ≡ reached → looked2 ≡ looked → IsBetween g test reached looked
    → IsBetween g test reached2 looked2
between_as g test reached reached2 looked looked2 r l b = rw (r, l) b

-- a file more is reached
pub more_holds : (reached reached2 : List Bool) (t : ℕ) → t < length reached → reached2 ≡ slice_set reached t true → (f : ℕ) → holds reached f ≡ true → holds reached2 f ≡ true
more_holds reached reached2 t low is f held = ap (λ (l : List Bool). holds l f) is ∙ holds_kept reached t f held low

pub start_holds : (reached reached2 : List Bool) (t : ℕ) → t < length reached → reached2 ≡ slice_set reached t true → holds reached2 t ≡ true
start_holds reached reached2 t low is = ap (λ (l : List Bool). holds l t) is ∙ get_or-set_same reached t true false low

-- a source is one of the files
pub source_low : (g : Graph) (test : Step → Bool) (reached : List Bool) (looked : List ℕ) (source : ℕ) → IsBetween g test reached looked → is_member source g.sources ≡ true → source < length reached
source_low g test reached looked source b among =
    let r = b.reaching in
    let low = member_has (λ f. f < g.files) g.sources source r.sound.ends.sources_within among in
    let long = r.reached_long in
    omega arith

-- a flag that is read
pub flag_read : (reached : List Bool) (file place : ℕ) (flag is : Bool) → file < length reached → place ≡ file → flag ≡ get_or reached place flag → flag ≡ is → holds reached file ≡ is
flag_read reached file place flag is low at read held =
    get_or_default reached file false flag low ∙ ap (λ (k : ℕ). get_or reached k flag) (sym at) ∙ sym read ∙ held

-- the sources one after the other
pub source_item : (g : Graph) (items : List ℕ) (k source : ℕ) → items ≡ g.sources → k < length items → source ≡ get_or items k source → is_member source g.sources ≡ true
source_item g items k source are low is = ap (is_member source) (sym are) ∙ member_at items k source (slice_get_read items (length items) k source refl low is)

pub one_more_held : (reached reached2 : List Bool) (sources : List ℕ) (k source : ℕ) → k < length sources → source ≡ get_or sources k source
    → ((a : ℕ) → is_member a (take k sources) ≡ true → holds reached a ≡ true) → holds reached2 source ≡ true → ((f : ℕ) → holds reached f ≡ true → holds reached2 f ≡ true)
    → (a : ℕ) → is_member a (take (k + 1) sources) ≡ true → holds reached2 a ≡ true
one_more_held reached reached2 sources k source low is before here grown a met =
    let more : take (k + 1) sources ≡ take k sources ++ source ∷ [] = take_more sources k source low ∙ ap (λ (n : ℕ). take k sources ++ n ∷ []) (sym is) in
    elim (member_append a (take k sources) (source ∷ []) (ap (is_member a) (sym more) ∙ met)) [
      | inl old ↦ grown a (before a old)
      | inr last ↦ elim (or_cases (source == a) false last) [
        | inl same ↦ ap (holds reached2) (sym (eqb-true source a same)) ∙ here
        | inr none ↦ absurd (false≢true none)
      ]
    ]
