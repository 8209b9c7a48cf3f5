-- The search past the files of the right side of a rule: the steps from a file, and what is reached in the end.
use Rattle.std.proofs.Common.{◌≡◌, ℕ, ◌+◌, ◌<◌, Bool, true, false, cond, List, [], ◌∷◌, ◌++◌, ◌||◌, Some, None, inl, inr, length, map, not, refl, sym, ap, ◌∙◌, subst, arith, zero-add}
use Rattle.std.specs.Prelude.{◌==◌, filter, slice_get}
use Rattle.std.specs.List.{All, list_any}
use Rattle.std.specs.Option.{option_map_or}
use Rattle.std.proofs.lemmas.Bool.{and_parts, cases_Bool, cond-true, cond-false, eq-eqb, eqb-true, false≢true, not-true, not_from_false, or_cases, or_from, or_parts}
use Rattle.std.proofs.lemmas.List.Folds.{list_any-append}
use Rattle.std.proofs.lemmas.Option.{none-some, same_Some}
use Rattle.inc_graph.specs.declared.graphs.Edge as declared
use Rattle.inc_graph.specs.IncludeGraph.{Edge, Graph, IsSound}
use Rattle.inc_graph.specs.Chains.{files_on, is_walk, leaves, target}
use Rattle.inc_graph.specs.Indexes.{edges_leaving}
use Rattle.inc_graph.specs.Members.{is_member}
use Rattle.inc_graph.specs.Search.{Queue, Next, file_at, is_reached, started, with_candidates, AreCandidates}
use Rattle.inc_graph.specs.Views.{seen_edge}
use Rattle.inc_graph.proofs.LeavingEdges.{passing_at, leaving_at}
use Rattle.inc_graph.proofs.NumberedEdges.{with_number}
use Rattle.inc_graph.proofs.SearchLemmas.{at_of, file_is, holds_reached, reached_on, search_started, search_more}
use Rattle.inc_graph.proofs.Walks.{files_push, inner_edge, leaving_edge, walk_push}
use Rattle.inc_lookup.specs.Projects.{Layout, path_at}
use Rattle.inc_rules.specs.Breaking.{IsReachedPast}
use Rattle.inc_rules.specs.Judging.{is_right_file, left_files}
use Rattle.inc_rules.specs.Lines.{AreRight}
use Rattle.inc_rules.specs.Reaching.{is_flagged, LeadsPast, edge_step, IsBegun, IsFinished}
use Rattle.inc_rules.specs.Rules.{Rule, is_for, is_left, is_right}

---- edges by their numbers

pub target_at : (g : Graph) (i : ℕ) (x : Edge) → slice_get g.edges i ≡ Some x → target g i ≡ x.to
target_at g i x at = ap (λ o. option_map_or (λ (e : Edge). e.to) o 0) at

pub leaves_at : (g : Graph) (i f : ℕ) (x : Edge) → slice_get g.edges i ≡ Some x → x.from ≡ f → leaves g f i ≡ true
leaves_at g i f x at from = ap (λ o. option_map_or (λ (e : Edge). e.from == f) o false) at ∙ eq-eqb x.from f from

-- an edge leads to a file of the graph
pub target_low : (g : Graph) (f i : ℕ) → IsSound g → leaves g f i ≡ true → target g i < g.files
target_low g f i sound leads =
    let e = leaving_edge g f i _ refl leads in
    let inner = (inner_edge g i e.0 sound e.1).to_within in
    let to = target_at g i e.0 e.1 in
    omega arith

---- the steps from a file

pub step_open : (flags : List Bool) (e : declared.Edge) → is_flagged flags e.to ≡ false → edge_step flags e ≡ Some (record { step = tt; to = e.to })
step_open flags e clear = cond-false (is_flagged flags e.to) None (Some (record { step = tt; to = e.to })) clear

pub step_flagged : (flags : List Bool) (e : declared.Edge) → is_flagged flags e.to ≡ true → edge_step flags e ≡ None
step_flagged flags e flag = cond-true (is_flagged flags e.to) None (Some (record { step = tt; to = e.to })) flag

step_is : (b : Bool) (to : ℕ) (n : Next (Unit {0})) → cond b None (Some (record { step = tt; to = to })) ≡ Some n → (b ≡ false) × (to ≡ n.to)
step_is true to n e = absurd (none-some n e)
step_is false to n e = (refl, ap (λ (x : Next (Unit {0})). x.to) (same_Some (record { step = tt; to = to }) n e))

-- the edges that leave a file are all steps from it
edges_are : (g : Graph) (flags : List Bool) (f : ℕ) → IsSound g → AreCandidates (LeadsPast g flags) (edge_step flags) g.files f (edges_leaving g.edges f)
edges_are g flags f sound = record {
  each = λ k e n at passes.
      let there = leaving_at g f k e at in
      let is = step_is (is_flagged flags e.to) e.to n passes in
      let inner = inner_edge g e.id (seen_edge e) sound there.0 in
      let low = inner.to_within in (
        (e.id, leaves_at g e.id f (seen_edge e) there.0 there.1, target_at g e.id (seen_edge e) there.0 ∙ is.1, ap (is_flagged flags) (sym is.1) ∙ is.0),
        (let same = is.1 in omega arith),
      );
  whole = λ s b leads.
      let e = leaving_edge g f leads.0 _ refl leads.1 in
      let there = passing_at (λ (d : declared.Edge). d.from == f) 0 g.edges leads.0 leads.0 e.0 (sym (zero-add leads.0)) e.1 (eq-eqb e.0.from f e.2) in
      let to : e.0.to ≡ b = sym (target_at g leads.0 e.0 e.1) ∙ leads.2 in (
        there.0,
        with_number leads.0 e.0,
        there.1,
        step_open flags (with_number leads.0 e.0) (ap (is_flagged flags) to ∙ leads.3) ∙ ap (λ (t : ℕ). Some (record { step = tt; to = t })) to,
      );
}

---- the search

pub reach_begun : (g : Graph) (flags : List Bool) (n : ℕ) (starts : List ℕ) (q : Queue (Unit {0})) → n ≡ g.files → All (λ f. f < g.files) starts → q ≡ started n starts → IsBegun g flags starts q 0
reach_begun g flags n starts q files low begun =
    search_started (LeadsPast g flags) g.files starts q low (begun ∙ ap (λ (k : ℕ). started k starts) files)

pub reach_more : (g : Graph) (flags : List Bool) (starts : List ℕ) (q r : Queue (Unit {0})) (taken : ℕ) → IsSound g → taken < length q.visits
    → r ≡ with_candidates (edge_step flags) taken q (edges_leaving g.edges (file_at q.visits taken)) → IsBegun g flags starts q taken → IsBegun g flags starts r (taken + 1)
reach_more g flags starts q r taken sound low is h =
    let v = at_of q.visits taken low in
    let es = edges_leaving g.edges v.0.file in
    let here : r ≡ with_candidates (edge_step flags) taken q es = is ∙ ap (λ (f : ℕ). with_candidates (edge_step flags) taken q (edges_leaving g.edges f)) (file_is q.visits taken v.0 v.1) in
    search_more (LeadsPast g flags) starts (edge_step flags) g.files q r taken v.0 es h v.1 (edges_are g flags v.0.file sound) here

---- files of both sides

-- a member of a filter passes the test
pub member_passes : (p : ℕ → Bool) (xs : List ℕ) (f : ℕ) → is_member f (filter p xs) ≡ true → p f ≡ true
member_passes p [] f there = absurd (false≢true there)
member_passes p (x ∷ xs) f there =
    elim (cases_Bool (p x)) [
      | inl yes' ↦
          elim (or_cases (x == f) (is_member f (filter p xs)) (ap (is_member f) (sym (cond-true (p x) (x ∷ filter p xs) (filter p xs) yes')) ∙ there)) [
            | inl here ↦ ap p (sym (eqb-true x f here)) ∙ yes'
            | inr later ↦ member_passes p xs f later
          ]
      | inr no' ↦ member_passes p xs f (ap (is_member f) (sym (cond-false (p x) (x ∷ filter p xs) (filter p xs) no')) ∙ there)
    ]

apart_by : (a b c : Bool) → cond a (not (b || c)) false ≡ true → b ≡ false
apart_by true true c is = absurd (false≢true is)
apart_by true false c is = refl
apart_by false b c is = absurd (false≢true is)

-- a file that a rule is about is none of its right side
pub left_not_right : (layout : Layout) (g : Graph) (r : Rule) (f : ℕ) → is_member f (left_files layout g r) ≡ true → is_right_file layout r f ≡ false
left_not_right layout g r f there =
    let about : is_left r (path_at layout f) ≡ true = member_passes (λ x. is_left r (path_at layout x)) g.sources f there in
    apart_by (is_for r.left (path_at layout f)) (is_right r (path_at layout f)) (list_any (λ x. is_for x (path_at layout f)) r.except) about

---- what is reached

module _ (layout : Layout) (g : Graph) (r : Rule) (right : List Bool) (left : List ℕ) (q : Queue (Unit {0})) (sound : IsSound g) (are : AreRight g.files layout r right)
    (is_left : left ≡ left_files layout g r) (s : IsFinished g right left q) where
  abbrev other : ℕ → Bool
  other f = is_right_file layout r f

  abbrev IsPast : ℕ → Type 0
  IsPast f = IsReachedPast left other g f

  first_past : (a : ℕ) → is_member a left ≡ true → IsPast a
  first_past a begins = record {
    source = a;
    among = begins;
    walk = [];
    real = eq-eqb a a refl;
    past = not_from_false (other a || false) (or_from (other a) false (left_not_right layout g r a (ap (is_member a) (sym is_left) ∙ begins)) refl);
  }

  next_past : (a b : ℕ) (step : Unit {0}) → LeadsPast g right a step b → IsPast a → IsPast b
  next_past a b step leads w =
      let low : b < g.files = (let t = target_low g a leads.0 sound leads.1 in let to = leads.2 in omega arith) in
      let clear : other b ≡ false = sym (are.each b low) ∙ leads.3 in
      let files = files_push g w.source w.walk leads.0 in
      record {
        source = w.source;
        among = w.among;
        walk = w.walk ++ leads.0 ∷ [];
        real = subst (λ (x : ℕ). is_walk g w.source (w.walk ++ leads.0 ∷ []) x ≡ true) leads.2 (walk_push g w.source w.walk a leads.0 w.real leads.1);
        past = not_from_false (list_any other (files_on g w.source (w.walk ++ leads.0 ∷ [])))
            (ap (list_any other) files ∙ list_any-append other (files_on g w.source w.walk) (target g leads.0 ∷ [])
            ∙ or_from (list_any other (files_on g w.source w.walk)) (other (target g leads.0) || false) (not-true (list_any other (files_on g w.source w.walk)) w.past)
            (or_from (other (target g leads.0)) false (ap other leads.2 ∙ clear) refl));
      }

  pub reached_walk : (f : ℕ) → is_reached q f ≡ true → IsPast f
  reached_walk f is = holds_reached (LeadsPast g right) left q s.reached IsPast first_past next_past f is

  walk_reached : (walk : List ℕ) (a b : ℕ) → is_reached q a ≡ true → is_walk g a walk b ≡ true → list_any other (files_on g a walk) ≡ false → is_reached q b ≡ true
  walk_reached [] a b here real out = ap (is_reached q) (sym (eqb-true a b real)) ∙ here
  walk_reached (i ∷ is) a b here real out =
      let steps = and_parts (leaves g a i) (is_walk g (target g i) is b) real in
      let rest = or_parts (other a) (list_any other (files_on g (target g i) is)) out in
      let next = or_parts (other (target g i)) (list_any other (map (target g) is)) rest.1 in
      walk_reached is (target g i) b
      (reached_on (LeadsPast g right) g.files left q (length q.visits) a (target g i) tt s (omega arith) here
      (i, steps.0, refl, are.each (target g i) (target_low g a i sound steps.0) ∙ next.0)) steps.1 rest.1

  pub reached_from : (f : ℕ) → IsPast f → is_reached q f ≡ true
  reached_from f w =
      walk_reached w.walk w.source f (s.begun w.source w.among) w.real (not-true (list_any other (files_on g w.source w.walk)) w.past)
