-- A breadth-first search over steps that pass a test: the steps from a file, and what is found in the end.
use Rattle.std.proofs.Common.{◌≡◌, ℕ, zero, suc, ◌+◌, ◌<◌, ◌≤◌, Bool, true, false, cond, List, [], ◌∷◌, ◌++◌, Option, Some, None, is_some, length, map, filter, get_or, take, inl, inr, refl, sym, ap, ap₂, ◌∙◌, subst, arith}
use Rattle.std.specs.Prelude.{slice_get, slice_index_or, nat_lt, ◌==◌, ◌⊎◌}
use Rattle.std.specs.List.{range_with_len}
use Rattle.std.proofs.lemmas.List.{append_assoc, append-nil, length-map, get_or_past, map-append}
use Rattle.std.proofs.lemmas.List.FromFn.{get_or-map-range_with_len, length-map-range_with_len}
use Rattle.std.proofs.lemmas.List.Sums.{fold-append}
use Rattle.std.proofs.Math.ListN.{get_or-map}
use Rattle.std.proofs.lemmas.Option.{none-some, same_Some, slice_get_read, slice_get_within}
use Rattle.std.proofs.lemmas.Bool.{cases_lt, cond-true, cond-false, eq-eqb, eqb-true, ltb-true, and_parts, false_from_ne_true, both_ways}
use Rattle.inc_graph.specs.declared.graphs.Edge as declared
use Rattle.inc_graph.specs.declared.search.ParentStep.{ParentStep}
use Rattle.inc_graph.specs.declared.search.Visit.{Visit}
use Rattle.inc_graph.specs.IncludeGraph.{Graph, IsSound}
use Rattle.inc_graph.specs.Members.{is_member, is_distinct}
use Rattle.inc_graph.specs.Indexes.{edges_leaving, edges_entering}
use Rattle.inc_graph.specs.PathOrder.{IsAtMost, before, same}
use Rattle.inc_graph.specs.Search.{Queue, Next, first_place, first_of, place_of, is_reached, file_at, started, with_next, with_candidate, with_candidates, path_to, files_to, trail, AreCandidates, AreRising, IsRelaxed}
use Rattle.inc_graph.specs.Views.{numbered}
use Rattle.inc_graph.proofs.FirstPaths.{trail_none, first_more, first_started, relaxed_on}
use Rattle.inc_graph.proofs.FirstWalks.{numbers_rise}
use Rattle.inc_graph.proofs.PathOrder.{at_most_trans, at_most_length}
use Rattle.inc_graph.proofs.QueueLemmas.{AreFalling, parent_is, path_some, path_none, place_there, first_there, first_least, first_none}
use Rattle.inc_graph.proofs.SearchLemmas.{at_of, file_is, reached_place, search_started, search_more, candidate_taken, candidate_skipped, falling, by_step, on_paths, distinct_path, files_some, files_none, search_within}
use Rattle.inc_cut.specs.declared.flows.Step.{Step}
use Rattle.inc_cut.specs.Flows.{source_of, step_from, step_to, is_walk_by, is_path_by, IsReach, IsShortestPath}
use Rattle.inc_cut.specs.NextSteps.{ahead_of, back_of, steps_of, IsNextStep}
use Rattle.inc_cut.specs.Searches.{StepLeads, step_next, step_rank, AreLevels, IsFinished}
use Rattle.inc_cut.proofs.NextStepLemmas.{next_ahead, next_back, end_inside, step_among}
use Rattle.inc_cut.proofs.StepLists.{map_from, steps_ahead, steps_back}
use Rattle.inc_cut.proofs.StepReach.{walk_over}
use Rattle.inc_cut.proofs.PathEnds.{path_parts, path_of}

---- the steps from a file

pub passing : (g : Graph) (test : Step → Bool) (s : Step) → test s ≡ true → step_next g test s ≡ Some (record { step = s; to = step_to g s })
passing g test s is = cond-true (test s) (Some (record { step = s; to = step_to g s })) None is

pub failing : (g : Graph) (test : Step → Bool) (s : Step) → test s ≡ false → step_next g test s ≡ None
failing g test s is = cond-false (test s) (Some (record { step = s; to = step_to g s })) None is

next_is : (b : Bool) (x n : Next Step) → cond b (Some x) None ≡ Some n → (b ≡ true) × (x ≡ n)
next_is true x n is = (refl, same_Some x n is)
next_is false x n is = absurd (none-some n is)

-- an element of two lists is one of the first or of the second
at_either : {X : Type 0} (xs ys : List X) (k : ℕ) (x : X) → slice_get (xs ++ ys) k ≡ Some x → (slice_get xs k ≡ Some x) ⊎ ((j : ℕ) × (k ≡ length xs + j) × (slice_get ys j ≡ Some x))
at_either [] ys k x at = inr (k, omega arith, at)
at_either (y ∷ xs) ys zero x at = inl at
at_either (y ∷ xs) ys (suc k) x at = elim (at_either xs ys k x at) [
  | inl first ↦ inl first
  | inr second ↦ inr (second.0, (let is = second.1 in omega arith), second.2)
]

-- each of them is over an edge of the graph and leaves the file
step_at : (g : Graph) (f k : ℕ) (s : Step) → IsSound g → slice_get (steps_of g f) k ≡ Some s → (nat_lt s.edge (length g.edges) ≡ true) × (step_from g s ≡ f)
step_at g f k s sound at = elim (at_either (map ahead_of (edges_leaving g.edges f)) (map back_of (edges_entering g.edges f)) k s at) [
  | inl first ↦ let a = steps_ahead g f sound in (a.within k s first, a.from k s first)
  | inr second ↦ let b = steps_back g f sound in (b.within second.0 s second.2, b.from second.0 s second.2)
]

steps_are : (g : Graph) (test : Step → Bool) (f : ℕ) → IsSound g → AreCandidates (StepLeads g test) (step_next g test) g.files f (steps_of g f)
steps_are g test f sound = record {
  each = λ k s n at passes.
      let there = step_at g f k s sound at in
      let is = next_is (test s) (record { step = s; to = step_to g s }) n passes in
      let inside = end_inside g s.edge s.forward sound (ltb-true s.edge (length g.edges) there.0) in
      subst (λ (m : Next Step). StepLeads g test f m.step m.to × (m.to < g.files)) is.1
      ((record { within = there.0; passes = is.0 }, there.1, refl), inside);
  whole = λ s b leads.
      let there = step_among g f s sound (ltb-true s.edge (length g.edges) leads.0.within) leads.1 in
      (there.0, s, there.1, passing g test s leads.0.passes ∙ ap (λ (t : ℕ). Some (record { step = s; to = t })) leads.2);
}

-- steps ahead have the numbers of edges, and those back greater ones
rank_ahead : (g : Graph) (f k : ℕ) (s : Step) → IsSound g → slice_get (map ahead_of (edges_leaving g.edges f)) k ≡ Some s
    → (e : declared.Edge) × (slice_get (edges_leaving g.edges f) k ≡ Some e) × (step_rank g s ≡ e.id) × (e.id < length g.edges)
rank_ahead g f k s sound at =
    let e = map_from ahead_of (edges_leaving g.edges f) k s at in
    let low = ltb-true s.edge (length g.edges) ((steps_ahead g f sound).within k s at) in
    let edge : s.edge ≡ e.0.id = ap (λ (x : Step). x.edge) (sym e.2) in
    (e.0, e.1, ap (step_rank g) (sym e.2), omega arith)

rank_back : (g : Graph) (f k : ℕ) (s : Step) → slice_get (map back_of (edges_entering g.edges f)) k ≡ Some s
    → (i : ℕ) × (slice_get (edges_entering g.edges f) k ≡ Some i) × (step_rank g s ≡ length g.edges + i)
rank_back g f k s at =
    let i = map_from back_of (edges_entering g.edges f) k s at in
    (i.0, i.1, ap (step_rank g) (sym i.2))

ranks_rise : (g : Graph) (f j k : ℕ) (s t : Step) → IsSound g → j < k → slice_get (steps_of g f) j ≡ Some s → slice_get (steps_of g f) k ≡ Some t → step_rank g s < step_rank g t
ranks_rise g f j k s t sound less s_at t_at =
    let ahead : List Step = map ahead_of (edges_leaving g.edges f) in
    let back : List Step = map back_of (edges_entering g.edges f) in
    elim (at_either ahead back j s s_at) [
      | inl s_first ↦ elim (at_either ahead back k t t_at) [
        | inl t_first ↦
            let d = rank_ahead g f j s sound s_first in
            let e = rank_ahead g f k t sound t_first in
            let rise = numbers_rise (λ (x : declared.Edge). x.from == f) 0 g.edges j k d.0 e.0 less d.1 e.1 in
            omega (arith, d.2, e.2, rise)
        | inr t_second ↦
            let d = rank_ahead g f j s sound s_first in
            let e = rank_back g f t_second.0 t t_second.2 in
            omega (arith, d.2, d.3, e.2)
      ]
      | inr s_second ↦ elim (at_either ahead back k t t_at) [
        | inl t_first ↦ absurd (omega (arith, less, s_second.1, slice_get_within ahead k t t_first))
        | inr t_second ↦
            let d = rank_back g f s_second.0 s s_second.2 in
            let e = rank_back g f t_second.0 t t_second.2 in
            let x = map_from (λ (y : declared.Edge). y.id) (filter (λ (y : declared.Edge). y.to == f) (numbered g.edges)) s_second.0 d.0 d.1 in
            let z = map_from (λ (y : declared.Edge). y.id) (filter (λ (y : declared.Edge). y.to == f) (numbered g.edges)) t_second.0 e.0 e.1 in
            let under : s_second.0 < t_second.0 = omega (arith, less, s_second.1, t_second.1) in
            let rise = numbers_rise (λ (y : declared.Edge). y.to == f) 0 g.edges s_second.0 t_second.0 x.0 z.0 under x.1 z.1 in
            omega (arith, d.2, e.2, x.2, z.2, rise)
      ]
    ]

steps_rise : (g : Graph) (test : Step → Bool) (f : ℕ) → IsSound g → AreRising (step_rank g) (step_next g test) (steps_of g f)
steps_rise g test f sound j k s t m n less s_at s_is t_at t_is =
    let first = ap (λ (x : Next Step). step_rank g x.step) (next_is (test s) (record { step = s; to = step_to g s }) m s_is).1 in
    let second = ap (λ (x : Next Step). step_rank g x.step) (next_is (test t) (record { step = t; to = step_to g t }) n t_is).1 in
    let rise = ranks_rise g f j k s t sound less s_at t_at in
    omega arith

---- one step after the other

-- the edges that leave a file, as steps
pub ahead_item : (g : Graph) (f k : ℕ) (items : List declared.Edge) (e : declared.Edge) → IsSound g → items ≡ edges_leaving g.edges f → k < length items → e ≡ get_or items k e
    → IsNextStep g f (record { step = ahead_of e; to = e.to })
ahead_item g f k items e sound are low is = next_ahead g f k items e sound are (slice_get_read items (length items) k e refl low is)

-- the edges that lead to a file, as steps back
pub back_item : (g : Graph) (f k i to : ℕ) (items : List ℕ) → IsSound g → items ≡ edges_entering g.edges f → k < length items → i ≡ get_or items k i → to ≡ source_of g i
    → IsNextStep g f (record { step = back_of i; to = to })
back_item g f k i to items sound are low is at = next_back g f k i to items sound are (slice_get_read items (length items) k i refl low is) at

item_step : {X : Type 0} (f : X → Step) (items : List X) (k : ℕ) (x : X) → x ≡ get_or items k x → f x ≡ get_or (map f items) k (f x)
item_step f items k x is = ap f is ∙ sym (get_or-map f items k x)

module _ {X : Type 0} (g : Graph) (test : Step → Bool) (f : X → Step) (place : ℕ) (q r : Queue Step) (items : List X) (k : ℕ) (x : X) (s : Step) (passes : Bool) where
  pub step_taken : (t : Queue Step) (to : ℕ) → k < length items → x ≡ get_or items k x → s ≡ f x → passes ≡ test s → passes ≡ true → step_to g (f x) ≡ to
      → r ≡ with_candidates (step_next g test) place q (take k (map f items)) → t ≡ with_next place r (record { step = s; to = to }) → t ≡ with_candidates (step_next g test) place q (take (k + 1) (map f items))
  step_taken t to low at is tested yes' leads so_far made =
      let n : Next Step = record { step = f x; to = step_to g (f x) } in
      candidate_taken (step_next g test) place q r t (map f items) k (f x) n (let l = length-map items f in omega arith) (item_step f items k x at)
      (passing g test (f x) (ap test (sym is) ∙ sym tested ∙ yes')) so_far
      (made ∙ ap₂ (λ (u : Step) (b : ℕ). with_next place r (record { step = u; to = b })) is (sym leads))

  pub step_skipped : k < length items → x ≡ get_or items k x → s ≡ f x → passes ≡ test s → passes ≡ false
      → r ≡ with_candidates (step_next g test) place q (take k (map f items)) → r ≡ with_candidates (step_next g test) place q (take (k + 1) (map f items))
  step_skipped low at is tested fails so_far =
      candidate_skipped (step_next g test) place q r (map f items) k (f x) (let l = length-map items f in omega arith) (item_step f items k x at)
      (failing g test (f x) (ap test (sym is) ∙ sym tested ∙ fails)) so_far

---- from file to file

pub levels_begun : (g : Graph) (test : Step → Bool) (n : ℕ) (sources : List ℕ) (q : Queue Step) → IsSound g → n ≡ g.files → sources ≡ g.sources → q ≡ started n sources → AreLevels g test q 0
levels_begun g test n sources q sound files at begun =
    let is : q ≡ started g.files g.sources = begun ∙ ap₂ (λ a b. started a b) files at in
    let search = search_started (StepLeads g test) g.files g.sources q sound.ends.sources_within is in
    record { sound = sound; search = search; first = first_started (step_rank g) (StepLeads g test) g.files g.sources q search is }

pub levels_within : (g : Graph) (test : Step → Bool) (q : Queue Step) (taken k file : ℕ) → AreLevels g test q taken → k < length q.visits → file ≡ file_at q.visits k → file < g.files
levels_within g test q taken k file s low is = let within = search_within (StepLeads g test) g.files g.sources q taken k s.search low in omega arith

pub levels_more : (g : Graph) (test : Step → Bool) (q r t : Queue Step) (taken file : ℕ) → taken < length q.visits → file ≡ file_at q.visits taken
    → r ≡ with_candidates (step_next g test) taken q (map ahead_of (edges_leaving g.edges file)) → t ≡ with_candidates (step_next g test) taken r (map back_of (edges_entering g.edges file))
    → AreLevels g test q taken → AreLevels g test t (taken + 1)
levels_more g test q r t taken file low at ahead back s =
    let next = step_next g test in
    let v = at_of q.visits taken low in
    let is : file ≡ v.0.file = at ∙ file_is q.visits taken v.0 v.1 in
    let both : t ≡ with_candidates next taken q (steps_of g file) =
    back ∙ ap (λ (x : Queue Step). with_candidates next taken x (map back_of (edges_entering g.edges file))) ahead
    ∙ sym (fold-append (with_candidate next taken) q (map ahead_of (edges_leaving g.edges file)) (map back_of (edges_entering g.edges file))) in
    let here : t ≡ with_candidates next taken q (steps_of g v.0.file) = both ∙ ap (λ (f : ℕ). with_candidates next taken q (steps_of g f)) is in
    let candidates = steps_are g test v.0.file s.sound in
    record {
      sound = s.sound;
      search = search_more (StepLeads g test) g.sources next g.files q t taken v.0 (steps_of g v.0.file) s.search v.1 candidates here;
      first = first_more (step_rank g) (StepLeads g test) g.sources next g.files q t taken v.0 (steps_of g v.0.file) s.search s.first v.1 candidates (steps_rise g test v.0.file s.sound) here;
    }

---- what is found in the end

module _ (g : Graph) (test : Step → Bool) (q : Queue Step) (s : IsFinished g test q) where
  falls : AreFalling q.visits
  falls = falling (StepLeads g test) g.sources q s.search.reached

  -- each parent step comes from a place of the queue
  pub parent_low : (k : ℕ) (v : Visit Step) (p : ParentStep Step) → slice_get q.visits k ≡ Some v → v.parent ≡ Some p → p.from < length q.visits
  parent_low k v p at is =
      let by = by_step (StepLeads g test) g.sources q s.search.reached k v (Some p) at is in
      slice_get_within q.visits p.from by.before by.at

  pub visit_inside : (k : ℕ) (v : Visit Step) → slice_get q.visits k ≡ Some v → v.file < g.files
  visit_inside k v at = let inside = s.search.reached.inside k v at in let sized = s.search.sized in omega arith

  -- the path to a file, as a walk from a source
  record IsRoad (k : ℕ) (v : Visit Step) : Type 0 where
    source : ℕ
    among : is_member source g.sources ≡ true
    walk : is_walk_by g test source (path_to q.visits k) v.file ≡ true
    files : source ∷ map (step_to g) (path_to q.visits k) ≡ files_to q.visits k

  road_at : (k : ℕ) (v : Visit Step) → slice_get q.visits k ≡ Some v → IsRoad k v
  road_at = on_paths (StepLeads g test) g.sources q s.search.reached IsRoad
      (λ k v at none begun.
      let no_parent = parent_is q.visits k v at ∙ none in
      let empty = path_none q.visits k falls no_parent in
      record {
        source = v.file;
        among = begun;
        walk = ap (λ (p : List Step). is_walk_by g test v.file p v.file) empty ∙ eq-eqb v.file v.file refl;
        files = ap (λ (p : List Step). v.file ∷ map (step_to g) p) empty ∙ sym (files_none q.visits k falls no_parent ∙ ap (λ (f : ℕ). f ∷ []) (file_is q.visits k v at));
      })
      (λ k v p at is by before.
      let parent = parent_is q.visits k v at ∙ is in
      let path = path_some q.visits k p falls parent in
      let step = by.leads.0 in
      let a = before.source in
      record {
        source = a;
        among = before.among;
        walk = ap (λ (w : List Step). is_walk_by g test a w v.file) path
            ∙ walk_over g test a v.file (path_to q.visits p.from) [] p.step (ltb-true p.step.edge (length g.edges) step.within) step.passes
            (ap (λ (f : ℕ). is_walk_by g test a (path_to q.visits p.from) f) by.leads.1 ∙ before.walk) (eq-eqb (step_to g p.step) v.file by.leads.2);
        files = ap (λ (w : List Step). a ∷ map (step_to g) w) path ∙ ap (λ (l : List ℕ). a ∷ l) (map-append (step_to g) (path_to q.visits p.from) (p.step ∷ []))
            ∙ ap₂ (λ (l : List ℕ) (f : ℕ). l ++ f ∷ []) before.files (by.leads.2 ∙ sym (file_is q.visits k v at)) ∙ sym (files_some q.visits k p falls parent);
      })

  walk_relaxed : (w : List Step) (a b : ℕ) (xs : List ℕ) → IsRelaxed (step_rank g) q a xs → is_walk_by g test a w b ≡ true → IsRelaxed (step_rank g) q b (xs ++ map (step_rank g) w)
  walk_relaxed [] a b xs x walk = subst (λ (l : List ℕ). IsRelaxed (step_rank g) q b l) (sym (append-nil xs)) (subst (λ (n : ℕ). IsRelaxed (step_rank g) q n xs) (eqb-true a b walk) x)
  walk_relaxed (t ∷ ts) a b xs x walk =
      let parts = and_parts (nat_lt t.edge (length g.edges)) _ walk in
      let more = and_parts (test t) _ parts.1 in
      let rest = and_parts (step_from g t == a) (is_walk_by g test (step_to g t) ts b) more.1 in
      let leads : StepLeads g test a t (step_to g t) = (record { within = parts.0; passes = more.0 }, eqb-true (step_from g t) a rest.0, refl) in
      let next = relaxed_on (step_rank g) (StepLeads g test) q s.first a (step_to g t) xs t x leads in
      subst (λ (l : List ℕ). IsRelaxed (step_rank g) q b l) (append_assoc xs (step_rank g t ∷ []) (map (step_rank g) ts)) (walk_relaxed ts (step_to g t) b (xs ++ step_rank g t ∷ []) next rest.1)

  -- each walk from a source ends in a file that is reached, by a path no later
  from_source : (a : ℕ) (w : List Step) (b : ℕ) → is_member a g.sources ≡ true → is_walk_by g test a w b ≡ true → (j : ℕ) × IsRelaxed (step_rank g) q b (j ∷ map (step_rank g) w)
  from_source a w b among walk =
      let k = reached_place (place_of q a) (s.search.begun a among) in
      let v = place_there q.visits a k.0 k.1 in
      let none = s.search.roots k.0 v.0 v.1 (ap (λ (f : ℕ). is_member f g.sources) v.2 ∙ among) in (
        k.0,
        walk_relaxed w a b (k.0 ∷ [])
            (record {
              place = k.0;
              placed = k.1;
              most = same (trail_none (step_rank g) q.visits k.0 falls (parent_is q.visits k.0 v.0 v.1 ∙ none));
            }) walk,
      )

  abbrev is_end : ℕ → Bool
  is_end x = is_member x g.headers

  pub found_path : (k : ℕ) → first_place is_end q.visits ≡ Some k → is_path_by g test (path_to q.visits k) ≡ true
  found_path k first =
      let v = first_there is_end q.visits k first in
      let road = road_at k v.0 v.1 in
      path_of g test (path_to q.visits k) (record {
        source = road.source;
        begins = road.among;
        header = v.0.file;
        ends = v.2;
        walk = road.walk;
        distinct = ap is_distinct road.files ∙ distinct_path (StepLeads g test) g.sources q s.search.reached k v.0 v.1;
      })

  -- a path at an earlier place is no longer
  no_longer : (k j : ℕ) (other : List ℕ) → k ≤ j → j < length q.visits → IsAtMost (trail (step_rank g) q.visits j) other → length (path_to q.visits k) + 1 ≤ length other
  no_longer k j other under low most =
      let path_long = length-map (path_to q.visits k) (step_rank g) in
      let long : length (path_to q.visits k) + 1 ≡ length (trail (step_rank g) q.visits k) = omega arith in
      elim (cases_lt k j) [
        | inl earlier ↦ let x = at_most_length (at_most_trans (before (s.first.ordered.order k j earlier low)) most) in omega arith
        | inr later ↦
            let is : j ≡ k = omega arith in
            let x = at_most_length (subst (λ (n : ℕ). IsAtMost (trail (step_rank g) q.visits n) other) is most) in
            omega arith
      ]

  pub found_shortest : (k : ℕ) → first_place is_end q.visits ≡ Some k → IsShortestPath g test (path_to q.visits k)
  found_shortest k first = record {
    real = found_path k first;
    least = λ other is.
        let p = path_parts g test other is in
        let x = from_source p.source other p.header p.begins p.walk in
        let u = place_there q.visits p.header x.1.place x.1.placed in
        let least = first_least is_end q.visits k x.1.place u.0 first u.1 (ap is_end u.2 ∙ p.ends) in
        let long = no_longer k x.1.place (x.0 ∷ map (step_rank g) other) least (slice_get_within q.visits x.1.place u.0 u.1) x.1.most in
        let walk_long = length-map other (step_rank g) in
        omega arith;
  }

  -- the flag of a file is whether it is reached
  flag_is : (f : ℕ) → slice_index_or (map (is_reached q) (range_with_len 0 q.files)) f false ≡ is_reached q f
  flag_is f = elim (cases_lt f q.files) [
    | inl low ↦ get_or-map-range_with_len (is_reached q) 0 q.files f f false low (omega arith)
    | inr past ↦
        let none : is_reached q f ≡ false = false_from_ne_true (is_reached q f) (λ is.
        let k = reached_place (place_of q f) is in
        let v = place_there q.visits f k.0 k.1 in
        let inside = s.search.reached.inside k.0 v.0 v.1 in
        omega (arith, past, v.2, inside)) in
        get_or_past (map (is_reached q) (range_with_len 0 q.files)) f false (omega (arith, past, length-map-range_with_len (is_reached q) 0 q.files)) ∙ sym none
  ]

  pub found_reach : (reached : List Bool) → reached ≡ map (is_reached q) (range_with_len 0 q.files) → first_place is_end q.visits ≡ None → (length reached ≡ g.files) × IsReach g test (λ f. slice_index_or reached f false)
  found_reach reached are none = subst (λ (l : List Bool). (length l ≡ g.files) × IsReach g test (λ f. slice_index_or l f false)) (sym are) (
    length-map-range_with_len (is_reached q) 0 q.files ∙ s.search.sized,
    record {
      exact = λ f. (
        (λ is.
            let k = reached_place (place_of q f) (sym (flag_is f) ∙ is) in
            let v = place_there q.visits f k.0 k.1 in
            let road = road_at k.0 v.0 v.1 in
            record {
              source = road.source;
              among = road.among;
              walk = path_to q.visits k.0;
              real = ap (λ (x : ℕ). is_walk_by g test road.source (path_to q.visits k.0) x) (sym v.2) ∙ road.walk;
            }),
        (λ w. flag_is f ∙ ap is_some ((from_source w.source w.walk f w.among w.real).1).placed),
      );
      closed = λ h ends. flag_is h ∙ false_from_ne_true (is_reached q h) (λ is.
          let k = reached_place (place_of q h) is in
          let v = place_there q.visits h k.0 k.1 in
          both_ways (is_end v.0.file) (first_none is_end q.visits k.0 v.0 none v.1) (ap is_end v.2 ∙ ends));
    },
  )

---- the first header that is reached, as the code finds it

pub first_end : (g : Graph) (q : Queue Step) (headers : List ℕ) (first o : Option ℕ) → headers ≡ g.headers → first ≡ first_of q headers → first ≡ o
    → first_place (λ x. is_member x g.headers) q.visits ≡ o
first_end g q headers first o are found is = ap (λ (hs : List ℕ). first_place (λ x. is_member x hs) q.visits) (sym are) ∙ sym found ∙ is

pub first_low : (q : Queue Step) (p : ℕ → Bool) (k : ℕ) → first_place p q.visits ≡ Some k → k < length q.visits
first_low q p k is = let v = first_there p q.visits k is in slice_get_within q.visits k v.0 v.1
