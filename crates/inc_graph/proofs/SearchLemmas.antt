-- What a breadth-first search has reached: how it starts, what the steps from a file do to it, and what it has found in the end.
use Rattle.std.proofs.Common.{◌≡◌, ℕ, zero, suc, ◌+◌, ◌<◌, ◌≤◌, true, false, List, [], ◌∷◌, ◌++◌, Option, Some, None, is_some, length, take, get_or, inl, inr, refl, sym, ap, ◌∙◌, subst, arith, ap₂}
use Rattle.std.specs.Prelude.{slice_get, option_and_then, fold, ◌==◌}
use Rattle.std.specs.Option.{option_map_or}
use Rattle.std.specs.List.{All}
use Rattle.std.proofs.lemmas.List.{length_push}
use Rattle.std.proofs.lemmas.List.Sums.{fold_more}
use Rattle.std.proofs.lemmas.List.Elements.{All-head, All-tail, All-nil, All-cons}
use Rattle.std.proofs.lemmas.Option.{none-some, same_Some, slice_get_within}
use Rattle.std.proofs.lemmas.Bool.{cases_lt, eq-eqb, eqb-true, ne_eqb, or_cases, or_from, or_left, or_right, false≢true}
use Rattle.inc_graph.specs.declared.search.ParentStep.{ParentStep}
use Rattle.inc_graph.specs.declared.search.Visit.{Visit}
use Rattle.inc_graph.specs.Members.{is_member, is_distinct}
use Rattle.inc_graph.specs.Search.{parent_at, files_to, start_of, Queue, place_of, place_among, is_reached, with_visit, with_start, started, Next, with_next, with_candidate, with_candidates, file_at, IsParent, IsReachedBy, AreReached, IsSearch, AreCandidates}
use Rattle.inc_graph.proofs.Walks.{distinct_push, member_push}
use Rattle.inc_graph.proofs.Lists.{push_at, push_keeps}
use Rattle.inc_graph.proofs.QueueLemmas.{AreFalling, parent_is, place_there, place_push-kept, place_push-new, along_some, along_none}

-- an element by its place
pub at_of : {X : Type 0} (xs : List X) (i : ℕ) → i < length xs → (x : X) × (slice_get xs i ≡ Some x)
at_of [] i less = absurd (omega arith)
at_of (x ∷ xs) zero less = (x, refl)
at_of (x ∷ xs) (suc i) less = at_of xs i (omega arith)

---- what stays

-- r has what q has, at the same places
pub record IsGrown {S : Type 0} (q r : Queue S) : Type 0 where
  -- of as many files
  pub files : r.files ≡ q.files
  -- a file keeps its place
  pub kept : (f k : ℕ) → place_of q f ≡ Some k → place_of r f ≡ Some k
  -- a place keeps its visit
  pub stays : (k : ℕ) (v : Visit S) → slice_get q.visits k ≡ Some v → slice_get r.visits k ≡ Some v
  -- none is lost
  pub longer : length q.visits ≤ length r.visits

pub reached_place : (o : Option ℕ) → is_some o ≡ true → (k : ℕ) × (o ≡ Some k)
reached_place None is = absurd (false≢true is)
reached_place (Some k) is = (k, refl)

pub grown_reached : {S : Type 0} (q r : Queue S) (f : ℕ) → IsGrown q r → is_reached q f ≡ true → is_reached r f ≡ true
grown_reached q r f grown is = let k = reached_place (place_of q f) is in ap is_some (grown.kept f k.0 k.1)

pub grown_same : {S : Type 0} (q : Queue S) → IsGrown q q
grown_same q = record { files = refl; kept = λ f k at. at; stays = λ k v at. at; longer = omega arith }

pub grown_further : {S : Type 0} (q r t : Queue S) → IsGrown q r → IsGrown r t → IsGrown q t
grown_further q r t g h = record {
  files = h.files ∙ g.files;
  kept = λ f k at. h.kept f k (g.kept f k at);
  stays = λ k v at. h.stays k v (g.stays k v at);
  longer = let a = g.longer in let b = h.longer in omega arith;
}

-- the queue after a visit: as it was, where the file has a place, and one longer, where it has none
pub visit_known : {S : Type 0} (v : Visit S) (q : Queue S) (k : ℕ) → place_of q v.file ≡ Some k → with_visit v q ≡ q
visit_known v q k at = rw at refl

pub visit_new : {S : Type 0} (v : Visit S) (q : Queue S) → place_of q v.file ≡ None → with_visit v q ≡ record { files = q.files; visits = q.visits ++ v ∷ [] }
visit_new v q at = rw at refl

pub grown_push : {S : Type 0} (v : Visit S) (q : Queue S) → IsGrown q (record { files = q.files; visits = q.visits ++ v ∷ [] })
grown_push v q = record {
  files = refl;
  kept = λ f k at. place_push-kept q.visits v f k at;
  stays = λ k x at. push_keeps q.visits v k x at;
  longer = let l = length_push q.visits v in omega arith;
}

pub grown_visit : {S : Type 0} (v : Visit S) (q : Queue S) (o : Option ℕ) → place_of q v.file ≡ o → IsGrown q (with_visit v q)
grown_visit v q None at = rw (visit_new v q at) (grown_push v q)
grown_visit v q (Some k) at = rw (visit_known v q k at) (grown_same q)

pub reached_visit : {S : Type 0} (v : Visit S) (q : Queue S) (o : Option ℕ) → place_of q v.file ≡ o → is_reached (with_visit v q) v.file ≡ true
reached_visit v q None at = rw (visit_new v q at) (ap is_some (place_push-new q.visits v at))
reached_visit v q (Some k) at = rw (visit_known v q k at) (ap is_some at)

---- a file that a step reaches

kept_by : {S : Type 0} (Leads : ℕ → S → ℕ → Type 0) (starts : List ℕ) (vs : List (Visit S)) (x : Visit S) (k file : ℕ) (o : Option (ParentStep S))
    → IsReachedBy Leads starts vs k file o → IsReachedBy Leads starts (vs ++ x ∷ []) k file o
kept_by Leads starts vs x k file None by = by
kept_by Leads starts vs x k file (Some p) by = record {
  earlier = by.earlier;
  before = by.before;
  at = push_keeps vs x p.from by.before by.at;
  leads = by.leads;
}

reached_new : {S : Type 0} (Leads : ℕ → S → ℕ → Type 0) (starts : List ℕ) (q : Queue S) (v : Visit S) → AreReached Leads starts q → place_of q v.file ≡ None → v.file < q.files
    → IsReachedBy Leads starts q.visits (length q.visits) v.file v.parent → AreReached Leads starts (record { files = q.files; visits = q.visits ++ v ∷ [] })
reached_new {S} Leads starts q v r none low by = record {
  inside = λ k x at. elim (push_at q.visits v k x at) [
    | inl old ↦ r.inside k x old.1
    | inr new ↦ subst (λ (y : Visit S). y.file < q.files) new.1 low
  ];
  once = λ k x at. elim (push_at q.visits v k x at) [
    | inl old ↦ place_push-kept q.visits v x.file k (r.once k x old.1)
    | inr new ↦
        subst (λ (y : Visit S). place_among (q.visits ++ v ∷ []) y.file ≡ Some k) new.1 (place_push-new q.visits v none ∙ ap (λ (n : ℕ). Some n) (sym new.0))
  ];
  entries = λ k x at. elim (push_at q.visits v k x at) [
    | inl old ↦ kept_by Leads starts q.visits v k x.file x.parent (r.entries k x old.1)
    | inr new ↦
        let there : IsReachedBy Leads starts (q.visits ++ v ∷ []) (length q.visits) v.file v.parent = kept_by Leads starts q.visits v (length q.visits) v.file v.parent by in
        rw (new.0, ← new.1) there
  ];
}

reached_visit-any : {S : Type 0} (Leads : ℕ → S → ℕ → Type 0) (starts : List ℕ) (q : Queue S) (v : Visit S) (o : Option ℕ) → AreReached Leads starts q → place_of q v.file ≡ o → v.file < q.files
    → IsReachedBy Leads starts q.visits (length q.visits) v.file v.parent → AreReached Leads starts (with_visit v q)
reached_visit-any Leads starts q v None r at low by = rw (visit_new v q at) (reached_new Leads starts q v r at low by)
reached_visit-any Leads starts q v (Some k) r at low by = rw (visit_known v q k at) r

-- by a step from the file at a place
reached_next : {S : Type 0} (Leads : ℕ → S → ℕ → Type 0) (starts : List ℕ) (q : Queue S) (place : ℕ) (front : Visit S) (n : Next S) → AreReached Leads starts q
    → slice_get q.visits place ≡ Some front → Leads front.file n.step n.to → n.to < q.files → AreReached Leads starts (with_next place q n)
reached_next {S} Leads starts q place front n r at leads low =
    let v : Visit S = record { file = n.to; parent = Some (record { step = n.step; from = place }) } in
    reached_visit-any Leads starts q v (place_of q n.to) r refl low
    (record { earlier = slice_get_within q.visits place front at; before = front; at = at; leads = leads })

---- the steps from a file

pub grown_candidate : {C S : Type 0} (test : C → Option (Next S)) (place : ℕ) (q : Queue S) (c : C) (o : Option (Next S)) → test c ≡ o → IsGrown q (with_candidate test place q c)
grown_candidate test place q c None is = rw is (grown_same q)
grown_candidate test place q c (Some n) is = rw is (grown_visit (record { file = n.to; parent = Some (record { step = n.step; from = place }) }) q (place_of q n.to) refl)

pub grown_candidates : {C S : Type 0} (test : C → Option (Next S)) (place : ℕ) (q : Queue S) (cs : List C) → IsGrown q (with_candidates test place q cs)
grown_candidates test place q [] = grown_same q
grown_candidates test place q (c ∷ cs) =
    grown_further q (with_candidate test place q c) (with_candidates test place (with_candidate test place q c) cs)
    (grown_candidate test place q c (test c) refl) (grown_candidates test place (with_candidate test place q c) cs)

-- each that passes the test leads to a file that is reached then
reached_one : {C S : Type 0} (test : C → Option (Next S)) (place : ℕ) (q : Queue S) (c : C) (n : Next S) → test c ≡ Some n → is_reached (with_candidate test place q c) n.to ≡ true
reached_one test place q c n is = rw is (reached_visit (record { file = n.to; parent = Some (record { step = n.step; from = place }) }) q (place_of q n.to) refl)

reached_each : {C S : Type 0} (test : C → Option (Next S)) (place : ℕ) (q : Queue S) (cs : List C) (k : ℕ) (c : C) (n : Next S) → slice_get cs k ≡ Some c → test c ≡ Some n
    → is_reached (with_candidates test place q cs) n.to ≡ true
reached_each test place q [] k c n at is = absurd (none-some c at)
reached_each test place q (x ∷ xs) zero c n at is =
    grown_reached (with_candidate test place q x) (with_candidates test place (with_candidate test place q x) xs) n.to (grown_candidates test place (with_candidate test place q x) xs)
    (reached_one test place q x n (ap test (same_Some x c at) ∙ is))
reached_each test place q (x ∷ xs) (suc k) c n at is = reached_each test place (with_candidate test place q x) xs k c n at is

module _ {C S : Type 0} (Leads : ℕ → S → ℕ → Type 0) (starts : List ℕ) (test : C → Option (Next S)) where
  pub reached_candidate : (place : ℕ) (q : Queue S) (front : Visit S) (c : C) (o : Option (Next S)) → AreReached Leads starts q → slice_get q.visits place ≡ Some front
      → test c ≡ o → ((n : Next S) → o ≡ Some n → Leads front.file n.step n.to × (n.to < q.files)) → AreReached Leads starts (with_candidate test place q c)
  reached_candidate place q front c None r at is leads = rw is r
  reached_candidate place q front c (Some n) r at is leads = let l = leads n refl in rw is (reached_next Leads starts q place front n r at l.0 l.1)

  pub reached_candidates : (place : ℕ) (q : Queue S) (front : Visit S) (cs : List C) → AreReached Leads starts q → slice_get q.visits place ≡ Some front
      → ((k : ℕ) (c : C) (n : Next S) → slice_get cs k ≡ Some c → test c ≡ Some n → Leads front.file n.step n.to × (n.to < q.files)) → AreReached Leads starts (with_candidates test place q cs)
  reached_candidates place q front [] r at each = r
  reached_candidates place q front (c ∷ cs) r at each =
      let q2 : Queue S = with_candidate test place q c in
      let grown : IsGrown q q2 = grown_candidate test place q c (test c) refl in
      reached_candidates place q2 front cs
      (reached_candidate place q front c (test c) r at refl (λ n is. each 0 c n refl is)) (grown.stays place front at)
      (λ k d n there is. let l = each (suc k) d n there is in (l.0, subst (λ (f : ℕ). n.to < f) (sym grown.files) l.1))

  pub candidates_low : (files : ℕ) (q : Queue S) (file : ℕ) (cs : List C) → q.files ≡ files → AreCandidates Leads test files file cs
      → (k : ℕ) (c : C) (n : Next S) → slice_get cs k ≡ Some c → test c ≡ Some n → Leads file n.step n.to × (n.to < q.files)
  candidates_low files q file cs sized candidates k c n at is = let l = candidates.each k c n at is in (l.0, subst (λ (m : ℕ). n.to < m) (sym sized) l.1)

  -- one more file is taken
  pub search_more : (files : ℕ) (q r : Queue S) (taken : ℕ) (front : Visit S) (cs : List C) → IsSearch Leads files starts q taken → slice_get q.visits taken ≡ Some front
      → AreCandidates Leads test files front.file cs → r ≡ with_candidates test taken q cs → IsSearch Leads files starts r (taken + 1)
  search_more files q r taken front cs s at_front candidates is =
      let t : Queue S = with_candidates test taken q cs in
      let grown : IsGrown q t = grown_candidates test taken q cs in
      let within = slice_get_within q.visits taken front at_front in
      let each = candidates_low files q front.file cs s.sized candidates in
      subst (λ (x : Queue S). IsSearch Leads files starts x (taken + 1)) (sym is) (record {
        sized = grown.files ∙ s.sized;
        reached = reached_candidates taken q front cs s.reached at_front each;
        begun = λ f is. grown_reached q t f grown (s.begun f is);
        roots = λ k v at start.
            let old = reached_place (place_of q v.file) (s.begun v.file start) in
            let u = place_there q.visits v.file old.0 old.1 in
            let after : AreReached Leads starts t = reached_candidates taken q front cs s.reached at_front each in
            let same_place : old.0 ≡ k = same_Some old.0 k (sym (grown.kept v.file old.0 old.1) ∙ after.once k v at) in
            let same : u.0 ≡ v = same_Some u.0 v (sym (grown.stays old.0 u.0 u.1) ∙ ap (slice_get t.visits) same_place ∙ at) in
            ap (λ (x : Visit S). x.parent) (sym same) ∙ s.roots old.0 u.0 u.1 (ap (λ (x : Visit S). is_member x.file starts) same ∙ start);
        taken_within = let l = grown.longer in omega arith;
        closed = λ k v step b low there leads. elim (cases_lt k taken) [
          | inl before ↦
              let old = at_of q.visits k (omega arith) in
              let same : old.0 ≡ v = same_Some old.0 v (sym (grown.stays k old.0 old.1) ∙ there) in
              grown_reached q t b grown (s.closed k v step b before (old.1 ∙ ap (λ (x : Visit S). Some x) same) leads)
          | inr now ↦
              let same_place : k ≡ taken = omega arith in
              let same : front ≡ v = same_Some front v (sym (grown.stays taken front at_front) ∙ ap (slice_get t.visits) (sym same_place) ∙ there) in
              let c = candidates.whole step b (subst (λ (x : Visit S). Leads x.file step b) (sym same) leads) in
              reached_each test taken q cs c.0 c.1 (record { step = step; to = b }) c.2 c.3
        ];
      })

---- the start

pub grown_starts : {S : Type 0} (q : Queue S) (starts : List ℕ) → IsGrown q (fold with_start q starts)
grown_starts q [] = grown_same q
grown_starts q (f ∷ fs) =
    grown_further q (with_start q f) (fold with_start (with_start q f) fs) (grown_visit (record { file = f; parent = None }) q (place_of q f) refl) (grown_starts (with_start q f) fs)

-- the starts so far are among all files
pub start_low : (S : Type 0) (files : ℕ) (starts : List ℕ) (i f : ℕ) (q : Queue S) → All (λ x. x < files) starts → i < length starts → f ≡ get_or starts i f
    → q ≡ started files (take i starts) → f < q.files
start_low S files starts i f q low within is begun =
    let none : Queue S = record { files = files; visits = [] } in
    let same : q.files ≡ files = ap (λ (x : Queue S). x.files) begun ∙ (grown_starts none (take i starts)).files in
    let less : get_or starts i f < files = low i f within in
    omega arith

start_reached : {S : Type 0} (q : Queue S) (starts : List ℕ) (f : ℕ) → is_member f starts ≡ true → is_reached (fold with_start q starts) f ≡ true
start_reached q [] f is = absurd (false≢true is)
start_reached {S} q (x ∷ xs) f is = elim (or_cases (x == f) (is_member f xs) is) [
  | inl here ↦
      let v : Visit S = record { file = x; parent = None } in
      grown_reached (with_start q x) (fold with_start (with_start q x) xs) f (grown_starts (with_start q x) xs)
      (ap (λ n. is_reached (with_start q x) n) (sym (eqb-true x f here)) ∙ reached_visit v q (place_of q x) refl)
  | inr later ↦ start_reached (with_start q x) xs f later
]

starts_are : {S : Type 0} (Leads : ℕ → S → ℕ → Type 0) (all : List ℕ) (q : Queue S) (starts : List ℕ) → AreReached Leads all q → All (λ f. f < q.files) starts
    → ((f : ℕ) → is_member f starts ≡ true → is_member f all ≡ true) → AreReached Leads all (fold with_start q starts)
starts_are Leads all q [] r low among = r
starts_are {S} Leads all q (f ∷ fs) r low among =
    let v : Visit S = record { file = f; parent = None } in
    let grown : IsGrown q (with_start q f) = grown_visit v q (place_of q f) refl in
    let P : ℕ → Type 0 = λ n. All (λ x. x < n) fs in
    starts_are Leads all (with_start q f) fs
    (reached_visit-any Leads all q v (place_of q f) r refl (All-head (λ x. x < q.files) f fs low) (among f (or_left (f == f) (is_member f fs) (eq-eqb f f refl))))
    (subst P (sym grown.files) (All-tail (λ x. x < q.files) f fs low))
    (λ x is. among x (or_right (f == x) (is_member x fs) is))

-- no start has a parent step
pub starts_roots : {S : Type 0} (q : Queue S) (starts : List ℕ) → ((k : ℕ) (v : Visit S) → slice_get q.visits k ≡ Some v → v.parent ≡ None)
    → (k : ℕ) (v : Visit S) → slice_get (fold with_start q starts).visits k ≡ Some v → v.parent ≡ None
starts_roots q [] roots = roots
starts_roots {S} q (f ∷ fs) roots = starts_roots (with_start q f) fs (with_one (place_of q f) refl)
  where
    with_one : (o : Option ℕ) → place_of q f ≡ o → (k : ℕ) (v : Visit S) → slice_get (with_start q f).visits k ≡ Some v → v.parent ≡ None
    with_one (Some j) at k v there = roots k v (ap (λ (r : Queue S). slice_get r.visits k) (sym (visit_known (record { file = f; parent = None }) q j at)) ∙ there)
    with_one None at k v there =
        let x : Visit S = record { file = f; parent = None } in
        elim (push_at q.visits x k v (ap (λ (r : Queue S). slice_get r.visits k) (sym (visit_new x q at)) ∙ there)) [
          | inl old ↦ roots k v old.1
          | inr new ↦ ap (λ (y : Visit S). y.parent) (sym new.1)
        ]

pub search_started : {S : Type 0} (Leads : ℕ → S → ℕ → Type 0) (files : ℕ) (starts : List ℕ) (q : Queue S) → All (λ f. f < files) starts → q ≡ started files starts → IsSearch Leads files starts q 0
search_started {S} Leads files starts q low is =
    let none : Queue S = record { files = files; visits = [] } in
    let empty : AreReached Leads starts none = record {
      inside = λ k v at. absurd (none-some v at);
      once = λ k v at. absurd (none-some v at);
      entries = λ k v at. absurd (none-some v at);
    } in
    subst (λ (x : Queue S). IsSearch Leads files starts x 0) (sym is) (record {
      sized = (grown_starts none starts).files;
      reached = starts_are Leads starts none starts empty low (λ f within. within);
      begun = λ f within. start_reached none starts f within;
      roots = λ k v at within. starts_roots none starts (λ j u there. absurd (none-some u there)) k v at;
      taken_within = omega arith;
      closed = λ k v s b less. absurd (omega arith);
    })

-- the file at a place
pub file_is : {S : Type 0} (vs : List (Visit S)) (k : ℕ) (v : Visit S) → slice_get vs k ≡ Some v → file_at vs k ≡ v.file
file_is {S} vs k v at = ap (λ (o : Option (Visit S)). option_map_or (λ (x : Visit S). x.file) o 0) at

-- from one start
pub begun_one : {S : Type 0} (n files from start : ℕ) (q : Queue S) → n ≡ files → from ≡ start → q ≡ started n (from ∷ []) → q ≡ started files (start ∷ [])
begun_one n files from start q all at is = is ∙ ap₂ (λ a b. started a (b ∷ [])) all at

pub one_within : (start files : ℕ) → start < files → All (λ f. f < files) (start ∷ [])
one_within start files low = All-cons (λ f. f < files) start [] low (All-nil (λ f. f < files))

pub one_member : (start f : ℕ) → is_member f (start ∷ []) ≡ true → start ≡ f
one_member start f is = elim (or_cases (start == f) false is) [ inl here ↦ eqb-true start f here | inr never ↦ absurd (false≢true never) ]

pub one_is : (start f : ℕ) → start ≡ f → is_member f (start ∷ []) ≡ true
one_is start f is = or_left (start == f) false (eq-eqb start f is)

---- what is found

module _ {S : Type 0} (Leads : ℕ → S → ℕ → Type 0) (starts : List ℕ) (q : Queue S) (r : AreReached Leads starts q) where
  pub by_step : (k : ℕ) (v : Visit S) (o : Option (ParentStep S)) → slice_get q.visits k ≡ Some v → v.parent ≡ o → IsReachedBy Leads starts q.visits k v.file o
  by_step k v o at is = subst (λ (p : Option (ParentStep S)). IsReachedBy Leads starts q.visits k v.file p) is (r.entries k v at)

  pub falling : AreFalling q.visits
  falling k p at = by_visit (slice_get q.visits k) refl
    where
      by_visit : (o : Option (Visit S)) → slice_get q.visits k ≡ o → p.from < k
      by_visit None none = absurd (none-some p (ap (λ (o : Option (Visit S)). option_and_then (λ (v : Visit S). v.parent) o) (sym none) ∙ at))
      by_visit (Some v) there = (by_step k v (Some p) there (sym (parent_is q.visits k v there) ∙ at)).earlier

  -- what holds at each start, and goes on by each step, holds at each place
  on_paths_by : (P : ℕ → Visit S → Type 0) → ((k : ℕ) (v : Visit S) → slice_get q.visits k ≡ Some v → v.parent ≡ None → is_member v.file starts ≡ true → P k v)
      → ((k : ℕ) (v : Visit S) (p : ParentStep S) → slice_get q.visits k ≡ Some v → v.parent ≡ Some p → (by : IsParent Leads q.visits k v.file p) → P p.from by.before → P k v)
      → (k : ℕ) (v : Visit S) (o : Option (ParentStep S)) → slice_get q.visits k ≡ Some v → v.parent ≡ o
      → ((j : ℕ) (u : Visit S) → j < k → slice_get q.visits j ≡ Some u → P j u) → P k v
  on_paths_by P start step k v None at is before = start k v at is (by_step k v None at is)
  on_paths_by P start step k v (Some p) at is before =
      let by = by_step k v (Some p) at is in
      step k v p at is by (before p.from by.before by.earlier by.at)

  on_paths_below : (P : ℕ → Visit S → Type 0) → ((k : ℕ) (v : Visit S) → slice_get q.visits k ≡ Some v → v.parent ≡ None → is_member v.file starts ≡ true → P k v)
      → ((k : ℕ) (v : Visit S) (p : ParentStep S) → slice_get q.visits k ≡ Some v → v.parent ≡ Some p → (by : IsParent Leads q.visits k v.file p) → P p.from by.before → P k v)
      → (n k : ℕ) (v : Visit S) → k < n → slice_get q.visits k ≡ Some v → P k v
  on_paths_below P start step zero k v low at = absurd (omega arith)
  on_paths_below P start step (suc n) k v low at =
      on_paths_by P start step k v v.parent at refl (λ j u less there. on_paths_below P start step n j u (omega arith) there)

  pub on_paths : (P : ℕ → Visit S → Type 0) → ((k : ℕ) (v : Visit S) → slice_get q.visits k ≡ Some v → v.parent ≡ None → is_member v.file starts ≡ true → P k v)
      → ((k : ℕ) (v : Visit S) (p : ParentStep S) → slice_get q.visits k ≡ Some v → v.parent ≡ Some p → (by : IsParent Leads q.visits k v.file p) → P p.from by.before → P k v)
      → (k : ℕ) (v : Visit S) → slice_get q.visits k ≡ Some v → P k v
  on_paths P start step k v at = on_paths_below P start step (suc k) k v (omega arith) at

  -- in terms of a file alone
  pub holds_reached : (P : ℕ → Type 0) → ((f : ℕ) → is_member f starts ≡ true → P f) → ((a b : ℕ) (s : S) → Leads a s b → P a → P b) → (f : ℕ) → is_reached q f ≡ true → P f
  holds_reached P start step f is =
      let k = reached_place (place_of q f) is in
      let v = place_there q.visits f k.0 k.1 in
      subst P v.2 (on_paths (λ j (u : Visit S). P u.file) (λ j u at none begun. start u.file begun) (λ j u p at is2 by before. step by.before.file u.file p.step by.leads before) k.0 v.0 v.1)

  -- files at two places are two
  pub two_files : (j k : ℕ) (u v : Visit S) → slice_get q.visits j ≡ Some u → slice_get q.visits k ≡ Some v → u.file ≡ v.file → j ≡ k
  two_files j k u v u_at v_at same = same_Some j k (sym (r.once j u u_at) ∙ ap (place_of q) same ∙ r.once k v v_at)

  pub inside_at : (k : ℕ) → k < length q.visits → file_at q.visits k < q.files
  inside_at k low =
      let v = at_of q.visits k low in
      let is : file_at q.visits k ≡ v.0.file = ap (λ (o : Option (Visit S)). option_map_or (λ (x : Visit S). x.file) o 0) v.1 in
      let inside = r.inside k v.0 v.1 in
      omega arith

-- the files on a path are those at places that rise
pub files_some : {S : Type 0} (vs : List (Visit S)) (k : ℕ) (p : ParentStep S) → AreFalling vs → parent_at vs k ≡ Some p → files_to vs k ≡ files_to vs p.from ++ file_at vs k ∷ []
files_some {S} vs k p falls at = along_some (λ j. file_at vs j ∷ []) (λ files j (s : S). files ++ file_at vs j ∷ []) vs k p falls at

pub start_some : {S : Type 0} (vs : List (Visit S)) (k : ℕ) (p : ParentStep S) → AreFalling vs → parent_at vs k ≡ Some p → start_of vs k ≡ start_of vs p.from
start_some {S} vs k p falls at = along_some (λ j. j) (λ start j (s : S). start) vs k p falls at

pub start_none : {S : Type 0} (vs : List (Visit S)) (k : ℕ) → AreFalling vs → parent_at vs k ≡ None → start_of vs k ≡ k
start_none {S} vs k falls at = along_none (λ j. j) (λ start j (s : S). start) vs k falls at

pub files_none : {S : Type 0} (vs : List (Visit S)) (k : ℕ) → AreFalling vs → parent_at vs k ≡ None → files_to vs k ≡ file_at vs k ∷ []
files_none {S} vs k falls at = along_none (λ j. file_at vs j ∷ []) (λ files j (s : S). files ++ file_at vs j ∷ []) vs k falls at

module _ {S : Type 0} (Leads : ℕ → S → ℕ → Type 0) (starts : List ℕ) (q : Queue S) (r : AreReached Leads starts q) where
  -- no file is twice on a path, and none at a later place is on it
  record AreApart (k : ℕ) (v : Visit S) : Type 0 where
    -- the path has no file twice
    distinct : is_distinct (files_to q.visits k) ≡ true
    -- a file at a later place is not on it
    later : (j : ℕ) (u : Visit S) → k < j → slice_get q.visits j ≡ Some u → is_member u.file (files_to q.visits k) ≡ false

  other_file : (j k : ℕ) (u v : Visit S) → slice_get q.visits j ≡ Some u → slice_get q.visits k ≡ Some v → k < j → file_at q.visits k ≡ u.file → ⊥
  other_file j k u v u_at v_at less same =
      let is : k ≡ j = two_files Leads starts q r k j v u v_at u_at (sym (file_is q.visits k v v_at) ∙ same) in
      omega arith

  apart_at : (k : ℕ) (v : Visit S) → slice_get q.visits k ≡ Some v → AreApart k v
  apart_at = on_paths Leads starts q r AreApart
      (λ k v at none begun.
      let files = files_none q.visits k (falling Leads starts q r) (parent_is q.visits k v at ∙ none) in
      record {
        distinct = rw files refl;
        later = λ j u less u_at. ap (is_member u.file) files ∙ or_from (file_at q.visits k == u.file) false (ne_eqb (file_at q.visits k) u.file (other_file j k u v u_at at less)) refl;
      })
      (λ k v p at is by before.
      let files = files_some q.visits k p (falling Leads starts q r) (parent_is q.visits k v at ∙ is) in
      let here : is_member (file_at q.visits k) (files_to q.visits p.from) ≡ false = ap (λ (f : ℕ). is_member f (files_to q.visits p.from)) (file_is q.visits k v at) ∙ before.later k v by.earlier at in
      record {
        distinct = ap is_distinct files ∙ distinct_push (files_to q.visits p.from) (file_at q.visits k) before.distinct here;
        later = λ j u less u_at. ap (is_member u.file) files
            ∙ member_push u.file (files_to q.visits p.from) (file_at q.visits k) (before.later j u (let e = by.earlier in omega arith) u_at) (other_file j k u v u_at at less);
      })

  pub distinct_path : (k : ℕ) (v : Visit S) → slice_get q.visits k ≡ Some v → is_distinct (files_to q.visits k) ≡ true
  distinct_path k v at = (apart_at k v at).distinct

  -- of one start the place is the first
  pub only_start : (f k : ℕ) (v : Visit S) → (s : starts ≡ f ∷ []) → slice_get q.visits k ≡ Some v → v.parent ≡ None → k ≡ 0
  only_start f k v s at none = by_first (at_of q.visits 0 (let low = slice_get_within q.visits k v at in omega arith))
    where
      is_only : (u : Visit S) → is_member u.file starts ≡ true → f ≡ u.file
      is_only u is = one_member f u.file (ap (is_member u.file) (sym s) ∙ is)

      by_first : (x : (u : Visit S) × (slice_get q.visits 0 ≡ Some u)) → k ≡ 0
      by_first x =
          let root : x.0.parent ≡ None = by_parent x.0.parent refl in
          two_files Leads starts q r k 0 v x.0 at x.1 (sym (is_only v (by_step Leads starts q r k v None at none)) ∙ is_only x.0 (by_step Leads starts q r 0 x.0 None x.1 root))
        where
          by_parent : (o : Option (ParentStep S)) → x.0.parent ≡ o → x.0.parent ≡ None
          by_parent None is = is
          by_parent (Some p) is = let low = (by_step Leads starts q r 0 x.0 (Some p) x.1 is).earlier in absurd (omega arith)

-- a file of the queue is one of the files
pub search_within : {S : Type 0} (Leads : ℕ → S → ℕ → Type 0) (files : ℕ) (starts : List ℕ) (q : Queue S) (taken k : ℕ) → IsSearch Leads files starts q taken → k < length q.visits → file_at q.visits k < files
search_within Leads files starts q taken k s low = let inside = inside_at Leads starts q s.reached k low in let sized = s.sized in omega arith

-- a step from a file that is reached leads to one that is
pub reached_on : {S : Type 0} (Leads : ℕ → S → ℕ → Type 0) (files : ℕ) (starts : List ℕ) (q : Queue S) (taken a b : ℕ) (s : S) → IsSearch Leads files starts q taken → length q.visits ≤ taken
    → is_reached q a ≡ true → Leads a s b → is_reached q b ≡ true
reached_on {S} Leads files starts q taken a b s h end is leads =
    let k = reached_place (place_of q a) is in
    let v = place_there q.visits a k.0 k.1 in
    let low = slice_get_within q.visits k.0 v.0 v.1 in
    h.closed k.0 v.0 s b (omega arith) v.1 (subst (λ (f : ℕ). Leads f s b) (sym v.2) leads)

---- candidates one by one

pub candidates_room : {C S : Type 0} (test : C → Option (Next S)) (place : ℕ) (q r : Queue S) (cs : List C) → r ≡ with_candidates test place q cs → place < length q.visits
    → (place < length r.visits) × (r.files ≡ q.files)
candidates_room test place q r cs is low =
    let grown = grown_candidates test place q cs in
    let same = ap (λ (x : Queue _). length x.visits) is in
    (let l = grown.longer in omega arith, ap (λ (x : Queue _). x.files) is ∙ grown.files)

pub candidate_taken : {C S : Type 0} (test : C → Option (Next S)) (place : ℕ) (q r t : Queue S) (cs : List C) (i : ℕ) (c : C) (n : Next S) → i < length cs → c ≡ get_or cs i c → test c ≡ Some n
    → r ≡ with_candidates test place q (take i cs) → t ≡ with_next place r n → t ≡ with_candidates test place q (take (i + 1) cs)
candidate_taken {C} {S} test place q r t cs i c n low at passes so_far made =
    let by : with_candidate test place r c ≡ with_next place r n = ap (λ (o : Option (Next S)). option_map_or (with_next place r) o r) passes in
    made ∙ sym by ∙ ap (λ (x : Queue S). with_candidate test place x c) so_far
    ∙ sym (fold_more (with_candidate test place) q cs i c low ∙ ap (with_candidate test place (with_candidates test place q (take i cs))) (sym at))

pub candidate_skipped : {C S : Type 0} (test : C → Option (Next S)) (place : ℕ) (q r : Queue S) (cs : List C) (i : ℕ) (c : C) → i < length cs → c ≡ get_or cs i c → test c ≡ None
    → r ≡ with_candidates test place q (take i cs) → r ≡ with_candidates test place q (take (i + 1) cs)
candidate_skipped {C} {S} test place q r cs i c low at fails so_far =
    let by : with_candidate test place r c ≡ r = ap (λ (o : Option (Next S)). option_map_or (with_next place r) o r) fails in
    sym by ∙ ap (λ (x : Queue S). with_candidate test place x c) so_far
    ∙ sym (fold_more (with_candidate test place) q cs i c low ∙ ap (with_candidate test place (with_candidates test place q (take i cs))) (sym at))

---- files by their places

pub place_at : {S : Type 0} (Leads : ℕ → S → ℕ → Type 0) (starts : List ℕ) (q : Queue S) (k : ℕ) → AreReached Leads starts q → k < length q.visits → place_of q (file_at q.visits k) ≡ Some k
place_at Leads starts q k r low =
    let v = at_of q.visits k low in
    ap (place_of q) (file_is q.visits k v.0 v.1) ∙ r.once k v.0 v.1
