-- The order in which a breadth-first search reaches files: shorter paths first, those of one length by the ranks of their steps.
use Rattle.std.proofs.Common.{◌≡◌, ℕ, zero, suc, ◌+◌, ◌<◌, ◌≤◌, List, [], ◌∷◌, ◌++◌, Option, Some, None, length, map, inl, inr, refl, sym, ap, ap₂, ◌∙◌, subst, arith}
use Rattle.std.specs.Prelude.{slice_get}
use Rattle.std.proofs.lemmas.List.{length_push, map-append}
use Rattle.std.proofs.lemmas.Option.{none-some, same_Some, slice_get_within}
use Rattle.std.proofs.lemmas.Bool.{cases_lt}
use Rattle.inc_graph.specs.declared.search.ParentStep.{ParentStep}
use Rattle.inc_graph.specs.declared.search.Visit.{Visit}
use Rattle.inc_graph.specs.PathOrder.{Precedes, shorter, less, IsAtMost, before, same}
use Rattle.inc_graph.specs.Search.{Queue, Next, place_of, with_visit, with_candidate, with_candidates, started, parent_at, path_to, trail, AreReached, IsSearch, AreCandidates, IsRelaxed, IsOrdered, AreFirst, AreRising}
use Rattle.inc_graph.proofs.Lists.{push_last}
use Rattle.inc_graph.proofs.PathOrder.{precedes_trans, precedes_push, precedes_last, precedes_later, at_most_trans, at_most_push}
use Rattle.inc_graph.proofs.QueueLemmas.{AreFalling, parent_is, path_some, path_none, along_some, along_none, along_push, falling_push, place_there, place_within, place_push-new}
use Rattle.inc_graph.proofs.SearchLemmas.{at_of, IsGrown, visit_known, visit_new, grown_candidate, grown_candidates, reached_candidate, starts_roots, falling, candidates_low}

---- orders along equations

precedes_by : (xs xs2 ys ys2 : List ℕ) → xs2 ≡ xs → ys2 ≡ ys → Precedes xs ys → Precedes xs2 ys2
precedes_by xs xs2 ys ys2 e f p = rw (e, f) p

then_by : (ys ys2 : List ℕ) (i : ℕ) → ys2 ≡ ys → ys2 ++ i ∷ [] ≡ ys ++ i ∷ []
then_by ys ys2 i f = ap (λ (l : List ℕ). l ++ i ∷ []) f

most_by : (xs xs2 ys : List ℕ) → xs2 ≡ xs → IsAtMost xs ys → IsAtMost xs2 ys
most_by xs xs2 ys e p = rw e p

---- the trail of a place

module _ {S : Type 0} (rank : S → ℕ) where
  pub trail_some : (vs : List (Visit S)) (k : ℕ) (p : ParentStep S) → AreFalling vs → parent_at vs k ≡ Some p → trail rank vs k ≡ trail rank vs p.from ++ rank p.step ∷ []
  trail_some vs k p falls at =
      ap₂ (λ (a : ℕ) (l : List ℕ). a ∷ l) (along_some (λ j. j) (λ start j (s : S). start) vs k p falls at)
      (ap (λ (l : List S). map rank l) (path_some vs k p falls at) ∙ map-append rank (path_to vs p.from) (p.step ∷ []))

  pub trail_none : (vs : List (Visit S)) (k : ℕ) → AreFalling vs → parent_at vs k ≡ None → trail rank vs k ≡ k ∷ []
  trail_none vs k falls at =
      ap₂ (λ (a : ℕ) (l : List ℕ). a ∷ l) (along_none (λ j. j) (λ start j (s : S). start) vs k falls at) (ap (λ (l : List S). map rank l) (path_none vs k falls at))

  pub trail_push : (vs : List (Visit S)) (x : Visit S) (k : ℕ) → AreFalling vs → k < length vs → trail rank (vs ++ x ∷ []) k ≡ trail rank vs k
  trail_push vs x k falls low =
      ap₂ (λ (a : ℕ) (l : List ℕ). a ∷ l) (along_push (λ j. j) (λ start j (s : S). start) vs x k k falls low)
      (ap (λ (l : List S). map rank l) (along_push (λ j. []) (λ (path : List S) j s. path ++ s ∷ []) vs x k k falls low))

  -- a visit by a step from the file at a place
  trail_last : (vs : List (Visit S)) (file taken : ℕ) (s : S) → AreFalling vs → taken < length vs
      → trail rank (vs ++ record { file = file; parent = Some (record { step = s; from = taken }) } ∷ []) (length vs) ≡ trail rank vs taken ++ rank s ∷ []
  trail_last vs file taken s falls low =
      let x : Visit S = record { file = file; parent = Some (record { step = s; from = taken }) } in
      trail_some (vs ++ x ∷ []) (length vs) (record { step = s; from = taken }) (falling_push vs x falls low) (parent_is (vs ++ x ∷ []) (length vs) x (push_last vs x))
      ∙ ap (λ (l : List ℕ). l ++ rank s ∷ []) (trail_push vs x taken falls low)

  ---- the order of the queue

  -- at each place of a longer queue
  below_push : (n : ℕ) (P : ℕ → Type 0) → ((k : ℕ) → k < n → P k) → P n → (k : ℕ) → k < n + 1 → P k
  below_push n P below at_end k within = elim (cases_lt k n) [
    | inl low ↦ below k low
    | inr high ↦ let is : n ≡ k = omega arith in subst P is at_end
  ]

  ordered_new : (vs : List (Visit S)) (file taken n : ℕ) (s : S) → AreFalling vs → taken < length vs → n ≤ rank s → IsOrdered rank vs taken n
      → IsOrdered rank (vs ++ record { file = file; parent = Some (record { step = s; from = taken }) } ∷ []) taken (rank s + 1)
  ordered_new vs file taken n s falls low least o =
      let x : Visit S = record { file = file; parent = Some (record { step = s; from = taken }) } in
      let longer = length_push vs x in
      let stays : (k : ℕ) → k < length vs → trail rank (vs ++ x ∷ []) k ≡ trail rank vs k = λ k inside. trail_push vs x k falls inside in
      let last : trail rank (vs ++ x ∷ []) (length vs) ≡ trail rank vs taken ++ rank s ∷ [] = trail_last vs file taken s falls low in
      let later : (k : ℕ) → k < length vs → Precedes (trail rank (vs ++ x ∷ []) k) (trail rank (vs ++ x ∷ []) (length vs)) =
      λ k inside. precedes_by _ _ _ _ (stays k inside) last (precedes_later (trail rank vs k) (trail rank vs taken) n (rank s) least (o.bound low k inside)) in
      record {
        order = λ j k under inside.
            below_push (length vs) (λ m. j < m → Precedes (trail rank (vs ++ x ∷ []) j) (trail rank (vs ++ x ∷ []) m))
            (λ m inside2 under2. let j_inside : j < length vs = omega arith in precedes_by _ _ _ _ (stays j j_inside) (stays m inside2) (o.order j m under2 inside2))
            (λ under2. later j under2) k (omega arith) under;
        bound = λ inside k inside2.
            below_push (length vs) (λ m. Precedes (trail rank (vs ++ x ∷ []) m) (trail rank (vs ++ x ∷ []) taken ++ (rank s + 1) ∷ []))
            (λ m inside3. precedes_by _ _ _ _ (stays m inside3) (then_by _ _ (rank s + 1) (stays taken low)) (precedes_later (trail rank vs m) (trail rank vs taken) n (rank s + 1) (omega arith) (o.bound low m inside3)))
            (precedes_by _ _ _ _ last (then_by _ _ (rank s + 1) (stays taken low)) (precedes_last (trail rank vs taken) (rank s) (rank s + 1) (omega arith))) k (omega arith);
      }

  ordered_later : (vs : List (Visit S)) (taken n m : ℕ) → n ≤ m → IsOrdered rank vs taken n → IsOrdered rank vs taken m
  ordered_later vs taken n m least o = record {
    order = o.order;
    bound = λ inside k inside2. precedes_later (trail rank vs k) (trail rank vs taken) n m least (o.bound inside k inside2);
  }

  ordered_next : (vs : List (Visit S)) (taken n : ℕ) → taken < length vs → IsOrdered rank vs taken n → IsOrdered rank vs (taken + 1) 0
  ordered_next vs taken n low o = record {
    order = o.order;
    bound = λ inside k inside2. precedes_trans (o.bound low k inside2) (precedes_push n 0 (o.order taken (taken + 1) (omega arith) inside));
  }

  ---- the candidates of a file

  module _ {C : Type 0} (Leads : ℕ → S → ℕ → Type 0) (starts : List ℕ) (test : C → Option (Next S)) where
    -- one candidate is done
    record IsOne (q r : Queue S) (taken n : ℕ) (c : C) : Type 0 where
      -- the next step has at least this rank
      number : ℕ
      -- the queue is still in order
      ordered : IsOrdered rank r.visits taken number
      -- a later candidate has it
      above : (i : ℕ) → n ≤ i → ((m : Next S) → test c ≡ Some m → rank m.step < i) → number ≤ i
      -- paths that were there stay
      trails : (k : ℕ) → k < length q.visits → trail rank r.visits k ≡ trail rank q.visits k
      -- the candidate leads to a file that is reached by a path no later
      done : (m : Next S) → test c ≡ Some m → IsRelaxed rank r m.to (trail rank q.visits taken ++ rank m.step ∷ [])

    one_next : (q : Queue S) (taken n : ℕ) (c : C) (m : Next S) (o : Option ℕ) → AreFalling q.visits → taken < length q.visits → IsOrdered rank q.visits taken n → test c ≡ Some m → n ≤ rank m.step
        → place_of q m.to ≡ o → IsOne q (with_visit (record { file = m.to; parent = Some (record { step = m.step; from = taken }) }) q) taken n c
    one_next q taken n c m (Some k) falls low o is least at =
        let v : Visit S = record { file = m.to; parent = Some (record { step = m.step; from = taken }) } in
        let k_low = place_within q.visits m.to k at in
        rw (visit_known v q k at) (record {
          number = rank m.step + 1;
          ordered = ordered_later q.visits taken n (rank m.step + 1) (omega arith) o;
          above = λ i over each. let l = each m is in omega arith;
          trails = λ j inside. refl;
          done = λ d d_is. subst (λ (e : Next S). IsRelaxed rank q e.to (trail rank q.visits taken ++ rank e.step ∷ [])) (same_Some m d (sym is ∙ d_is)) (record {
            place = k;
            placed = at;
            most = before (precedes_later (trail rank q.visits k) (trail rank q.visits taken) n (rank m.step) least (o.bound low k k_low));
          });
        })
    one_next q taken n c m None falls low o is least at =
        let v : Visit S = record { file = m.to; parent = Some (record { step = m.step; from = taken }) } in
        rw (visit_new v q at) (record {
          number = rank m.step + 1;
          ordered = ordered_new q.visits m.to taken n m.step falls low least o;
          above = λ i over each. let l = each m is in omega arith;
          trails = λ j inside. trail_push q.visits v j falls inside;
          done = λ d d_is. subst (λ (e : Next S). IsRelaxed rank (record { files = q.files; visits = q.visits ++ v ∷ [] }) e.to (trail rank q.visits taken ++ rank e.step ∷ [])) (same_Some m d (sym is ∙ d_is)) (record {
            place = length q.visits;
            placed = place_push-new q.visits v at;
            most = same (trail_last q.visits m.to taken m.step falls low);
          });
        })

    one_candidate : (q : Queue S) (taken n : ℕ) (c : C) (o : Option (Next S)) → AreFalling q.visits → taken < length q.visits → IsOrdered rank q.visits taken n → test c ≡ o
        → ((m : Next S) → o ≡ Some m → n ≤ rank m.step) → IsOne q (with_candidate test taken q c) taken n c
    one_candidate q taken n c None falls low o is least = rw is (record {
      number = n;
      ordered = o;
      above = λ i over each. over;
      trails = λ j inside. refl;
      done = λ m m_is. absurd (none-some m (sym is ∙ m_is));
    })
    one_candidate q taken n c (Some m) falls low o is least = rw is (one_next q taken n c m (place_of q m.to) falls low o is (least m refl) refl)

    relaxed_grown : (q r : Queue S) (f : ℕ) (other : List ℕ) → IsGrown q r → ((k : ℕ) → k < length q.visits → trail rank r.visits k ≡ trail rank q.visits k) → IsRelaxed rank q f other → IsRelaxed rank r f other
    relaxed_grown q r f other grown trails x = record {
      place = x.place;
      placed = grown.kept f x.place x.placed;
      most = most_by _ _ _ (trails x.place (place_within q.visits f x.place x.placed)) x.most;
    }

    -- all candidates are done
    record AreDone (q r : Queue S) (taken : ℕ) (cs : List C) : Type 0 where
      -- a further step would have at least this rank
      number : ℕ
      -- the queue is still in order
      ordered : IsOrdered rank r.visits taken number
      -- paths that were there stay
      trails : (k : ℕ) → k < length q.visits → trail rank r.visits k ≡ trail rank q.visits k
      -- each candidate leads to a file that is reached by a path no later
      done : (k : ℕ) (c : C) (m : Next S) → slice_get cs k ≡ Some c → test c ≡ Some m → IsRelaxed rank r m.to (trail rank q.visits taken ++ rank m.step ∷ [])

    done_more : (q r t : Queue S) (taken n : ℕ) (c : C) (cs : List C) → taken < length q.visits → length q.visits ≤ length r.visits → IsGrown r t → IsOne q r taken n c → AreDone r t taken cs
        → (k : ℕ) (d : C) (m : Next S) → slice_get (c ∷ cs) k ≡ Some d → test d ≡ Some m → IsRelaxed rank t m.to (trail rank q.visits taken ++ rank m.step ∷ [])
    done_more q r t taken n c cs low longer grown one rest zero d m at is =
        relaxed_grown r t m.to (trail rank q.visits taken ++ rank m.step ∷ []) grown rest.trails (one.done m (ap test (same_Some c d at) ∙ is))
    done_more q r t taken n c cs low longer grown one rest (suc k) d m at is =
        subst (λ (l : List ℕ). IsRelaxed rank t m.to (l ++ rank m.step ∷ [])) (one.trails taken low) (rest.done k d m at is)

    candidates_done : (q : Queue S) (taken n : ℕ) (front : Visit S) (cs : List C) → AreReached Leads starts q → slice_get q.visits taken ≡ Some front
        → ((k : ℕ) (c : C) (m : Next S) → slice_get cs k ≡ Some c → test c ≡ Some m → Leads front.file m.step m.to × (m.to < q.files)) → IsOrdered rank q.visits taken n
        → ((k : ℕ) (c : C) (m : Next S) → slice_get cs k ≡ Some c → test c ≡ Some m → n ≤ rank m.step) → AreRising rank test cs → AreDone q (with_candidates test taken q cs) taken cs
    candidates_done q taken n front [] r at each o least rising = record {
      number = n;
      ordered = o;
      trails = λ k inside. refl;
      done = λ k c m none is. absurd (none-some c none);
    }
    candidates_done q taken n front (c ∷ cs) r at each o least rising =
        let low : taken < length q.visits = slice_get_within q.visits taken front at in
        let q2 : Queue S = with_candidate test taken q c in
        let t : Queue S = with_candidates test taken q2 cs in
        let grown : IsGrown q q2 = grown_candidate test taken q c (test c) refl in
        let one : IsOne q q2 taken n c = one_candidate q taken n c (test c) (falling Leads starts q r) low o refl (λ m is. least 0 c m refl is) in
        let r2 : AreReached Leads starts q2 = reached_candidate Leads starts test taken q front c (test c) r at refl (λ m is. each 0 c m refl is) in
        let rest : AreDone q2 t taken cs = candidates_done q2 taken one.number front cs r2 (grown.stays taken front at)
        (λ k d m there is. let l = each (suc k) d m there is in (l.0, subst (λ (f : ℕ). m.to < f) (sym grown.files) l.1)) one.ordered
        (λ k d m there is. one.above (rank m.step) (least (suc k) d m there is) (λ e e_is. rising 0 (suc k) c d e m (omega arith) refl e_is there is))
        (λ j k d e m m2 under d_at d_is e_at e_is. rising (suc j) (suc k) d e m m2 (omega arith) d_at d_is e_at e_is) in
        record {
          number = rest.number;
          ordered = rest.ordered;
          trails = λ k inside. rest.trails k (let l = grown.longer in omega arith) ∙ one.trails k inside;
          done = done_more q q2 t taken n c cs low grown.longer (grown_candidates test taken q2 cs) one rest;
        }

    ---- from file to file

    pub first_more : (files : ℕ) (q r : Queue S) (taken : ℕ) (front : Visit S) (cs : List C) → IsSearch Leads files starts q taken → AreFirst rank Leads q taken → slice_get q.visits taken ≡ Some front
        → AreCandidates Leads test files front.file cs → AreRising rank test cs → r ≡ with_candidates test taken q cs → AreFirst rank Leads r (taken + 1)
    first_more files q r taken front cs s first at candidates rising is =
        let t : Queue S = with_candidates test taken q cs in
        let low : taken < length q.visits = slice_get_within q.visits taken front at in
        let grown : IsGrown q t = grown_candidates test taken q cs in
        let d : AreDone q t taken cs = candidates_done q taken 0 front cs s.reached at (candidates_low Leads starts test files q front.file cs s.sized candidates) first.ordered (λ k c m there passes. omega arith) rising in
        subst (λ (x : Queue S). AreFirst rank Leads x (taken + 1)) (sym is) (record {
          ordered = ordered_next t.visits taken d.number (let l = grown.longer in omega arith) d.ordered;
          relaxed = λ k v step b under there leads. elim (cases_lt k taken) [
            | inl earlier ↦
                let old = at_of q.visits k (omega arith) in
                let same_visit : old.0 ≡ v = same_Some old.0 v (sym (grown.stays k old.0 old.1) ∙ there) in
                let was = first.relaxed k v step b earlier (old.1 ∙ ap (λ (x : Visit S). Some x) same_visit) leads in
                subst (λ (l : List ℕ). IsRelaxed rank t b (l ++ rank step ∷ [])) (sym (d.trails k (omega arith))) (relaxed_grown q t b (trail rank q.visits k ++ rank step ∷ []) grown d.trails was)
            | inr now ↦
                let same_place : k ≡ taken = omega arith in
                let same_visit : front ≡ v = same_Some front v (sym (grown.stays taken front at) ∙ ap (slice_get t.visits) (sym same_place) ∙ there) in
                let c = candidates.whole step b (subst (λ (x : Visit S). Leads x.file step b) (sym same_visit) leads) in
                let was = d.done c.0 c.1 (record { step = step; to = b }) c.2 c.3 in
                subst (λ (l : List ℕ). IsRelaxed rank t b (l ++ rank step ∷ [])) (sym (ap (trail rank t.visits) same_place ∙ d.trails taken low)) was
          ];
        })

  pub first_started : (Leads : ℕ → S → ℕ → Type 0) (files : ℕ) (starts : List ℕ) (q : Queue S) → IsSearch Leads files starts q 0 → q ≡ started files starts → AreFirst rank Leads q 0
  first_started Leads files starts q s is =
      let falls = falling Leads starts q s.reached in
      let root : (k : ℕ) → k < length q.visits → trail rank q.visits k ≡ k ∷ [] = λ k low.
      let v = at_of q.visits k low in
      let begun = ap (λ (x : Queue S). slice_get x.visits k) (sym is) ∙ v.1 in
      let none : v.0.parent ≡ None = starts_roots (record { files = files; visits = [] }) starts (λ j u there. absurd (none-some u there)) k v.0 begun in
      trail_none q.visits k falls (parent_is q.visits k v.0 v.1 ∙ none) in
      record {
        ordered = record {
          order = λ j k under inside. precedes_by _ _ _ _ (root j (omega arith)) (root k inside) (less refl (inl under));
          bound = λ inside k inside2. precedes_by _ _ _ _ (root k inside2) (then_by _ _ 0 (root 0 inside)) (shorter (omega arith));
        };
        relaxed = λ k v step b under. absurd (omega arith);
      }

---- what is found in the end

module _ {S : Type 0} (rank : S → ℕ) (Leads : ℕ → S → ℕ → Type 0) (q : Queue S) (first : AreFirst rank Leads q (length q.visits)) where
  -- a file that is reached no later than by a walk, and so is the next one
  pub relaxed_on : (a b : ℕ) (other : List ℕ) (step : S) → IsRelaxed rank q a other → Leads a step b → IsRelaxed rank q b (other ++ rank step ∷ [])
  relaxed_on a b other step x leads =
      let v = place_there q.visits a x.place x.placed in
      let low = slice_get_within q.visits x.place v.0 v.1 in
      let next = first.relaxed x.place v.0 step b low v.1 (subst (λ (f : ℕ). Leads f step b) (sym v.2) leads) in
      record {
        place = next.place;
        placed = next.placed;
        most = at_most_trans next.most (at_most_push (rank step) x.most);
      }

pub at_most_tail : (a : ℕ) (xs ys : List ℕ) → IsAtMost (a ∷ xs) (a ∷ ys) → IsAtMost xs ys
at_most_tail a xs ys (before (shorter p)) = before (shorter (omega arith))
at_most_tail a xs ys (before (less e p)) = elim p [
  | inl under ↦ absurd (omega arith)
  | inr rest ↦ before (less (omega arith) rest.1)
]
at_most_tail a xs ys (same e) = same cc
