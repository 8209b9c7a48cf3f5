-- The search back from the headers of a graph: the steps from a file, from file to file, and the distances that it gives.
use Rattle.std.proofs.Common.{◌≡◌, ℕ, zero, suc, ◌+◌, ◌<◌, ◌≤◌, true, List, [], ◌∷◌, Option, Some, None, length, get_or, set, replicate, filter, map, inl, inr, refl, sym, ap, ap₂, ◌∙◌, subst, arith, get_or-set_same, get_or-set_other}
use Rattle.std.specs.Prelude.{slice_get, option_map, nat_lt, ◌==◌}
use Rattle.std.specs.Option.{option_map_or}
use Rattle.std.proofs.lemmas.Bool.{cases_eq, cases_lt, cond-true, cond-false, eq-eqb, eqb-true, le-ltb, lt-ltb}
use Rattle.std.proofs.lemmas.List.{length_push, length-map, length-replicate, get_or-replicate, get_or_past}
use Rattle.std.proofs.lemmas.Option.{none-some, same_Some, slice_get-get_or, slice_get_within}
use Rattle.inc_graph.specs.declared.graphs.Edge as declared
use Rattle.inc_graph.specs.declared.search.ParentStep.{ParentStep}
use Rattle.inc_graph.specs.declared.search.Visit.{Visit}
use Rattle.inc_graph.specs.IncludeGraph.{Edge, Graph, IsSound}
use Rattle.inc_graph.specs.Chains.{target, leaves}
use Rattle.inc_graph.specs.Distances.{LeadsBack, back_next, IsSearchBack, IsFinishedBack, distance, distance_before, AreDistances}
use Rattle.inc_graph.specs.Indexes.{edges_entering}
use Rattle.inc_graph.specs.Members.{is_member}
use Rattle.inc_graph.specs.PathOrder.{same}
use Rattle.inc_graph.specs.Search.{Queue, Next, place_of, file_at, started, with_candidates, path_to, trail, AreCandidates, AreRising}
use Rattle.inc_graph.specs.Views.{seen_edge, numbered}
use Rattle.inc_graph.proofs.FirstPaths.{first_more, first_started, relaxed_on}
use Rattle.inc_graph.proofs.FirstWalks.{numbers_rise}
use Rattle.inc_graph.proofs.LeavingEdges.{passing_at, passing_from}
use Rattle.inc_graph.proofs.NumberedEdges.{with_number, length-numbered_from, numbered_from-at}
use Rattle.inc_graph.proofs.PathOrder.{at_most_length}
use Rattle.inc_graph.proofs.QueueLemmas.{AreFalling, parent_is, path_some, path_none, place_there}
use Rattle.inc_graph.proofs.SearchLemmas.{at_of, file_is, reached_place, search_started, search_more, search_within, falling, by_step, on_paths, place_at}
use Rattle.inc_graph.proofs.Walks.{inner_edge, leaving_edge}

---- the edges that lead to a file

map_at : {X Y : Type 0} (f : X → Y) (xs : List X) (k : ℕ) (x : X) → slice_get xs k ≡ Some x → slice_get (map f xs) k ≡ Some (f x)
map_at f [] k x at = absurd (none-some x at)
map_at f (y ∷ ys) zero x at = ap (λ z. Some (f z)) (same_Some y x at)
map_at f (y ∷ ys) (suc k) x at = map_at f ys k x at

map_from : {X Y : Type 0} (f : X → Y) (xs : List X) (k : ℕ) (y : Y) → slice_get (map f xs) k ≡ Some y → (x : X) × (slice_get xs k ≡ Some x) × (f x ≡ y)
map_from f [] k y at = absurd (none-some y at)
map_from f (x ∷ xs) zero y at = (x, refl, same_Some (f x) y at)
map_from f (x ∷ xs) (suc k) y at = map_from f xs k y at

-- an edge with this number leads to the file
pub entering_at : (g : Graph) (file k i : ℕ) → slice_get (edges_entering g.edges file) k ≡ Some i → (x : Edge) × (slice_get g.edges i ≡ Some x) × (x.to ≡ file)
entering_at g file k i at =
    let e = map_from (λ (d : declared.Edge). d.id) (filter (λ (d : declared.Edge). d.to == file) (numbered g.edges)) k i at in
    let p = passing_from (λ (d : declared.Edge). d.to == file) 0 g.edges k e.0 e.1 in
    let is : p.0 ≡ i = let x = p.1 in let y = e.2 in omega arith in
    (seen_edge e.0, ap (slice_get g.edges) (sym is) ∙ p.2, eqb-true e.0.to file p.3)

back_at : (g : Graph) (i : ℕ) (x : Edge) → slice_get g.edges i ≡ Some x → back_next g i ≡ Some (record { step = i; to = x.from })
back_at g i x at = ap (option_map (λ (e : Edge). record { step = i; to = e.from })) at

target_at : (g : Graph) (i : ℕ) (x : Edge) → slice_get g.edges i ≡ Some x → target g i ≡ x.to
target_at g i x at = rw at refl

leaves_at : (g : Graph) (i f : ℕ) (x : Edge) → slice_get g.edges i ≡ Some x → x.from ≡ f → leaves g f i ≡ true
leaves_at g i f x at from = rw at (eq-eqb x.from f from)

back_are : (g : Graph) (f : ℕ) → IsSound g → AreCandidates (LeadsBack g) (back_next g) g.files f (edges_entering g.edges f)
back_are g f sound = record {
  each = λ k i n at passes.
      let x = entering_at g f k i at in
      let is : record { step = i; to = x.0.from } ≡ n = same_Some (record { step = i; to = x.0.from }) n (sym (back_at g i x.0 x.1) ∙ passes) in
      let inner = inner_edge g i x.0 sound x.1 in
      subst (λ (m : Next ℕ). LeadsBack g f m.step m.to × (m.to < g.files)) is
      ((leaves_at g i x.0.from x.0 x.1 refl, target_at g i x.0 x.1 ∙ x.2), inner.from_within);
  whole = λ i b leads.
      let x = leaving_edge g b i _ refl leads.0 in
      let to : x.0.to ≡ f = sym (target_at g i x.0 x.1) ∙ leads.1 in
      let there = passing_at (λ (d : declared.Edge). d.to == f) 0 g.edges i i x.0 (omega arith) x.1 (eq-eqb x.0.to f to) in
      let id = map_at (λ (d : declared.Edge). d.id) (filter (λ (d : declared.Edge). d.to == f) (numbered g.edges)) there.0 (with_number i x.0) there.1 in
      (there.0, i, id, back_at g i x.0 x.1 ∙ ap (λ (t : ℕ). Some (record { step = i; to = t })) x.2);
}

back_rise : (g : Graph) (f : ℕ) → AreRising (λ i. i) (back_next g) (edges_entering g.edges f)
back_rise g f j k d e m n less d_at d_is e_at e_is =
    let x = entering_at g f j d d_at in
    let y = entering_at g f k e e_at in
    let first : d ≡ m.step = ap (λ (z : Next ℕ). z.step) (same_Some (record { step = d; to = x.0.from }) m (sym (back_at g d x.0 x.1) ∙ d_is)) in
    let second : e ≡ n.step = ap (λ (z : Next ℕ). z.step) (same_Some (record { step = e; to = y.0.from }) n (sym (back_at g e y.0 y.1) ∙ e_is)) in
    let a = map_from (λ (z : declared.Edge). z.id) (filter (λ (z : declared.Edge). z.to == f) (numbered g.edges)) j d d_at in
    let b = map_from (λ (z : declared.Edge). z.id) (filter (λ (z : declared.Edge). z.to == f) (numbered g.edges)) k e e_at in
    let rise = numbers_rise (λ (z : declared.Edge). z.to == f) 0 g.edges j k a.0 b.0 less a.1 b.1 in
    omega (arith, a.2, b.2, first, second, rise)

-- an edge that leads to a file, as it is read
pub entering_low : (g : Graph) (f k i : ℕ) (items : List ℕ) → items ≡ edges_entering g.edges f → k < length items → i ≡ get_or items k i → i < length g.edges
entering_low g f k i items are low is =
    let there : slice_get (edges_entering g.edges f) k ≡ Some i = ap (λ (l : List ℕ). slice_get l k) (sym are) ∙ slice_get-get_or items k i low ∙ ap (λ (x : ℕ). Some x) (sym is) in
    let x = entering_at g f k i there in
    slice_get_within g.edges i x.0 x.1

-- the edge with a number, as it is read, and the file that it leaves
pub edge_low : (g : Graph) (i k : ℕ) (edges : List declared.Edge) → edges ≡ numbered g.edges → i < length g.edges → k ≡ i → k < length edges
edge_low g i k edges are low is = rw (are, is) (omega (arith, length-numbered_from 0 g.edges))

pub left_at : (g : Graph) (i k : ℕ) (edges : List declared.Edge) (e : declared.Edge) → IsSound g → edges ≡ numbered g.edges → i < length g.edges → k ≡ i → e ≡ get_or edges k e
    → (back_next g i ≡ Some (record { step = i; to = e.from })) × (e.from < g.files)
left_at g i k edges e sound are low is read =
    let there = numbered_from-at 0 g.edges i e low (read ∙ ap₂ (λ (l : List declared.Edge) (j : ℕ). get_or l j e) are is) in
    (back_at g i (seen_edge e) there, (inner_edge g i (seen_edge e) sound there).from_within)

---- from file to file

pub back_begun : (g : Graph) (n : ℕ) (headers : List ℕ) (q : Queue ℕ) → IsSound g → n ≡ g.files → headers ≡ g.headers → q ≡ started n headers → IsSearchBack g q 0
back_begun g n headers q sound files at begun =
    let is : q ≡ started g.files g.headers = begun ∙ ap₂ (λ a b. started a b) files at in
    let search = search_started (LeadsBack g) g.files g.headers q sound.ends.headers_within is in
    record { sound = sound; search = search; first = first_started (λ i. i) (LeadsBack g) g.files g.headers q search is }

pub back_more : (g : Graph) (q r : Queue ℕ) (taken : ℕ) → taken < length q.visits → r ≡ with_candidates (back_next g) taken q (edges_entering g.edges (file_at q.visits taken)) → IsSearchBack g q taken
    → IsSearchBack g r (taken + 1)
back_more g q r taken low is s =
    let v = at_of q.visits taken low in
    let es = edges_entering g.edges v.0.file in
    let here : r ≡ with_candidates (back_next g) taken q es = is ∙ ap (λ (f : ℕ). with_candidates (back_next g) taken q (edges_entering g.edges f)) (file_is q.visits taken v.0 v.1) in
    let candidates = back_are g v.0.file s.sound in
    record {
      sound = s.sound;
      search = search_more (LeadsBack g) g.headers (back_next g) g.files q r taken v.0 es s.search v.1 candidates here;
      first = first_more (λ i. i) (LeadsBack g) g.headers (back_next g) g.files q r taken v.0 es s.search s.first v.1 candidates (back_rise g v.0.file) here;
    }

---- distances

-- a visit as it is read
pub visit_read : (q : Queue ℕ) (items : List (Visit ℕ)) (k : ℕ) (v : Visit ℕ) → items ≡ q.visits → k < length items → v ≡ get_or items k v → (slice_get q.visits k ≡ Some v) × (k < length q.visits)
visit_read q items k v are low is =
    let there : slice_get q.visits k ≡ Some v = ap (λ (l : List (Visit ℕ)). slice_get l k) (sym are) ∙ slice_get-get_or items k v low ∙ ap (λ (x : Visit ℕ). Some x) (sym is) in
    (there, slice_get_within q.visits k v there)

module _ (g : Graph) (q : Queue ℕ) (s : IsFinishedBack g q) where
  falls : AreFalling q.visits
  falls = falling (LeadsBack g) g.headers q s.search.reached

  -- a path is no longer than its place says
  pub path_long : (k : ℕ) (v : Visit ℕ) → slice_get q.visits k ≡ Some v → length (path_to q.visits k) ≤ k
  path_long = on_paths (LeadsBack g) g.headers q s.search.reached (λ k v. length (path_to q.visits k) ≤ k)
      (λ k v at none begun. let empty = ap (λ (l : List ℕ). length l) (path_none q.visits k falls (parent_is q.visits k v at ∙ none)) in omega (arith, empty))
      (λ k v p at is by before.
      let path = path_some q.visits k p falls (parent_is q.visits k v at ∙ is) in
      let longer = ap (λ (l : List ℕ). length l) path ∙ length_push (path_to q.visits p.from) p.step in
      let earlier = by.earlier in
      omega (arith, longer, before, earlier))

  ---- file by file

  -- the place of a parent, and its file
  pub parent_low : (k : ℕ) (v : Visit ℕ) (p : ParentStep ℕ) → slice_get q.visits k ≡ Some v → v.parent ≡ Some p → (p.from < k) × (p.from < length q.visits) × (file_at q.visits p.from < g.files)
  parent_low k v p at is =
      let by = by_step (LeadsBack g) g.headers q s.search.reached k v (Some p) at is in
      let earlier = by.earlier in
      let low = slice_get_within q.visits k v at in
      let inside : p.from < length q.visits = omega arith in
      (earlier, inside, search_within (LeadsBack g) g.files g.headers q (length q.visits) p.from s.search inside)

  -- the distances of the files at the places before this one
  abbrev pub AreSoFar : (n : ℕ) → List ℕ → Type 0
  AreSoFar n ds = (f : ℕ) → distance ds f ≡ distance_before q n (place_of q f)

  before_is : (n k : ℕ) → k < n → distance_before q n (Some k) ≡ suc (length (path_to q.visits k))
  before_is n k low = cond-true (nat_lt k n) (suc (length (path_to q.visits k))) 0 (lt-ltb k n low)

  before_not : (n k : ℕ) → n ≤ k → distance_before q n (Some k) ≡ 0
  before_not n k over = cond-false (nat_lt k n) (suc (length (path_to q.visits k))) 0 (le-ltb k n over)

  same_before : (n k : ℕ) → (k ≡ n → ⊥) → distance_before q n (Some k) ≡ distance_before q (n + 1) (Some k)
  same_before n k apart = elim (cases_lt k n) [
    | inl low ↦ before_is n k low ∙ sym (before_is (n + 1) k (omega arith))
    | inr over ↦ before_not n k over ∙ sym (before_not (n + 1) k (omega arith))
  ]

  pub so_far_none : (count : ℕ) (ds : List ℕ) → ds ≡ replicate count 0 → AreSoFar 0 ds
  so_far_none count ds is f =
      ap (λ (l : List ℕ). distance l f) is
      ∙ elim (cases_lt f count) [
        | inl low ↦ get_or-replicate count f 0 0 low
        | inr high ↦ get_or_past (replicate count 0) f 0 (omega (arith, high, length-replicate {A = ℕ} count 0))
      ]
      ∙ sym (by_place (place_of q f))
    where
      by_place : (o : Option ℕ) → distance_before q 0 o ≡ 0
      by_place None = refl
      by_place (Some k) = before_not 0 k (omega arith)

  -- the distance of the next file
  pub next_distance : (n : ℕ) (v : Visit ℕ) (ds : List ℕ) (before : ℕ) → slice_get q.visits n ≡ Some v → AreSoFar n ds
      → before ≡ option_map_or (λ (p : ParentStep ℕ). distance ds (file_at q.visits p.from)) v.parent 0 → before + 1 ≡ suc (length (path_to q.visits n))
  next_distance n v ds before at so_far is = by_parent v.parent refl is
    where
      by_parent : (o : Option (ParentStep ℕ)) → v.parent ≡ o → before ≡ option_map_or (λ (p : ParentStep ℕ). distance ds (file_at q.visits p.from)) o 0
          → before + 1 ≡ suc (length (path_to q.visits n))
      by_parent None parent e = let empty = ap (λ (l : List ℕ). length l) (path_none q.visits n falls (parent_is q.visits n v at ∙ parent)) in omega (arith, e, empty)
      by_parent (Some p) parent e =
          let low = parent_low n v p at parent in
          let longer = ap (λ (l : List ℕ). length l) (path_some q.visits n p falls (parent_is q.visits n v at ∙ parent)) ∙ length_push (path_to q.visits p.from) p.step in
          let known = so_far (file_at q.visits p.from) ∙ ap (distance_before q n) (place_at (LeadsBack g) g.headers q p.from s.search.reached low.1) ∙ before_is n p.from low.0 in
          omega (arith, e, longer, known)

  pub so_far_more : (n : ℕ) (v : Visit ℕ) (ds : List ℕ) (d : ℕ) → slice_get q.visits n ≡ Some v → v.file < length ds → d ≡ suc (length (path_to q.visits n)) → AreSoFar n ds
      → AreSoFar (n + 1) (set ds v.file d)
  so_far_more n v ds d at within is so_far f = elim (cases_eq f v.file) [
    | inl here ↦
        ap (λ (x : ℕ). distance (set ds v.file d) x) here ∙ get_or-set_same ds v.file d 0 within ∙ is
        ∙ sym (ap (distance_before q (n + 1)) (ap (place_of q) here ∙ s.search.reached.once n v at) ∙ before_is (n + 1) n (omega arith))
    | inr other ↦ get_or-set_other ds v.file f d 0 other ∙ so_far f ∙ by_place other (place_of q f) refl
  ]
    where
      by_place : (f ≡ v.file → ⊥) → (o : Option ℕ) → place_of q f ≡ o → distance_before q n (place_of q f) ≡ distance_before q (n + 1) (place_of q f)
      by_place other None e = ap (distance_before q n) e ∙ sym (ap (distance_before q (n + 1)) e)
      by_place other (Some k) e =
          let u = place_there q.visits f k e in
          let apart : k ≡ n → ⊥ = λ there. other (sym u.2 ∙ ap (λ (x : Visit ℕ). x.file) (same_Some u.0 v (sym u.1 ∙ ap (slice_get q.visits) there ∙ at))) in
          ap (distance_before q n) e ∙ same_before n k apart ∙ sym (ap (distance_before q (n + 1)) e)

  -- the last file is done
  pub all_so_far : (items : List (Visit ℕ)) (n : ℕ) (ds : List ℕ) → items ≡ q.visits → n ≤ length items → length items ≤ n → AreSoFar n ds → AreSoFar (length q.visits) ds
  all_so_far items n ds are most over so_far =
      let long = ap (λ (l : List (Visit ℕ)). length l) are in
      let is : n ≡ length q.visits = omega arith in
      subst (λ (k : ℕ). AreSoFar k ds) is so_far

  pub distance_low : (f : ℕ) (ds : List ℕ) → AreSoFar (length q.visits) ds → distance ds f ≤ length q.visits
  distance_low f ds so_far = by_place (place_of q f) refl
    where
      by_place : (o : Option ℕ) → place_of q f ≡ o → distance ds f ≤ length q.visits
      by_place None e = let none : distance ds f ≡ 0 = so_far f ∙ ap (distance_before q (length q.visits)) e in omega arith
      by_place (Some k) e =
          let v = place_there q.visits f k e in
          let low = slice_get_within q.visits k v.0 v.1 in
          let is = so_far f ∙ ap (distance_before q (length q.visits)) e ∙ before_is (length q.visits) k low in
          let short = path_long k v.0 v.1 in
          omega (arith, is, short, low)

  ---- all of them

  module _ (ds : List ℕ) (long : length ds ≡ g.files) (are : (f : ℕ) → distance ds f ≡ distance_before q (length q.visits) (place_of q f)) where
    placed : (f k : ℕ) (v : Visit ℕ) → place_of q f ≡ Some k → slice_get q.visits k ≡ Some v → distance ds f ≡ suc (length (path_to q.visits k))
    placed f k v at there =
        are f ∙ ap (distance_before q (length q.visits)) at
        ∙ cond-true (nat_lt k (length q.visits)) (suc (length (path_to q.visits k))) 0 (lt-ltb k (length q.visits) (slice_get_within q.visits k v there))

    -- a file that is reached, with its place
    record IsAt (f : ℕ) : Type 0 where
      place : ℕ
      visit : Visit ℕ
      at : place_of q f ≡ Some place
      there : slice_get q.visits place ≡ Some visit
      file : visit.file ≡ f
      is : distance ds f ≡ suc (length (path_to q.visits place))

    at_place : (f k : ℕ) → place_of q f ≡ Some k → IsAt f
    at_place f k at =
        let v = place_there q.visits f k at in
        record { place = k; visit = v.0; at = at; there = v.1; file = v.2; is = placed f k v.0 at v.1 }

    reached_at : (f n : ℕ) (o : Option ℕ) → place_of q f ≡ o → distance ds f ≡ suc n → IsAt f
    reached_at f n None at is = absurd (let none : distance ds f ≡ 0 = are f ∙ ap (distance_before q (length q.visits)) at in omega arith)
    reached_at f n (Some k) at is = at_place f k at

    at_header : (f : ℕ) → is_member f g.headers ≡ true → distance ds f ≡ 1
    at_header f is =
        let k = reached_place (place_of q f) (s.search.begun f is) in
        let a = at_place f k.0 k.1 in
        let none = s.search.roots a.place a.visit a.there (ap (λ (x : ℕ). is_member x g.headers) a.file ∙ is) in
        a.is ∙ ap (λ (l : List ℕ). suc (length l)) (path_none q.visits a.place falls (parent_is q.visits a.place a.visit a.there ∙ none))

    -- by the parent step
    header_by : (f : ℕ) (a : IsAt f) (o : Option (ParentStep ℕ)) → a.visit.parent ≡ o → distance ds f ≡ 1 → is_member f g.headers ≡ true
    header_by f a None parent is =
        ap (λ (x : ℕ). is_member x g.headers) (sym a.file) ∙ by_step (LeadsBack g) g.headers q s.search.reached a.place a.visit None a.there parent
    header_by f a (Some p) parent is =
        let path = path_some q.visits a.place p falls (parent_is q.visits a.place a.visit a.there ∙ parent) in
        let long' = ap (λ (l : List ℕ). length l) path ∙ length_push (path_to q.visits p.from) p.step in
        absurd (omega (arith, a.is, long', is))

    header_at : (f : ℕ) → distance ds f ≡ 1 → is_member f g.headers ≡ true
    header_at f is = let a = reached_at f 0 (place_of q f) refl is in header_by f a a.visit.parent refl is

    nearer_by : (f n : ℕ) (a : IsAt f) (o : Option (ParentStep ℕ)) → a.visit.parent ≡ o → distance ds f ≡ suc (suc n)
        → (i : ℕ) × (leaves g f i ≡ true) × (distance ds (target g i) ≡ suc n)
    nearer_by f n a None parent is =
        let path = path_none q.visits a.place falls (parent_is q.visits a.place a.visit a.there ∙ parent) in
        let none = ap (λ (l : List ℕ). length l) path in
        absurd (omega (arith, a.is, none, is))
    nearer_by f n a (Some p) parent is =
        let path = path_some q.visits a.place p falls (parent_is q.visits a.place a.visit a.there ∙ parent) in
        let longer = ap (λ (l : List ℕ). length l) path ∙ length_push (path_to q.visits p.from) p.step in
        let by = by_step (LeadsBack g) g.headers q s.search.reached a.place a.visit (Some p) a.there parent in
        let before = placed by.before.file p.from by.before (s.search.reached.once p.from by.before by.at) by.at in
        let near : distance ds by.before.file ≡ suc n = omega (arith, before, longer, a.is, is) in
        (p.step, ap (λ (x : ℕ). leaves g x p.step) (sym a.file) ∙ by.leads.0, ap (distance ds) by.leads.1 ∙ near)

    nearer : (f n : ℕ) → distance ds f ≡ suc (suc n) → (i : ℕ) × (leaves g f i ≡ true) × (distance ds (target g i) ≡ suc n)
    nearer f n is = let a = reached_at f (suc n) (place_of q f) refl is in nearer_by f n a a.visit.parent refl is

    long_trail : (k : ℕ) → length (trail (λ i. i) q.visits k) ≡ suc (length (path_to q.visits k))
    long_trail k = ap suc (length-map (path_to q.visits k) (λ i. i))

    bound : (f i n : ℕ) → leaves g f i ≡ true → distance ds (target g i) ≡ suc n → (k : ℕ) × (distance ds f ≡ suc k) × (k ≤ suc n)
    bound f i n leads is =
        let a = reached_at (target g i) n (place_of q (target g i)) refl is in
        let road = trail (λ j. j) q.visits a.place in
        let x = relaxed_on (λ j. j) (LeadsBack g) q s.first (target g i) f road i (record { place = a.place; placed = a.at; most = same refl }) (leads, refl) in
        let v = place_there q.visits f x.place x.placed in
        let most = at_most_length x.most in
        (length (path_to q.visits x.place), placed f x.place v.0 x.placed v.1, omega (arith, most, long_trail x.place, long_trail a.place, length_push road i, a.is, is))

    pub distances_are : AreDistances g ds
    distances_are = record { long = long; at_header = at_header; header_at = header_at; nearer = nearer; bound = bound }
