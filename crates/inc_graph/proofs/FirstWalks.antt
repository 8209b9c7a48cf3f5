-- The first of the shortest walks to each file, as a breadth-first search along the edges of a graph finds them.
use Rattle.std.proofs.Common.{◌≡◌, ℕ, zero, suc, ◌+◌, ◌<◌, Bool, true, false, List, [], ◌∷◌, ◌++◌, Option, Some, None, length, get_or, filter, inl, inr, refl, sym, ap, ap₂, ◌∙◌, subst, zero-add, arith}
use Rattle.std.specs.Prelude.{slice_get, ◌==◌, not}
use Rattle.std.proofs.lemmas.List.{append_assoc, append-nil, map-id}
use Rattle.std.proofs.lemmas.Option.{none-some, same_Some, slice_get-get_or, slice_get_within}
use Rattle.std.proofs.lemmas.Bool.{cases_Bool, cases_lt, cond-true, cond-false, eq-eqb, eqb-true, and_parts, false_from_ne_true, false≢true, not_from_false}
use Rattle.inc_graph.specs.declared.graphs.Edge as declared
use Rattle.inc_graph.specs.declared.search.Visit.{Visit}
use Rattle.inc_graph.specs.IncludeGraph.{Edge, Graph, IsSound}
use Rattle.inc_graph.specs.Chains.{target, leaves, is_walk, files_on, is_chain, IsShortest}
use Rattle.inc_graph.specs.Members.{is_member, is_distinct}
use Rattle.inc_graph.specs.PathOrder.{IsAtMost, before, same}
use Rattle.inc_graph.specs.BreadthFirst.{EdgeLeads, edge_next, IsFirstPaths, IsFinished}
use Rattle.inc_graph.specs.Indexes.{edges_leaving}
use Rattle.inc_graph.specs.Search.{Queue, Next, first_place, place_of, file_at, started, with_candidates, path_to, files_to, start_of, trail, AreCandidates, AreRising, IsRelaxed}
use Rattle.inc_graph.specs.Views.{seen_edge, numbered_from}
use Rattle.inc_graph.proofs.FirstPaths.{trail_none, first_more, first_started, relaxed_on}
use Rattle.inc_graph.proofs.LeavingEdges.{passing_at, passing_from, leaving_at}
use Rattle.inc_graph.proofs.NumberedEdges.{with_number}
use Rattle.inc_graph.proofs.QueueLemmas.{AreFalling, parent_is, path_some, path_none, place_there, first_there, first_least, first_none}
use Rattle.inc_graph.proofs.SearchLemmas.{at_of, file_is, grown_candidates, search_started, search_more, falling, on_paths, distinct_path, files_some, files_none, start_some, start_none}
use Rattle.inc_graph.proofs.Walks.{inner_edge, leaving_edge, walk_push, files_push, chain_parts, chain_of}
use Rattle.inc_graph.proofs.Members.{member_place, member_at}
use Rattle.inc_graph.proofs.PathOrder.{at_most_trans, at_most_length, at_most_first}
use Rattle.inc_graph.proofs.StartOrder.{starts_placed, without_places}

-- the first of the shortest walks from the sources to a file, on which no file is twice
pub record IsFirstWalk (g : Graph) (f : ℕ) (p : List ℕ) : Type 0 where
  -- where it begins
  pub source : ℕ
  -- at a source
  pub among : is_member source g.sources ≡ true
  -- it leads to the file
  pub walk : is_walk g source p f ≡ true
  -- and visits no file twice
  pub distinct : is_distinct (files_on g source p) ≡ true
  -- no walk from a source to the file comes before it
  pub first : (a : ℕ) (w : List ℕ) → is_member a g.sources ≡ true → is_walk g a w f ≡ true → IsAtMost p w

-- the first of the shortest walks, or none where there is no walk
abbrev pub IsFirstWalkOrNone : Graph → ℕ → Option (List ℕ) → Type 0
IsFirstWalkOrNone g f None = (a : ℕ) (w : List ℕ) → is_member a g.sources ≡ true → is_walk g a w f ≡ false
IsFirstWalkOrNone g f (Some p) = IsFirstWalk g f p

---- the edges from a file

target_at : (g : Graph) (i : ℕ) (x : Edge) → slice_get g.edges i ≡ Some x → target g i ≡ x.to
target_at g i x at = rw at refl

leaves_at : (g : Graph) (i f : ℕ) (x : Edge) → slice_get g.edges i ≡ Some x → x.from ≡ f → leaves g f i ≡ true
leaves_at g i f x at from = rw at (eq-eqb x.from f from)

edges_are : (g : Graph) (f : ℕ) → IsSound g → AreCandidates (EdgeLeads g) edge_next g.files f (edges_leaving g.edges f)
edges_are g f sound = record {
  each = λ k e n at passes.
      let there = leaving_at g f k e at in
      let is : record { step = e.id; to = e.to } ≡ n = same_Some (record { step = e.id; to = e.to }) n passes in
      let inner = inner_edge g e.id (seen_edge e) sound there.0 in
      subst (λ (m : Next ℕ). EdgeLeads g f m.step m.to × (m.to < g.files)) is
      ((leaves_at g e.id f (seen_edge e) there.0 there.1, target_at g e.id (seen_edge e) there.0), inner.to_within);
  whole = λ i b leads.
      let e = leaving_edge g f i _ refl leads.0 in
      let there = passing_at (λ (d : declared.Edge). d.from == f) 0 g.edges i i e.0 (sym (zero-add i)) e.1 (eq-eqb e.0.from f e.2) in
      let to : e.0.to ≡ b = sym (target_at g i e.0 e.1) ∙ leads.1 in
      (there.0, with_number i e.0, there.1, ap (λ (t : ℕ). Some (record { step = i; to = t })) to);
}

-- an edge that leaves a file leads to one of the graph
pub edge_within : (g : Graph) (f k : ℕ) (items : List declared.Edge) (e : declared.Edge) → IsSound g → items ≡ edges_leaving g.edges f → k < length items → e ≡ get_or items k e → e.to < g.files
edge_within g f k items e sound are low is =
    let there : slice_get (edges_leaving g.edges f) k ≡ Some e =
    ap (λ (es : List declared.Edge). slice_get es k) (sym are) ∙ slice_get-get_or items k e low ∙ ap (λ (x : declared.Edge). Some x) (sym is) in
    (inner_edge g e.id (seen_edge e) sound (leaving_at g f k e there).0).to_within

-- numbers of edges that pass rise
pub numbers_rise : (p : declared.Edge → Bool) (n : ℕ) (edges : List Edge) (j k : ℕ) (d e : declared.Edge) → j < k → slice_get (filter p (numbered_from n edges)) j ≡ Some d
    → slice_get (filter p (numbered_from n edges)) k ≡ Some e → d.id < e.id
numbers_rise p n [] j k d e less d_at e_at = absurd (none-some d d_at)
numbers_rise p n (x ∷ xs) j k d e less d_at e_at = elim (cases_Bool (p (with_number n x))) [
  | inl passes ↦
      let list = cond-true (p (with_number n x)) (with_number n x ∷ filter p (numbered_from (n + 1) xs)) (filter p (numbered_from (n + 1) xs)) passes in
      by_place j k less (ap (λ (l : List declared.Edge). slice_get l j) (sym list) ∙ d_at) (ap (λ (l : List declared.Edge). slice_get l k) (sym list) ∙ e_at) (λ i m under at there. numbers_rise p (n + 1) xs i m d e under at there)
  | inr fails ↦
      let list = cond-false (p (with_number n x)) (with_number n x ∷ filter p (numbered_from (n + 1) xs)) (filter p (numbered_from (n + 1) xs)) fails in
      numbers_rise p (n + 1) xs j k d e less (ap (λ (l : List declared.Edge). slice_get l j) (sym list) ∙ d_at) (ap (λ (l : List declared.Edge). slice_get l k) (sym list) ∙ e_at)
]
  where
    by_place : (i m : ℕ) → i < m → slice_get (with_number n x ∷ filter p (numbered_from (n + 1) xs)) i ≡ Some d → slice_get (with_number n x ∷ filter p (numbered_from (n + 1) xs)) m ≡ Some e
        → ((i2 m2 : ℕ) → i2 < m2 → slice_get (filter p (numbered_from (n + 1) xs)) i2 ≡ Some d → slice_get (filter p (numbered_from (n + 1) xs)) m2 ≡ Some e → d.id < e.id) → d.id < e.id
    by_place i zero under at there more = absurd (omega arith)
    by_place zero (suc m) under at there more =
        let first : n ≡ d.id = ap (λ (y : declared.Edge). y.id) (same_Some (with_number n x) d at) in
        let later = passing_from p (n + 1) xs m e there in
        let is = later.1 in
        omega arith
    by_place (suc i) (suc m) under at there more = more i m (omega arith) at there

pub edges_rise : (g : Graph) (f : ℕ) → AreRising (λ i. i) edge_next (edges_leaving g.edges f)
edges_rise g f j k d e m n less d_at d_is e_at e_is =
    let first : d.id ≡ m.step = ap (λ (x : Next ℕ). x.step) (same_Some (record { step = d.id; to = d.to }) m d_is) in
    let second : e.id ≡ n.step = ap (λ (x : Next ℕ). x.step) (same_Some (record { step = e.id; to = e.to }) n e_is) in
    let rise = numbers_rise (λ (x : declared.Edge). x.from == f) 0 g.edges j k d e less d_at e_at in
    omega arith

---- from file to file

pub paths_begun : (g : Graph) (n : ℕ) (sources : List ℕ) (q : Queue ℕ) → IsSound g → n ≡ g.files → sources ≡ g.sources → q ≡ started n sources → IsFirstPaths g q 0
paths_begun g n sources q sound files at begun =
    let is : q ≡ started g.files g.sources = begun ∙ ap₂ (λ a b. started a b) files at in
    let search = search_started (EdgeLeads g) g.files g.sources q sound.ends.sources_within is in
    record {
      sound = sound;
      search = search;
      begins = starts_placed g.files g.sources q sound.ends.sources_rise is;
      first = first_started (λ i. i) (EdgeLeads g) g.files g.sources q search is;
    }

pub paths_more : (g : Graph) (q r : Queue ℕ) (taken : ℕ) → taken < length q.visits → r ≡ with_candidates edge_next taken q (edges_leaving g.edges (file_at q.visits taken)) → IsFirstPaths g q taken
    → IsFirstPaths g r (taken + 1)
paths_more g q r taken low is s =
    let v = at_of q.visits taken low in
    let es = edges_leaving g.edges v.0.file in
    let here : r ≡ with_candidates edge_next taken q es = is ∙ ap (λ (f : ℕ). with_candidates edge_next taken q (edges_leaving g.edges f)) (file_is q.visits taken v.0 v.1) in
    let candidates = edges_are g v.0.file s.sound in
    record {
      sound = s.sound;
      search = search_more (EdgeLeads g) g.sources edge_next g.files q r taken v.0 es s.search v.1 candidates here;
      begins = λ k f at. ap (λ (x : Queue ℕ). place_of x f) here ∙ (grown_candidates edge_next taken q es).kept f k (s.begins k f at);
      first = first_more (λ i. i) (EdgeLeads g) g.sources edge_next g.files q r taken v.0 es s.search s.first v.1 candidates (edges_rise g v.0.file) here;
    }

---- what is found in the end

module _ (g : Graph) (q : Queue ℕ) (s : IsFinished g q) where
  falls : AreFalling q.visits
  falls = falling (EdgeLeads g) g.sources q s.search.reached

  -- the path to a file, as a walk from a source
  record IsRoad (k : ℕ) (v : Visit ℕ) : Type 0 where
    source : ℕ
    at : slice_get g.sources (start_of q.visits k) ≡ Some source
    walk : is_walk g source (path_to q.visits k) v.file ≡ true
    files : files_on g source (path_to q.visits k) ≡ files_to q.visits k

  road_at : (k : ℕ) (v : Visit ℕ) → slice_get q.visits k ≡ Some v → IsRoad k v
  road_at = on_paths (EdgeLeads g) g.sources q s.search.reached IsRoad
      (λ k v at none begun.
      let no_parent = parent_is q.visits k v at ∙ none in
      let empty = path_none q.visits k falls no_parent in
      let m = member_place g.sources v.file begun in
      let here : m.0 ≡ k = same_Some m.0 k (sym (s.begins m.0 v.file m.1) ∙ s.search.reached.once k v at) in
      record {
        source = v.file;
        at = ap (slice_get g.sources) (start_none q.visits k falls no_parent ∙ sym here) ∙ m.1;
        walk = rw empty (eq-eqb v.file v.file refl);
        files = rw empty (sym (files_none q.visits k falls no_parent ∙ ap (λ (f : ℕ). f ∷ []) (file_is q.visits k v at)));
      })
      (λ k v p at is by before.
      let parent = parent_is q.visits k v at ∙ is in
      let path = path_some q.visits k p falls parent in
      let a = before.source in
      record {
        source = a;
        at = ap (slice_get g.sources) (start_some q.visits k p falls parent) ∙ before.at;
        walk = rw path (ap (λ (f : ℕ). is_walk g a (path_to q.visits p.from ++ p.step ∷ []) f) (sym by.leads.1) ∙ walk_push g a (path_to q.visits p.from) by.before.file p.step before.walk by.leads.0);
        files = ap (files_on g a) path ∙ files_push g a (path_to q.visits p.from) p.step
            ∙ ap₂ (λ (l : List ℕ) (f : ℕ). l ++ f ∷ []) before.files (by.leads.1 ∙ sym (file_is q.visits k v at)) ∙ sym (files_some q.visits k p falls parent);
      })

  trail_is : (k : ℕ) → trail (λ i. i) q.visits k ≡ start_of q.visits k ∷ path_to q.visits k
  trail_is k = ap (λ (l : List ℕ). start_of q.visits k ∷ l) (map-id (path_to q.visits k))

  walk_relaxed : (w : List ℕ) (a f : ℕ) (xs : List ℕ) → IsRelaxed (λ i. i) q a xs → is_walk g a w f ≡ true → IsRelaxed (λ i. i) q f (xs ++ w)
  walk_relaxed [] a f xs x walk = subst (λ (l : List ℕ). IsRelaxed (λ i. i) q f l) (sym (append-nil xs)) (subst (λ (n : ℕ). IsRelaxed (λ i. i) q n xs) (eqb-true a f walk) x)
  walk_relaxed (i ∷ is) a f xs x walk =
      let steps = and_parts (leaves g a i) (is_walk g (target g i) is f) walk in
      let next = relaxed_on (λ j. j) (EdgeLeads g) q s.first a (target g i) xs i x (steps.0, refl) in
      subst (λ (l : List ℕ). IsRelaxed (λ j. j) q f l) (append_assoc xs (i ∷ []) is) (walk_relaxed is (target g i) f (xs ++ i ∷ []) next steps.1)

  -- each walk from a source ends in a file that is reached, by a path no later
  from_source : (w : List ℕ) (j a f : ℕ) → slice_get g.sources j ≡ Some a → is_walk g a w f ≡ true → IsRelaxed (λ i. i) q f (j ∷ w)
  from_source w j a f at walk =
      let placed = s.begins j a at in
      let v = place_there q.visits a j placed in
      let none = s.search.roots j v.0 v.1 (ap (λ (n : ℕ). is_member n g.sources) v.2 ∙ member_at g.sources j a at) in
      walk_relaxed w a f (j ∷ [])
      (record { place = j; placed = placed; most = same (trail_none (λ i. i) q.visits j falls (parent_is q.visits j v.0 v.1 ∙ none)) }) walk

  -- the path to the file at a place is at most a walk from a source whose file is reached no earlier
  first_by : (k : ℕ) (v : Visit ℕ) (j a h : ℕ) (w : List ℕ) → slice_get q.visits k ≡ Some v → slice_get g.sources j ≡ Some a → is_walk g a w h ≡ true
      → IsAtMost (trail (λ i. i) q.visits k) (j ∷ w) → IsAtMost (path_to q.visits k) w
  first_by k v j a h w there at walk most =
      let road = road_at k v there in
      without_places g s.sound (start_of q.visits k) j road.source a v.file h (path_to q.visits k) w road.at at road.walk walk (subst (λ (l : List ℕ). IsAtMost l (j ∷ w)) (trail_is k) most)

  pub found_first : (f k : ℕ) → place_of q f ≡ Some k → IsFirstWalk g f (path_to q.visits k)
  found_first f k placed =
      let v = place_there q.visits f k placed in
      let road = road_at k v.0 v.1 in
      record {
        source = road.source;
        among = member_at g.sources (start_of q.visits k) road.source road.at;
        walk = ap (λ (x : ℕ). is_walk g road.source (path_to q.visits k) x) (sym v.2) ∙ road.walk;
        distinct = ap is_distinct road.files ∙ distinct_path (EdgeLeads g) g.sources q s.search.reached k v.0 v.1;
        first = λ a w among walk.
            let j = member_place g.sources a among in
            let x = from_source w j.0 a f j.1 walk in
            let same_place : x.place ≡ k = same_Some x.place k (sym x.placed ∙ placed) in
            first_by k v.0 j.0 a f w v.1 j.1 walk (subst (λ (n : ℕ). IsAtMost (trail (λ i. i) q.visits n) (j.0 ∷ w)) same_place x.most);
      }

  pub found_none : (f : ℕ) → place_of q f ≡ None → (a : ℕ) (w : List ℕ) → is_member a g.sources ≡ true → is_walk g a w f ≡ false
  found_none f none a w among =
      false_from_ne_true (is_walk g a w f) (λ walk. let j = member_place g.sources a among in let x = from_source w j.0 a f j.1 walk in none-some x.place (sym none ∙ x.placed))

  ---- chains

  abbrev is_end : ℕ → Bool
  is_end x = is_member x g.headers

  -- a walk to a header reaches it no earlier than the first header
  end_later : (k j a h : ℕ) (w : List ℕ) → first_place is_end q.visits ≡ Some k → slice_get g.sources j ≡ Some a → is_end h ≡ true → is_walk g a w h ≡ true → IsAtMost (trail (λ i. i) q.visits k) (j ∷ w)
  end_later k j a h w first at end walk =
      let x = from_source w j a h at walk in
      let u = place_there q.visits h x.place x.placed in
      let least = first_least is_end q.visits k x.place u.0 first u.1 (ap is_end u.2 ∙ end) in
      elim (cases_lt k x.place) [
        | inl earlier ↦ at_most_trans (before (s.first.ordered.order k x.place earlier (slice_get_within q.visits x.place u.0 u.1))) x.most
        | inr later ↦ let is : x.place ≡ k = omega arith in subst (λ (n : ℕ). IsAtMost (trail (λ i. i) q.visits n) (j ∷ w)) is x.most
      ]

  pub found_shortest : (k : ℕ) → first_place is_end q.visits ≡ Some k → IsShortest g (path_to q.visits k)
  found_shortest k first =
      let v = first_there is_end q.visits k first in
      let road = road_at k v.0 v.1 in
      let most : (other : List ℕ) → is_chain g other ≡ true → IsAtMost (path_to q.visits k) other = λ other chain.
      let c = chain_parts g other chain in
      let j = member_place g.sources c.source c.begins in
      first_by k v.0 j.0 c.source c.header other v.1 j.1 c.walk (end_later k j.0 c.source c.header other first j.1 c.ends c.walk) in
      record {
        real = chain_of g (path_to q.visits k) (record {
          source = road.source;
          begins = member_at g.sources (start_of q.visits k) road.source road.at;
          header = v.0.file;
          ends = v.2;
          walk = road.walk;
          distinct = ap is_distinct road.files ∙ distinct_path (EdgeLeads g) g.sources q s.search.reached k v.0 v.1;
        });
        passes = refl;
        shortest = λ other is _. at_most_length (most other is);
        first = λ other is _ long. at_most_first (most other is) long;
      }

  pub found_no_chain : first_place is_end q.visits ≡ None → (chain : List ℕ) → not (is_chain g chain) ≡ true
  found_no_chain none chain = not_from_false (is_chain g chain) (false_from_ne_true (is_chain g chain) (λ is.
      let c = chain_parts g chain is in
      let j = member_place g.sources c.source c.begins in
      let x = from_source chain j.0 c.source c.header j.1 c.walk in
      let u = place_there q.visits c.header x.place x.placed in
      false≢true (sym (first_none is_end q.visits x.place u.0 none u.1) ∙ ap is_end u.2 ∙ c.ends)))
