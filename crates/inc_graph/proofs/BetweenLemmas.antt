-- The part of a graph between some of its files and others is a graph.
use Rattle.std.proofs.Common.{◌≡◌, ℕ, ◌+◌, ◌≤◌, ◌<◌, Bool, true, false, cond, List, [], ◌∷◌, ◌++◌, length, get_or, take, inl, inr, refl, sym, ap, ◌∙◌, subst, add-one, arith, nat_lt}
use Rattle.std.specs.Prelude.{◌==◌, ◌&&◌, filter, map, not}
use Rattle.std.specs.List.{All, list_all}
use Rattle.std.specs.List.Sorted.{IsNonDecreasing}
use Rattle.std.proofs.Math.Seq.{take-suc}
use Rattle.std.proofs.lemmas.Bool.{cases_Bool, cond-true, cond-false, and_parts, eqb-true, ltb-true, not-true, not_from_false, or_cases}
use Rattle.std.proofs.lemmas.List.{append-nil, length_push, map_push}
use Rattle.std.proofs.lemmas.List.Elements.{All-nil, All-filter, All-map, All-weaker, filter-append, filter_passes}
use Rattle.std.proofs.lemmas.List.Filters.{length-filter_both}
use Rattle.std.proofs.lemmas.List.Sums.{AllPass-from_list_all, list_all-from_AllPass}
use Rattle.inc_lookup.specs.declared.projects.DirectiveId.{DirectiveId}
use Rattle.inc_graph.specs.Between.{between, kept_of, leaves_none}
use Rattle.inc_graph.specs.IncludeGraph.{Edge, Graph, AreEnds, IsInner, IsSound, is_edge_before, are_ordered}
use Rattle.inc_graph.specs.Members.{is_member}
use Rattle.inc_graph.specs.MissingLists.{Missing}
use Rattle.inc_graph.specs.Views.{seen_edge, seen_parts, numbered_from, numbered, AreParts}
use Rattle.inc_graph.specs.declared.graphs.Blocker.{Blocker}
use Rattle.inc_graph.specs.declared.graphs.Edge as declared
use Rattle.inc_graph.specs.declared.graphs.Parts.{Parts}
use Rattle.inc_graph.proofs.EdgeOrder.{both, rising-cons}
use Rattle.inc_graph.proofs.GatherLemmas.{numbered_from_push}
use Rattle.inc_graph.proofs.IndexLemmas.{seen_numbered}
use Rattle.inc_graph.proofs.NumberedEdges.{length-numbered_from, with_number}
use Rattle.inc_graph.proofs.PartsLemmas.{from_seen}

---- the order of edges

before_kept : (p : Edge → Bool) (a : Edge) (es : List Edge) → list_all (is_edge_before a) es ≡ true → list_all (is_edge_before a) (filter p es) ≡ true
before_kept p a es before =
    list_all-from_AllPass (is_edge_before a) (filter p es) (All-filter p (λ e. is_edge_before a e ≡ true) es (AllPass-from_list_all (is_edge_before a) es before))

-- of edges in order those that pass are in order
ordered_kept : (p : Edge → Bool) (es : List Edge) → are_ordered es ≡ true → are_ordered (filter p es) ≡ true
ordered_kept p [] ordered = refl
ordered_kept p (e ∷ es) ordered =
    let parts = and_parts (list_all (is_edge_before e) es) (are_ordered es) ordered in
    let rest = ordered_kept p es parts.1 in
    elim (cases_Bool (p e)) [
      | inl stays ↦
          ap are_ordered (cond-true (p e) (e ∷ filter p es) (filter p es) stays)
          ∙ both (list_all (is_edge_before e) (filter p es)) (are_ordered (filter p es)) (before_kept p e es parts.0) rest
      | inr falls ↦ ap are_ordered (cond-false (p e) (e ∷ filter p es) (filter p es) falls) ∙ rest
    ]

not_after : (a b : Edge) → is_edge_before a b ≡ true → a.from ≤ b.from
not_after a b before =
    elim (or_cases (nat_lt a.from b.from) ((a.from == b.from) && nat_lt a.line b.line) before) [
      | inl less ↦ let lt = ltb-true a.from b.from less in omega arith
      | inr same ↦ let eq = eqb-true a.from b.from (and_parts (a.from == b.from) (nat_lt a.line b.line) same).0 in omega arith
    ]

-- edges in order of file and line are in order of file
ordered_rise : (es : List Edge) → are_ordered es ≡ true → IsNonDecreasing (map (λ (e : Edge). e.from) es)
ordered_rise [] ordered = λ i j d h low. absurd (omega arith)
ordered_rise (e ∷ es) ordered =
    let parts = and_parts (list_all (is_edge_before e) es) (are_ordered es) ordered in
    let above : All (λ (x : Edge). e.from ≤ x.from) es =
    All-weaker (λ (x : Edge). is_edge_before e x ≡ true) (λ (x : Edge). e.from ≤ x.from) (λ x before. not_after e x before) es (AllPass-from_list_all (is_edge_before e) es parts.0) in
    rising-cons e.from (map (λ (x : Edge). x.from) es) (All-map (λ n. e.from ≤ n) (λ (x : Edge). x.from) es above) (ordered_rise es parts.1)

---- the part is sound

between_inner : (g : Graph) (from to : List ℕ) → IsSound g → All (IsInner g.files to) (between from to g).edges
between_inner g from to sound = λ k d low.
    let inner = All-filter (leaves_none to) (IsInner g.files g.headers) g.edges sound.inner k d low in
    record {
      from_within = inner.from_within;
      to_within = inner.to_within;
      before = not-true _ (filter_passes (leaves_none to) g.edges k d low);
    }

between_sound : (g : Graph) (from to : List ℕ) → IsSound g → AreEnds g.files from to → IsSound (between from to g)
between_sound g from to sound ends =
    let sized = sound.sized in
    let parts = length-filter_both (leaves_none to) (λ e. not (leaves_none to e)) (λ e. refl) g.edges in
    record {
      few = sound.few;
      ends = ends;
      sized = omega arith;
      inner = between_inner g from to sound;
      lines = All-filter (leaves_none to) (λ (e : Edge). 1 ≤ e.line) g.edges sound.lines;
      ordered = ordered_kept (leaves_none to) g.edges sound.ordered;
      missing_within = All-nil (λ (m : Missing). m.file < g.files);
      missing_ordered = refl;
      blockers_within = All-nil (λ (b : Blocker). b.file < g.files);
      definitions_within = All-nil (λ (d : DirectiveId). d.file < g.files);
    }

seen_cond : (b : Bool) (y : declared.Edge) (ys : List declared.Edge) (fs : List Edge) → map seen_edge ys ≡ fs → map seen_edge (cond b (y ∷ ys) ys) ≡ cond b (seen_edge y ∷ fs) fs
seen_cond true y ys fs is = ap (λ (l : List Edge). seen_edge y ∷ l) is
seen_cond false y ys fs is = is

seen_kept : (p : Edge → Bool) (n : ℕ) (es : List Edge) → map seen_edge (filter (λ (e : declared.Edge). p (seen_edge e)) (numbered_from n es)) ≡ filter p es
seen_kept p n [] = refl
seen_kept p n (x ∷ xs) =
    seen_cond (p x) (with_number n x) (filter (λ (e : declared.Edge). p (seen_edge e)) (numbered_from (n + 1) xs)) (filter p xs) (seen_kept p (n + 1) xs)

abbrev graph_of : (files : ℕ) (sources headers : List ℕ) → List Edge → List Missing → List Blocker → List DirectiveId → Graph
graph_of n ss hs es ms bs ds = record { files = n; sources = ss; headers = hs; edges = es; missing = ms; blockers = bs; definitions = ds }

-- parts whose edges are those that leave none of the headers
pub part_is : (g : Graph) (from to : List ℕ) (p : Parts) (es : List declared.Edge) → p.files ≡ g.files → p.sources ≡ from → p.headers ≡ to → es ≡ numbered g.edges
    → p.edges.items ≡ numbered (map seen_edge (kept_of p.headers es)) → p.missing ≡ [] → p.blockers.items ≡ [] → p.definitions.items ≡ [] → seen_parts p ≡ between from to g
part_is g from to p es files sources headers all are missing blockers definitions =
    let edges : map seen_edge p.edges.items ≡ filter (leaves_none to) g.edges =
    ap (map seen_edge) are ∙ seen_numbered 0 (map seen_edge (kept_of p.headers es)) ∙ ap (λ (l : List ℕ). map seen_edge (kept_of l es)) headers
    ∙ ap (λ (l : List declared.Edge). map seen_edge (kept_of to l)) all ∙ seen_kept (leaves_none to) 0 g.edges in
    same_fields p.files g.files p.sources from p.headers to (map seen_edge p.edges.items) (filter (leaves_none to) g.edges) p.missing p.blockers.items p.definitions.items files sources headers edges missing blockers definitions
  where
    same_fields : (n m : ℕ) (ss ts hs ks : List ℕ) (es fs : List Edge) (ms : List Missing) (bs : List Blocker) (ds : List DirectiveId) → n ≡ m → ss ≡ ts → hs ≡ ks → es ≡ fs → ms ≡ [] → bs ≡ [] → ds ≡ []
        → graph_of n ss hs es ms bs ds ≡ graph_of m ts ks fs [] [] []
    same_fields n m ss ts hs ks es fs ms bs ds f s h e miss b d = rw (f, s, h, e, miss, b, d) refl

pub are_parts_of : (g : Graph) (from to : List ℕ) (p : Parts) (fs : List Edge) → IsSound g → AreEnds g.files from to → seen_parts p ≡ between from to g → p.edges.items ≡ numbered fs → AreParts p
are_parts_of g from to p fs sound ends is are =
    let there : IsSound (between from to g) = between_sound g from to sound ends in
    let order : map (λ (e : declared.Edge). e.from) p.edges.items ≡ map (λ (e : Edge). e.from) (between from to g).edges =
    from_seen p.edges.items ∙ ap (λ (x : Graph). map (λ (e : Edge). e.from) x.edges) is in
    record {
      sound = subst IsSound (sym is) there;
      numbers = are ∙ ap numbered (sym (ap (map seen_edge) are ∙ seen_numbered 0 fs));
      order = subst IsNonDecreasing (sym order) (ordered_rise (between from to g).edges there.ordered);
    }

---- one edge after the other

one_more : (q : declared.Edge → Bool) (edges : List declared.Edge) (i : ℕ) (e : declared.Edge) → i < length edges → e ≡ get_or edges i e
    → filter q (take (i + 1) edges) ≡ filter q (take i edges) ++ filter q (e ∷ [])
one_more q edges i e low at =
    let more : take (i + 1) edges ≡ take i edges ++ e ∷ [] = ap (λ (n : ℕ). take n edges) (add-one i) ∙ take-suc edges i e low ∙ ap (λ (x : declared.Edge). take i edges ++ x ∷ []) (sym at) in
    ap (filter q) more ∙ filter-append q (take i edges) (e ∷ [])

pub pushed : (items now : List declared.Edge) (id : ℕ) (x : declared.Edge) → id ≡ length items → now ≡ items ++ record { id = id; from = x.from; to = x.to; line = x.line } ∷ []
    → (es : List Edge) → items ≡ numbered es → now ≡ numbered (es ++ seen_edge x ∷ [])
pushed items now id x place is es are =
    let long = ap length are ∙ length-numbered_from 0 es in
    is ∙ ap (λ (l : List declared.Edge). l ++ record { id = id; from = x.from; to = x.to; line = x.line } ∷ []) are ∙ sym (numbered_from_push 0 id es (seen_edge x) (omega arith))

pushed_long : (items now : List declared.Edge) (es : List Edge) (e : Edge) → items ≡ numbered es → now ≡ numbered (es ++ e ∷ []) → length now ≡ length items + 1
pushed_long items now es e are is =
    let before = ap length are ∙ length-numbered_from 0 es in
    let behind = ap length is ∙ length-numbered_from 0 (es ++ e ∷ []) in
    let push = length_push es e in
    omega arith

-- an edge that leaves none of the files stays
pub stays_turn : (files : List ℕ) (edges : List declared.Edge) (i : ℕ) (e : declared.Edge) (kept now : List declared.Edge) (old new : List ℕ) → i < length edges → e ≡ get_or edges i e
    → is_member e.from files ≡ false → kept ≡ numbered (map seen_edge (kept_of files (take i edges))) → old ≡ map (λ (x : declared.Edge). x.id) (kept_of files (take i edges))
    → ((es : List Edge) → kept ≡ numbered es → now ≡ numbered (es ++ seen_edge e ∷ [])) → new ≡ old ++ e.id ∷ []
    → (now ≡ numbered (map seen_edge (kept_of files (take (i + 1) edges)))) × (length now ≡ length kept + 1) × (new ≡ map (λ (x : declared.Edge). x.id) (kept_of files (take (i + 1) edges)))
stays_turn files edges i e kept now old new low at apart are had push number =
    let q : declared.Edge → Bool = λ x. leaves_none files (seen_edge x) in
    let done : List declared.Edge = kept_of files (take i edges) in
    let one : kept_of files (take (i + 1) edges) ≡ done ++ e ∷ [] =
    one_more q edges i e low at ∙ ap (λ (l : List declared.Edge). done ++ l) (cond-true (q e) (e ∷ []) [] (not_from_false (is_member e.from files) apart)) in
    let is = push (map seen_edge done) are in (
      is ∙ ap numbered (sym (ap (map seen_edge) one ∙ map_push seen_edge done e)),
      pushed_long kept now (map seen_edge done) (seen_edge e) are is,
      number ∙ ap (λ (l : List ℕ). l ++ e.id ∷ []) had ∙ sym (ap (map (λ (x : declared.Edge). x.id)) one ∙ map_push (λ (x : declared.Edge). x.id) done e),
    )

-- and one that leaves one of them does not
pub falls_turn : (files : List ℕ) (edges : List declared.Edge) (i : ℕ) (e : declared.Edge) (kept : List declared.Edge) (old : List ℕ) → i < length edges → e ≡ get_or edges i e
    → is_member e.from files ≡ true → kept ≡ numbered (map seen_edge (kept_of files (take i edges))) → old ≡ map (λ (x : declared.Edge). x.id) (kept_of files (take i edges))
    → (kept ≡ numbered (map seen_edge (kept_of files (take (i + 1) edges)))) × (old ≡ map (λ (x : declared.Edge). x.id) (kept_of files (take (i + 1) edges)))
falls_turn files edges i e kept old low at member are had =
    let q : declared.Edge → Bool = λ x. leaves_none files (seen_edge x) in
    let done : List declared.Edge = kept_of files (take i edges) in
    let none : kept_of files (take (i + 1) edges) ≡ done =
    one_more q edges i e low at ∙ ap (λ (l : List declared.Edge). done ++ l) (cond-false (q e) (e ∷ []) [] (ap not member)) ∙ append-nil done in
    (are ∙ ap (λ (l : List declared.Edge). numbered (map seen_edge l)) (sym none), had ∙ ap (map (λ (x : declared.Edge). x.id)) (sym none))
