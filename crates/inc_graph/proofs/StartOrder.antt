-- The sources of a graph are the first files of a search from them, in their order, which is that of the edges that leave them.
use Rattle.std.proofs.Common.{◌≡◌, ℕ, zero, suc, ◌+◌, ◌<◌, true, List, [], ◌∷◌, Some, None, length, get_or, inl, inr, refl, sym, ap, ◌∙◌, subst, zero-add, arith}
use Rattle.std.specs.Prelude.{slice_get, fold, nat_lt, ◌==◌, ◌&&◌}
use Rattle.std.specs.List.{AllPairs}
use Rattle.std.specs.List.Sorted.{IsStrictlyIncreasing}
use Rattle.std.proofs.lemmas.Bool.{and_parts, cases_lt, eq-eqb, eqb-true, ltb-true, or_cases, or_left, or_right}
use Rattle.std.proofs.lemmas.List.{length_push}
use Rattle.std.proofs.lemmas.List.Kept.{AllPairs-from_increasing}
use Rattle.std.proofs.lemmas.Option.{none-some, same_Some, slice_get_within, get_or_from_slice_get}
use Rattle.inc_graph.specs.declared.search.Visit.{Visit}
use Rattle.inc_graph.specs.IncludeGraph.{Edge, Graph, IsSound, is_edge_before}
use Rattle.inc_graph.specs.Members.{is_member}
use Rattle.inc_graph.specs.Chains.{leaves, target, is_walk}
use Rattle.inc_graph.specs.PathOrder.{shorter, less, IsAtMost, before, same}
use Rattle.inc_graph.specs.Search.{Queue, place_of, with_start, started}
use Rattle.inc_graph.proofs.EdgeOrder.{ordered_at}
use Rattle.inc_graph.proofs.Members.{member_place}
use Rattle.inc_graph.proofs.QueueLemmas.{place_push-new, place_push-other}
use Rattle.inc_graph.proofs.SearchLemmas.{visit_new, grown_starts}
use Rattle.inc_graph.proofs.Walks.{leaving_edge}

---- the places of the starts

start_new : {S : Type 0} (q : Queue S) (f : ℕ) → place_of q f ≡ None → place_of (with_start q f) f ≡ Some (length q.visits)
start_new {S} q f none =
    let v : Visit S = record { file = f; parent = None } in
    ap (λ (r : Queue S). place_of r f) (visit_new v q none) ∙ place_push-new q.visits v none

start_other : {S : Type 0} (q : Queue S) (f x : ℕ) → place_of q f ≡ None → (x ≡ f → ⊥) → place_of (with_start q f) x ≡ place_of q x
start_other {S} q f x none other =
    let v : Visit S = record { file = f; parent = None } in
    ap (λ (r : Queue S). place_of r x) (visit_new v q none) ∙ place_push-other q.visits v x other

start_long : {S : Type 0} (q : Queue S) (f : ℕ) → place_of q f ≡ None → length (with_start q f).visits ≡ length q.visits + 1
start_long {S} q f none =
    let v : Visit S = record { file = f; parent = None } in
    ap (λ (r : Queue S). length r.visits) (visit_new v q none) ∙ length_push q.visits v

-- a later number is greater
later_greater : (n : ℕ) (ns : List ℕ) (f : ℕ) → AllPairs (λ x y. x < y) (n ∷ ns) → is_member f ns ≡ true → n < f
later_greater n ns f up there =
    let at = member_place ns f there in
    let low = slice_get_within ns at.0 f at.1 in
    subst (λ (m : ℕ). n < m) (get_or_from_slice_get ns at.0 f f at.1) (up 0 (suc at.0) f (omega arith) (omega arith))

placed_from : {S : Type 0} (q : Queue S) (starts : List ℕ) → AllPairs (λ x y. x < y) starts → ((f : ℕ) → is_member f starts ≡ true → place_of q f ≡ None)
    → (k f : ℕ) → slice_get starts k ≡ Some f → place_of (fold with_start q starts) f ≡ Some (length q.visits + k)
placed_from q [] up fresh k f at = absurd (none-some f at)
placed_from {S} q (s ∷ ss) up fresh zero f at =
    let here : s ≡ f = same_Some s f at in
    let none : place_of q f ≡ None = fresh f (or_left (s == f) (is_member f ss) (eq-eqb s f here)) in
    let new : place_of (with_start q s) f ≡ Some (length q.visits + 0) = ap (λ (x : ℕ). place_of (with_start q x) f) here ∙ start_new q f none ∙ ap Some (omega arith) in
    (grown_starts (with_start q s) ss).kept f (length q.visits + 0) new
placed_from {S} q (s ∷ ss) up fresh (suc k) f at =
    let none : place_of q s ≡ None = fresh s (or_left (s == s) (is_member s ss) (eq-eqb s s refl)) in
    let still : (x : ℕ) → is_member x ss ≡ true → place_of (with_start q s) x ≡ None = λ x there.
    let above = later_greater s ss x up there in
    start_other q s x none (λ e. omega arith) ∙ fresh x (or_right (s == x) (is_member x ss) there) in
    let long = start_long q s none in
    placed_from (with_start q s) ss (λ i j d below low. up (suc i) (suc j) d (omega arith) (omega arith)) still k f at ∙ ap Some (omega arith)

pub starts_placed : {S : Type 0} (files : ℕ) (starts : List ℕ) (q : Queue S) → IsStrictlyIncreasing starts → q ≡ started files starts
    → (k f : ℕ) → slice_get starts k ≡ Some f → place_of q f ≡ Some k
starts_placed {S} files starts q up is k f at =
    let none : Queue S = record { files = files; visits = [] } in
    ap (λ (x : Queue S). place_of x f) is ∙ placed_from none starts (AllPairs-from_increasing starts up) (λ x there. refl) k f at ∙ ap Some (zero-add k)

---- the edges that leave them

-- an edge from an earlier file has a lower number
pub lower_edge : (g : Graph) (a b i j : ℕ) → IsSound g → leaves g a i ≡ true → leaves g b j ≡ true → a < b → i < j
lower_edge g a b i j sound from_a from_b under =
    let x = leaving_edge g a i _ refl from_a in
    let y = leaving_edge g b j _ refl from_b in
    let at_x : get_or g.edges i x.0 ≡ x.0 = get_or_from_slice_get g.edges i x.0 x.0 x.1 in
    let x_file : x.0.from ≡ a = x.2 in
    let y_file : y.0.from ≡ b = y.2 in
    elim (cases_lt i j) [
      | inl low ↦ low
      | inr high ↦ elim (cases_lt j i) [
        | inl below ↦
            let at_y : get_or g.edges j x.0 ≡ y.0 = get_or_from_slice_get g.edges j y.0 x.0 y.1 in
            let ordered = ordered_at g.edges j i x.0 sound.ordered below (slice_get_within g.edges i x.0 x.1) in
            let first : is_edge_before y.0 x.0 ≡ true = subst (λ (e : Edge). is_edge_before e x.0 ≡ true) at_y (subst (λ (e : Edge). is_edge_before (get_or g.edges j x.0) e ≡ true) at_x ordered) in
            elim (or_cases (nat_lt y.0.from x.0.from) ((y.0.from == x.0.from) && nat_lt y.0.line x.0.line) first) [
              | inl earlier ↦ absurd (omega (arith, ltb-true y.0.from x.0.from earlier))
              | inr here ↦ absurd (omega (arith, eqb-true y.0.from x.0.from (and_parts (y.0.from == x.0.from) (nat_lt y.0.line x.0.line) here).0))
            ]
        | inr more ↦
            let is : j ≡ i = omega arith in
            let one : y.0 ≡ x.0 = same_Some y.0 x.0 (sym y.1 ∙ ap (slice_get g.edges) is ∙ x.1) in
            let files : y.0.from ≡ x.0.from = ap (λ (e : Edge). e.from) one in
            absurd (omega arith)
      ]
    ]

-- of walks from two sources that is first which is so with the place of its source before it
module _ (g : Graph) (sound : IsSound g) where
  by_first : (a b f h : ℕ) (p w : List ℕ) → a < b → is_walk g a p f ≡ true → is_walk g b w h ≡ true → length p ≡ length w → IsAtMost p w
  by_first a b f h [] [] under walk other long = same refl
  by_first a b f h [] (j ∷ js) under walk other long = absurd (omega arith)
  by_first a b f h (i ∷ is) [] under walk other long = absurd (omega arith)
  by_first a b f h (i ∷ is) (j ∷ js) under walk other long =
      let from_a = (and_parts (leaves g a i) (is_walk g (target g i) is f) walk).0 in
      let from_b = (and_parts (leaves g b j) (is_walk g (target g j) js h) other).0 in
      before (less long (inl (lower_edge g a b i j sound from_a from_b under)))

  source_before : (j k a b : ℕ) → slice_get g.sources j ≡ Some a → slice_get g.sources k ≡ Some b → j < k → a < b
  source_before j k a b at_a at_b under =
      let up = AllPairs-from_increasing g.sources sound.ends.sources_rise j k a under (slice_get_within g.sources k b at_b) in
      omega (arith, up, get_or_from_slice_get g.sources j a a at_a, get_or_from_slice_get g.sources k b a at_b)

  pub without_places : (j k a b f h : ℕ) (p w : List ℕ) → slice_get g.sources j ≡ Some a → slice_get g.sources k ≡ Some b → is_walk g a p f ≡ true → is_walk g b w h ≡ true
      → IsAtMost (j ∷ p) (k ∷ w) → IsAtMost p w
  without_places j k a b f h p w at_a at_b walk other (before (shorter less_long)) = before (shorter (omega arith))
  without_places j k a b f h p w at_a at_b walk other (before (less long first)) = elim first [
    | inl under ↦ by_first a b f h p w (source_before j k a b at_a at_b under) walk other (omega arith)
    | inr rest ↦ before (less (omega arith) rest.1)
  ]
  without_places j k a b f h p w at_a at_b walk other (same e) = same cc
