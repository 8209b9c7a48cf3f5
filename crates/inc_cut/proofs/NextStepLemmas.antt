-- The steps from a file as a list: the one at each place, and that it has all of them.
use Rattle.std.proofs.Common.{◌≡◌, ℕ, ◌+◌, ◌<◌, Bool, true, false, List, [], ◌∷◌, ◌++◌, Some, length, map, zero, suc, inl, inr, refl, sym, ap, subst, ◌∙◌, arith}
use Rattle.std.specs.Prelude.{slice_get}
use Rattle.std.proofs.lemmas.List.{length-map}
use Rattle.std.proofs.lemmas.Option.{none-some, slice_get_within}
use Rattle.std.proofs.lemmas.Bool.{cases_Bool, lt-ltb}
use Rattle.inc_graph.specs.IncludeGraph.{Graph, IsSound}
use Rattle.inc_graph.specs.Chains.{target}
use Rattle.inc_graph.specs.Indexes.{edges_leaving, edges_entering, AreFollowing}
use Rattle.inc_graph.specs.Views.{seen_edge}
use Rattle.inc_graph.specs.declared.graphs.Edge as declared
use Rattle.inc_graph.proofs.Walks.{inner_edge}
use Rattle.inc_cut.specs.declared.flows.Step.{Step}
use Rattle.inc_cut.specs.Flows.{source_of, step_from, step_to}
use Rattle.inc_cut.specs.NextSteps.{IsNextStep, ahead_of, back_of, steps_of}
use Rattle.inc_graph.proofs.LeavingEdges.{leaving_at}
use Rattle.inc_cut.proofs.StepLists.{at_of, from_at, to_at, entering_at, map_at, steps_ahead, steps_back}

---- the steps from a file

pub next_ahead : (g : Graph) (file k : ℕ) (items : List declared.Edge) (e : declared.Edge) → IsSound g → items ≡ edges_leaving g.edges file → slice_get items k ≡ Some e
    → IsNextStep g file (record { step = record { edge = e.id; forward = true }; to = e.to })
next_ahead g file k items e sound are at =
    let l = leaving_at g file k e (ap (λ (es : List declared.Edge). slice_get es k) (sym are) ∙ at) in
    record {
      within = slice_get_within g.edges e.id (seen_edge e) l.0;
      from = from_at g e.id (seen_edge e) l.0 ∙ l.1;
      to = to_at g e.id (seen_edge e) l.0;
      inside = (inner_edge g e.id (seen_edge e) sound l.0).to_within;
    }

pub next_back : (g : Graph) (file k i to : ℕ) (items : List ℕ) → IsSound g → items ≡ edges_entering g.edges file → slice_get items k ≡ Some i → to ≡ source_of g i
    → IsNextStep g file (record { step = record { edge = i; forward = false }; to = to })
next_back g file k i to items sound are at is =
    let x = entering_at g file k i (ap (λ (es : List ℕ). slice_get es k) (sym are) ∙ at) in
    record {
      within = slice_get_within g.edges i x.0 x.1;
      from = to_at g i x.0 x.1 ∙ x.2;
      to = sym is;
      inside = rw (is, from_at g i x.0 x.1) (inner_edge g i x.0 sound x.1).from_within;
    }

pub back_low : (g : Graph) (file k i : ℕ) (items : List ℕ) → items ≡ edges_entering g.edges file → slice_get items k ≡ Some i → i < length g.edges
back_low g file k i items are at =
    let x = entering_at g file k i (ap (λ (es : List ℕ). slice_get es k) (sym are) ∙ at) in
    slice_get_within g.edges i x.0 x.1

-- the file to which a step leads
pub leads_ahead : (g : Graph) (s : Step) (to : ℕ) → s.forward ≡ true → to ≡ target g s.edge → to ≡ step_to g s
leads_ahead g s to way is = rw way is

pub leads_back : (g : Graph) (s : Step) (to : ℕ) → s.forward ≡ false → to ≡ source_of g s.edge → to ≡ step_to g s
leads_back g s to way is = rw way is

pub end_inside : (g : Graph) (i : ℕ) (way : Bool) → IsSound g → i < length g.edges → step_to g (record { edge = i; forward = way }) < g.files
end_inside g i true sound low =
    let x = at_of g.edges i low in
    rw (to_at g i x.0 x.1) (inner_edge g i x.0 sound x.1).to_within
end_inside g i false sound low =
    let x = at_of g.edges i low in
    rw (from_at g i x.0 x.1) (inner_edge g i x.0 sound x.1).from_within

pub next_is : (g : Graph) (file to : ℕ) (s : Step) → IsSound g → s.edge < length g.edges → step_from g s ≡ file → to ≡ step_to g s
    → IsNextStep g file (record { step = s; to = to })
next_is g file to s sound low from is = record {
  within = low;
  from = from;
  to = sym is;
  inside = subst (λ (f : ℕ). f < g.files) (sym is) (end_inside g s.edge s.forward sound low);
}

---- their places

at_first : {X : Type 0} (xs ys : List X) (k : ℕ) (x : X) → slice_get xs k ≡ Some x → slice_get (xs ++ ys) k ≡ Some x
at_first [] ys k x at = absurd (none-some x at)
at_first (y ∷ xs) ys zero x at = at
at_first (y ∷ xs) ys (suc k) x at = at_first xs ys k x at

at_second : {X : Type 0} (xs ys : List X) (k n : ℕ) (x : X) → n ≡ length xs + k → slice_get ys k ≡ Some x → slice_get (xs ++ ys) n ≡ Some x
at_second [] ys k n x is at = let e : n ≡ k = omega arith in rw e at
at_second (y ∷ xs) ys k zero x is at = absurd (omega arith)
at_second (y ∷ xs) ys k (suc n) x is at = at_second xs ys k n x (omega arith) at

pub ahead_at : (g : Graph) (file k : ℕ) (items : List declared.Edge) (e : declared.Edge) → items ≡ edges_leaving g.edges file → slice_get items k ≡ Some e
    → slice_get (steps_of g file) k ≡ Some (record { edge = e.id; forward = true })
ahead_at g file k items e are at =
    at_first (map ahead_of (edges_leaving g.edges file)) (map back_of (edges_entering g.edges file)) k (ahead_of e)
    (map_at ahead_of (edges_leaving g.edges file) k e (ap (λ (es : List declared.Edge). slice_get es k) (sym are) ∙ at))

pub back_at : (g : Graph) (file k n i : ℕ) (ahead : List declared.Edge) (items : List ℕ) → ahead ≡ edges_leaving g.edges file → items ≡ edges_entering g.edges file
    → n ≡ length ahead + k → slice_get items k ≡ Some i → slice_get (steps_of g file) n ≡ Some (record { edge = i; forward = false })
back_at g file k n i ahead items first are is at =
    let long = length-map (edges_leaving g.edges file) ahead_of in
    let same : length ahead ≡ length (edges_leaving g.edges file) = ap (λ (l : List declared.Edge). length l) first in
    at_second (map ahead_of (edges_leaving g.edges file)) (map back_of (edges_entering g.edges file)) k n (back_of i) (omega arith)
    (map_at back_of (edges_entering g.edges file) k i (ap (λ (es : List ℕ). slice_get es k) (sym are) ∙ at))

-- a step from the file with its place among them
pub record IsStepAt (g : Graph) (file k : ℕ) (s : Step) : Type 0 where
  pub within : s.edge < length g.edges
  pub from : step_from g s ≡ file
  pub at : slice_get (steps_of g file) k ≡ Some s

abbrev ahead_on : ℕ → Step
ahead_on i = record { edge = i; forward = true }

-- the edges ahead have the numbers from the first on
pub step_ahead_at : (g : Graph) (file first k i : ℕ) (items : List declared.Edge) (s : Step) → IsSound g → items ≡ edges_leaving g.edges file
    → AreFollowing first (edges_leaving g.edges file) → k < length items → i ≡ first + k → s ≡ record { edge = i; forward = true } → IsStepAt g file k s
step_ahead_at g file first k i items s sound are following low is made =
    let x = at_of items k low in
    let id : x.0.id ≡ i = following k x.0 (ap (λ (es : List declared.Edge). slice_get es k) (sym are) ∙ x.1) ∙ sym is in
    let n = next_ahead g file k items x.0 sound are x.1 in
    let there : IsStepAt g file k (ahead_on x.0.id) = record { within = n.within; from = n.from; at = ahead_at g file k items x.0 are x.1 } in
    subst (IsStepAt g file k) (ap ahead_on id ∙ sym made) there

pub step_back_at : (g : Graph) (file k n i : ℕ) (ahead : List declared.Edge) (items : List ℕ) (s : Step) → IsSound g → ahead ≡ edges_leaving g.edges file
    → items ≡ edges_entering g.edges file → n ≡ length ahead + k → slice_get items k ≡ Some i → s ≡ record { edge = i; forward = false } → IsStepAt g file n s
step_back_at g file k n i ahead items s sound first are is at made =
    let b = next_back g file k i (source_of g i) items sound are at refl in
    let there : IsStepAt g file n (back_of i) = record { within = b.within; from = b.from; at = back_at g file k n i ahead items first are is at } in
    subst (IsStepAt g file n) (sym made) there

-- where the first step ahead with this place is below the edges, which are few
pub place_low : (g : Graph) (file first k : ℕ) (items : List declared.Edge) → IsSound g → items ≡ edges_leaving g.edges file
    → AreFollowing first (edges_leaving g.edges file) → k < length items → (first + k < length g.edges) × (first + k < 1_000_001)
place_low g file first k items sound are following low =
    let a = step_ahead_at g file first k (first + k) items (ahead_on (first + k)) sound are following low refl refl in
    let within = a.within in
    let sized = sound.sized in
    (within, omega arith)

-- each step from the file is among them
pub step_among : (g : Graph) (file : ℕ) (s : Step) → IsSound g → s.edge < length g.edges → step_from g s ≡ file → (k : ℕ) × (slice_get (steps_of g file) k ≡ Some s)
step_among g file s sound low from = elim (cases_Bool s.forward) [
  | inl way ↦
      let a = (steps_ahead g file sound).whole s way (lt-ltb s.edge (length g.edges) low) from in
      (a.0, at_first (map ahead_of (edges_leaving g.edges file)) (map back_of (edges_entering g.edges file)) a.0 s a.1)
  | inr way ↦
      let a = (steps_back g file sound).whole s way (lt-ltb s.edge (length g.edges) low) from in (
        length (map ahead_of (edges_leaving g.edges file)) + a.0,
        at_second (map ahead_of (edges_leaving g.edges file)) (map back_of (edges_entering g.edges file)) a.0 (length (map ahead_of (edges_leaving g.edges file)) + a.0) s refl a.1,
      )
]
