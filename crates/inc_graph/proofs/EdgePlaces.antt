-- Edges by their places: the numbers of those that leave a file follow one another, and what the list of targets holds.
use Rattle.std.proofs.Common.{◌≡◌, ℕ, zero, suc, ◌+◌, ◌-◌, ◌<◌, List, [], ◌∷◌, Some, length, take, drop, map, get_or, refl, sym, ap, ◌∙◌, arith}
use Rattle.std.specs.Prelude.{slice_get, slice_index, slice_range}
use Rattle.std.specs.Option.{option_map_or}
use Rattle.std.proofs.lemmas.List.{get_or_read}
use Rattle.std.proofs.lemmas.Option.{none-some, same_Some}
use Rattle.inc_graph.specs.declared.graphs.Edge as declared
use Rattle.inc_graph.specs.IncludeGraph.{Edge, Graph}
use Rattle.inc_graph.specs.Views.{numbered_from, numbered}
use Rattle.inc_graph.specs.Chains.{target}
use Rattle.inc_graph.specs.Indexes.{edges_leaving, IsIndex, AreFollowing, AreTargets}

---- a part of the edges

front_at : {X : Type 0} (n : ℕ) (xs : List X) (k : ℕ) (x : X) → slice_get (take n xs) k ≡ Some x → slice_get xs k ≡ Some x
front_at zero xs k x at = absurd (none-some x at)
front_at (suc n) [] k x at = absurd (none-some x at)
front_at (suc n) (y ∷ ys) zero x at = at
front_at (suc n) (y ∷ ys) (suc k) x at = front_at n ys k x at

rest_at : {X : Type 0} (n : ℕ) (xs : List X) (k m : ℕ) (x : X) → m ≡ n + k → slice_get (drop n xs) k ≡ Some x → slice_get xs m ≡ Some x
rest_at zero xs k m x is at = let e : m ≡ k = omega arith in rw e at
rest_at (suc n) [] k m x is at = absurd (none-some x at)
rest_at (suc n) (y ∷ ys) k zero x is at = absurd (omega arith)
rest_at (suc n) (y ∷ ys) k (suc m) x is at = rest_at n ys k m x (omega arith) at

number_at : (n : ℕ) (es : List Edge) (i : ℕ) (e : declared.Edge) → slice_get (numbered_from n es) i ≡ Some e → e.id ≡ n + i
number_at n [] i e at = absurd (none-some e at)
number_at n (x ∷ xs) zero e at =
    let id : n ≡ e.id = ap (λ (d : declared.Edge). d.id) (same_Some _ e at) in
    omega arith
number_at n (x ∷ xs) (suc i) e at =
    let rest = number_at (n + 1) xs i e at in
    omega arith

-- a part of the edges has the numbers from its place on
pub part_follows : (es : List Edge) (items part : List declared.Edge) (first end : ℕ) → items ≡ numbered es → slice_range items first end ≡ part → AreFollowing first part
part_follows es items part first end are is = λ k e at.
    let there = rest_at first items k (first + k) e refl (front_at (end - first) (drop first items) k e (ap (λ (l : List declared.Edge). slice_get l k) is ∙ at)) in
    let id = number_at 0 es (first + k) e (ap (λ (l : List declared.Edge). slice_get l (first + k)) (sym are) ∙ there) in
    omega arith

-- by the place where those of a file begin
pub first_follows : (es : List Edge) (items : List declared.Edge) (starts : List ℕ) (files file k first : ℕ) → items ≡ numbered es → IsIndex files starts items (edges_leaving es) → file < files
    → k ≡ file → first ≡ get_or starts k first → AreFollowing first (edges_leaving es file)
first_follows es items starts files file k first are index low at read =
    let long = index.long in
    let is : first ≡ slice_index starts file = get_or_read starts k first (omega arith) read 0 ∙ ap (slice_index starts) at in
    part_follows es items (edges_leaving es file) first (slice_index starts (file + 1)) are
    (ap (λ (i : ℕ). slice_range items i (slice_index starts (file + 1))) is ∙ index.are file low)

---- the list of targets

numbered_targets_are : (n : ℕ) (es : List Edge) → map (λ (e : declared.Edge). e.to) (numbered_from n es) ≡ map (λ (e : Edge). e.to) es
numbered_targets_are n [] = refl
numbered_targets_are n (e ∷ es) = ap (λ (l : List ℕ). e.to ∷ l) (numbered_targets_are (n + 1) es)

listed : (es : List Edge) (ts : List ℕ) → ts ≡ map (λ (e : Edge). e.to) es → AreTargets es ts
listed es [] are = tt
listed es (t ∷ ts) are = are

-- the list as it is made
pub targets_listed : (es : List Edge) (items : List declared.Edge) (ts : List ℕ) → items ≡ numbered es → ts ≡ map (λ (e : declared.Edge). e.to) items → AreTargets es ts
targets_listed es items ts are made =
    listed es ts (made ∙ ap (λ (l : List declared.Edge). map (λ (e : declared.Edge). e.to) l) are ∙ numbered_targets_are 0 es)

target_at : (es : List Edge) (i d : ℕ) → i < length es → get_or (map (λ (e : Edge). e.to) es) i d ≡ option_map_or (λ (e : Edge). e.to) (slice_get es i) 0
target_at [] i d low = absurd (omega arith)
target_at (e ∷ es) zero d low = refl
target_at (e ∷ es) (suc i) d low = target_at es i d (omega arith)

-- what it holds at a place
pub listed_target : (g : Graph) (ts : List ℕ) (i d : ℕ) → AreTargets g.edges ts → (length ts ≡ 0 → ⊥) → i < length g.edges → get_or ts i d ≡ target g i
listed_target g [] i d are some low = absurd (some refl)
listed_target g (t ∷ ts) i d are some low = ap (λ (l : List ℕ). get_or l i d) are ∙ target_at g.edges i d low

-- and that it is as long as the edges
pub listed_long : (es : List Edge) (ts : List ℕ) → AreTargets es ts → (length ts ≡ 0 → ⊥) → length ts ≡ length es
listed_long es [] are some = absurd (some refl)
listed_long es (t ∷ ts) are some = ap (λ (l : List ℕ). length l) are ∙ targets_long es
  where
    targets_long : (es : List Edge) → length (map (λ (e : Edge). e.to) es) ≡ length es
    targets_long [] = refl
    targets_long (e ∷ es) = let rest = targets_long es in omega arith

edge_target : (es : List Edge) (n i : ℕ) (d : declared.Edge) → i < length es → (get_or (numbered_from n es) i d).to ≡ option_map_or (λ (e : Edge). e.to) (slice_get es i) 0
edge_target [] n i d low = absurd (omega arith)
edge_target (e ∷ es) n zero d low = refl
edge_target (e ∷ es) n (suc i) d low = edge_target es (n + 1) i d (omega arith)

-- what the edge itself holds
pub read_target : (g : Graph) (items : List declared.Edge) (i : ℕ) (d : declared.Edge) → items ≡ numbered g.edges → i < length g.edges → (get_or items i d).to ≡ target g i
read_target g items i d are low = ap (λ (l : List declared.Edge). (get_or l i d).to) are ∙ edge_target g.edges 0 i d low
