-- Walks of a graph, and those of the part of it between some of its files and others.
use Rattle.std.proofs.Common.{◌≡◌, ℕ, ◌≤◌, zero, suc, Bool, true, false, List, [], ◌∷◌, Option, Some, length, get_or, inl, inr, refl, sym, ap, ◌∙◌, arith}
use Rattle.std.specs.Prelude.{◌==◌, filter, slice_get}
use Rattle.std.specs.Option.{option_map_or}
use Rattle.std.proofs.lemmas.Bool.{cases_Bool, cond-true, cond-false, eq-eqb, and_parts, and_from, not_from_false}
use Rattle.std.proofs.lemmas.Option.{none-some, same_Some, slice_get_within}
use Rattle.inc_graph.specs.Between.{between, edges_at, in_whole, leaves_none, numbers_between}
use Rattle.inc_graph.specs.IncludeGraph.{Edge, Graph}
use Rattle.inc_graph.specs.Chains.{target, leaves, is_walk, is_chain}
use Rattle.inc_graph.specs.Members.{is_member}
use Rattle.inc_graph.proofs.BetweenNumbers.{edge_at}
use Rattle.inc_graph.proofs.Walks.{chain_parts, leaving_edge}
use Rattle.inc_graph.proofs.LooplessWalks.{chain_of_walk}

-- an edge that passes has a place among those that do
kept_at : (p : Edge → Bool) (es : List Edge) (i : ℕ) (e : Edge) → slice_get es i ≡ Some e → p e ≡ true → (k : ℕ) × (slice_get (filter p es) k ≡ Some e)
kept_at p [] i e at passes = absurd (none-some e at)
kept_at p (x ∷ xs) zero e at passes =
    let first : p x ≡ true = ap p (same_Some x e at) ∙ passes in
    (0, ap (λ (l : List Edge). slice_get l 0) (cond-true (p x) (x ∷ filter p xs) (filter p xs) first) ∙ at)
kept_at p (x ∷ xs) (suc i) e at passes =
    let further = kept_at p xs i e at passes in
    elim (cases_Bool (p x)) [
      | inl stays ↦ (suc further.0, ap (λ (l : List Edge). slice_get l (suc further.0)) (cond-true (p x) (x ∷ filter p xs) (filter p xs) stays) ∙ further.1)
      | inr falls ↦ (further.0, ap (λ (l : List Edge). slice_get l further.0) (cond-false (p x) (x ∷ filter p xs) (filter p xs) falls) ∙ further.1)
    ]

---- the step of a walk

-- an edge by its number in the graph
leaves_by : (g : Graph) (a i : ℕ) (e : Edge) → slice_get g.edges i ≡ Some e → e.from ≡ a → leaves g a i ≡ true
leaves_by g a i e at from = ap (λ (o : Option Edge). option_map_or (λ (x : Edge). x.from == a) o false) at ∙ eq-eqb e.from a from

target_by : (g : Graph) (i : ℕ) (e : Edge) → slice_get g.edges i ≡ Some e → target g i ≡ e.to
target_by g i e at = ap (λ (o : Option Edge). option_map_or (λ (x : Edge). x.to) o 0) at

-- an edge of two graphs, with a number in each, before walks to one file
step_by : (g h : Graph) (a i k : ℕ) (e : Edge) (ks : List ℕ) (b : ℕ) → slice_get g.edges i ≡ Some e → slice_get h.edges k ≡ Some e → e.from ≡ a
    → is_walk h (target g i) ks b ≡ true → is_walk h a (k ∷ ks) b ≡ true
step_by g h a i k e ks b at there from walk =
    let same : target h k ≡ target g i = target_by h k e there ∙ sym (target_by g i e at) in
    and_from (leaves h a k) (is_walk h (target h k) ks b) (leaves_by h a k e there from) (ap (λ (f : ℕ). is_walk h f ks b) same ∙ walk)

---- a walk up to its first file that is a header

record IsFront (g : Graph) (from to : List ℕ) (a : ℕ) (walk : List ℕ) : Type 0 where
  pub header : ℕ
  pub walked : List ℕ
  pub ends : is_member header to ≡ true
  pub real : is_walk (between from to g) a walked header ≡ true
  pub short : length walked ≤ length walk

front : (g : Graph) (from to : List ℕ) (a : ℕ) (walk : List ℕ) (b : ℕ) → is_member b to ≡ true → is_walk g a walk b ≡ true → IsFront g from to a walk
front g from to a [] b ends walk = record { header = b; walked = []; ends = ends; real = walk; short = omega arith }
front g from to a (i ∷ is) b ends walk =
    elim (cases_Bool (is_member a to)) [
      | inl met ↦ record { header = a; walked = []; ends = met; real = eq-eqb a a refl; short = omega arith }
      | inr apart ↦
          let steps = and_parts (leaves g a i) (is_walk g (target g i) is b) walk in
          let e = leaving_edge g a i _ refl steps.0 in
          let stays : leaves_none to e.0 ≡ true = not_from_false (is_member e.0.from to) (ap (λ (f : ℕ). is_member f to) e.2 ∙ apart) in
          let k = kept_at (leaves_none to) g.edges i e.0 e.1 stays in
          let rest = front g from to (target g i) is b ends steps.1 in
          let short = rest.short in
          record {
            header = rest.header;
            walked = k.0 ∷ rest.walked;
            ends = rest.ends;
            real = step_by g (between from to g) a i k.0 e.0 rest.walked rest.header e.1 k.1 e.2 rest.real;
            short = omega arith;
          }
    ]

pub chain_between : (g : Graph) (from to : List ℕ) (source header : ℕ) (walk : List ℕ) → is_member source from ≡ true → is_member header to ≡ true → is_walk g source walk header ≡ true
    → (chain : List ℕ) × (is_chain (between from to g) chain ≡ true) × (length chain ≤ length walk)
chain_between g from to source header walk begins ends real =
    let first = front g from to source walk header ends real in
    let short = first.short in
    let found = chain_of_walk (between from to g) source first.header first.walked begins first.ends first.real in
    let few = found.3 in
    (found.0, found.1, omega arith)

---- a walk of the part, in the graph

whole_walk : (g : Graph) (from to : List ℕ) (a : ℕ) (walk : List ℕ) (b : ℕ) → is_walk (between from to g) a walk b ≡ true
    → (is_walk g a (in_whole to g walk) b ≡ true) × (edges_at g (in_whole to g walk) ≡ edges_at (between from to g) walk)
whole_walk g from to a [] b walk = (walk, refl)
whole_walk g from to a (k ∷ ks) b walk =
    let h : Graph = between from to g in
    let number : ℕ = get_or (numbers_between to g) k 0 in
    let steps = and_parts (leaves h a k) (is_walk h (target h k) ks b) walk in
    let e = leaving_edge h a k _ refl steps.0 in
    let same : slice_get g.edges number ≡ slice_get h.edges k = sym (edge_at g to k (slice_get_within h.edges k e.0 e.1)) in
    let rest = whole_walk g from to (target h k) ks b steps.1 in (
      step_by h g a k number e.0 (in_whole to g ks) b e.1 (same ∙ e.1) e.2 rest.0,
      ap (λ (o : Option Edge). o ∷ edges_at g (in_whole to g ks)) same ∙ ap (λ (l : List (Option Edge)). slice_get h.edges k ∷ l) rest.1,
    )

pub walk_of_chain : (g : Graph) (from to : List ℕ) (chain : List ℕ) → is_chain (between from to g) chain ≡ true
    → (source : ℕ) × (header : ℕ) × (is_member source from ≡ true) × (is_member header to ≡ true) × (is_walk g source (in_whole to g chain) header ≡ true)
    × (edges_at g (in_whole to g chain) ≡ edges_at (between from to g) chain)
walk_of_chain g from to chain is =
    let parts = chain_parts (between from to g) chain is in
    let whole = whole_walk g from to parts.source chain parts.header parts.walk in
    (parts.source, parts.header, parts.begins, parts.ends, whole.0, whole.1)
