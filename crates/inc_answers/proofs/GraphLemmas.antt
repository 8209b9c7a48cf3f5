-- The edges of a graph as they are printed.
use Rattle.std.proofs.Common.{◌≡◌, ℕ, ◌+◌, ◌<◌, List, [], ◌∷◌, ◌++◌, length, map, get_or, refl, ap, subst, arith}
use Rattle.std.specs.Prelude.{flat_map}
use Rattle.std.specs.List.{All}
use Rattle.std.proofs.lemmas.List.{get_or_default}
use Rattle.std.proofs.lemmas.Option.{get_or_from_slice_get}
use Rattle.inc_graph.proofs.NumberedEdges.{length-numbered_from, numbered_from-at}
use Rattle.inc_graph.specs.declared.graphs.Edge as declared
use Rattle.inc_graph.specs.IncludeGraph.{Edge, Graph, IsInner, IsSound}
use Rattle.inc_graph.specs.Views.{numbered, numbered_from, seen_edge}
use Rattle.inc_answers.proofs.WhyLemmas.{from-within}

pub length-numbered : (g : Graph) → length (numbered g.edges) ≡ length g.edges
length-numbered g = length-numbered_from 0 g.edges

-- numbers are not printed
pub flat_map-numbered : (f : Edge → List ℕ) (n : ℕ) (es : List Edge) → flat_map (λ (e : declared.Edge). f (seen_edge e)) (numbered_from n es) ≡ flat_map f es
flat_map-numbered f n [] = refl
flat_map-numbered f n (e ∷ es) = ap (λ (ys : List ℕ). f e ++ ys) (flat_map-numbered f (n + 1) es)

pub map-numbered : {A : Type 0} (f : Edge → A) (n : ℕ) (es : List Edge) → map (λ (e : declared.Edge). f (seen_edge e)) (numbered_from n es) ≡ map f es
map-numbered f n [] = refl
map-numbered f n (e ∷ es) = ap (λ ys. f e ∷ ys) (map-numbered f (n + 1) es)

pub to-within : (g : Graph) (i : ℕ) (e : declared.Edge) → IsSound g → i < length g.edges → e ≡ get_or (numbered g.edges) i e → e.to < g.files
to-within g i e sound low is =
    let at = get_or_from_slice_get g.edges i (seen_edge e) (seen_edge e) (numbered_from-at 0 g.edges i e low is) in
    let inner : IsInner g.files g.headers (get_or g.edges i (seen_edge e)) = sound.inner i (seen_edge e) low in
    (subst (IsInner g.files g.headers) at inner).to_within

-- the files of edges are those of the list
pub froms-within : (g : Graph) → IsSound g → All (λ (e : declared.Edge). e.from < g.files) (numbered g.edges)
froms-within g sound = λ k d low.
    let there : k < length g.edges = omega (arith, length-numbered g, low) in
    from-within g k (get_or (numbered g.edges) k d) sound there (get_or_default (numbered g.edges) k d (get_or (numbered g.edges) k d) low)

pub tos-within : (g : Graph) → IsSound g → All (λ (e : declared.Edge). e.to < g.files) (numbered g.edges)
tos-within g sound = λ k d low.
    let there : k < length g.edges = omega (arith, length-numbered g, low) in
    to-within g k (get_or (numbered g.edges) k d) sound there (get_or_default (numbered g.edges) k d (get_or (numbered g.edges) k d) low)
