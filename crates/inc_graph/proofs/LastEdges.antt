-- Chains by their last edges: what a path to the file of an edge says of the chains that end with the edge.
use Rattle.std.proofs.Common.{◌≡◌, ℕ, true, false, List, [], ◌∷◌, ◌++◌, Some, length, refl, sym, ap, ◌∙◌}
use Rattle.std.specs.Prelude.{slice_get, not}
use Rattle.std.proofs.lemmas.Option.{same_Some}
use Rattle.std.proofs.lemmas.Bool.{not_from_false, false_from_ne_true, false≢true, eq-eqb}
use Rattle.inc_graph.specs.IncludeGraph.{Edge, Graph, IsSound}
use Rattle.inc_graph.specs.Chains.{target, leaves, is_walk, files_on, is_chain, ends_with, IsShortestEnding}
use Rattle.inc_graph.specs.Members.{is_member, is_distinct}
use Rattle.inc_graph.proofs.FirstWalks.{IsFirstWalk}
use Rattle.inc_graph.proofs.PathOrder.{at_most_push, at_most_length, at_most_first}
use Rattle.inc_graph.proofs.Walks.{walk_push, walk_before, before_last, ends_push, files_push, distinct_push, leaving_edge, inner_edge, header_apart, chain_parts, chain_of}

target_at : (g : Graph) (i : ℕ) (x : Edge) → slice_get g.edges i ≡ Some x → target g i ≡ x.to
target_at g i x at = rw at refl

-- a chain before its last edge
record IsBeforeLast (g : Graph) (chain : List ℕ) (last : ℕ) : Type 0 where
  -- the edges before
  walk : List ℕ
  -- with the last one they are the chain
  is : chain ≡ walk ++ last ∷ []
  -- the last edge
  edge : Edge
  -- it is at this place
  at : slice_get g.edges last ≡ Some edge
  -- the edges before lead from a source
  source : ℕ
  among : is_member source g.sources ≡ true
  -- to the file that it leaves
  leads : is_walk g source walk edge.from ≡ true
  -- and it leads to a header
  to : is_member edge.to g.headers ≡ true

before_end : (g : Graph) (chain : List ℕ) (last : ℕ) → is_chain g chain ≡ true → ends_with last chain ≡ true → IsBeforeLast g chain last
before_end g chain last is ends =
    let front = before_last last chain ends in
    let c = chain_parts g chain is in
    let split = walk_before g c.source front.0 last c.header (sym (ap (λ (l : List ℕ). is_walk g c.source l c.header) front.1) ∙ c.walk) in
    let x = leaving_edge g split.0 last (slice_get g.edges last) refl split.2 in
    let to = target_at g last x.0 x.1 in
    record {
      walk = front.0;
      is = front.1;
      edge = x.0;
      at = x.1;
      source = c.source;
      among = c.begins;
      leads = ap (λ (a : ℕ). is_walk g c.source front.0 a) x.2 ∙ split.1;
      to = ap (λ (f : ℕ). is_member f g.headers) (sym to ∙ split.3) ∙ c.ends;
    }

abbrev pub EndsNone : Graph → ℕ → Type 0
EndsNone g last = (chain : List ℕ) → is_chain g chain ≡ true → not (ends_with last chain) ≡ true

ends_none_from : (g : Graph) (last : ℕ) → ((chain : List ℕ) → IsBeforeLast g chain last → ⊥) → EndsNone g last
ends_none_from g last never chain is =
    not_from_false (ends_with last chain) (false_from_ne_true (ends_with last chain) (λ ends. never chain (before_end g chain last is ends)))

-- an edge that leads to no header
pub ends_elsewhere : (g : Graph) (last : ℕ) (x : Edge) → slice_get g.edges last ≡ Some x → is_member x.to g.headers ≡ false → EndsNone g last
ends_elsewhere g last x at elsewhere = ends_none_from g last (λ chain b.
    let same : b.edge ≡ x = same_Some b.edge x (sym b.at ∙ at) in
    false≢true (sym elsewhere ∙ ap (λ (y : Edge). is_member y.to g.headers) (sym same) ∙ b.to))

-- an edge from a file that no walk reaches
pub ends_unreached : (g : Graph) (last : ℕ) (x : Edge) → slice_get g.edges last ≡ Some x → ((a : ℕ) (w : List ℕ) → is_member a g.sources ≡ true → is_walk g a w x.from ≡ false) → EndsNone g last
ends_unreached g last x at none = ends_none_from g last (λ chain b.
    let same : b.edge ≡ x = same_Some b.edge x (sym b.at ∙ at) in
    false≢true (sym (none b.source b.walk b.among) ∙ ap (λ (y : Edge). is_walk g b.source b.walk y.from) (sym same) ∙ b.leads))

-- the path to the file of an edge to a header, and the edge
pub ends_reached : (g : Graph) (last : ℕ) (x : Edge) (p : List ℕ) → IsSound g → slice_get g.edges last ≡ Some x → is_member x.to g.headers ≡ true → IsFirstWalk g x.from p
    → IsShortestEnding g last (p ++ last ∷ [])
ends_reached g last x p sound at to first =
    let a = first.source in
    let leaving : leaves g x.from last ≡ true = rw at (eq-eqb x.from x.from refl) in
    let leads : target g last ≡ x.to = target_at g last x at in
    let walk : is_walk g a (p ++ last ∷ []) x.to ≡ true =
    ap (λ (f : ℕ). is_walk g a (p ++ last ∷ []) f) (sym leads) ∙ walk_push g a p x.from last first.walk leaving in
    let new : is_member x.to (files_on g a p) ≡ false = header_apart g x.to a p x.from sound to first.walk (inner_edge g last x sound at).before in
    let distinct : is_distinct (files_on g a (p ++ last ∷ [])) ≡ true =
    ap is_distinct (files_push g a p last ∙ ap (λ (f : ℕ). files_on g a p ++ f ∷ []) leads) ∙ distinct_push (files_on g a p) x.to first.distinct new in
    let first_walk : (other : List ℕ) (b : IsBeforeLast g other last) → is_walk g b.source b.walk x.from ≡ true = λ other b.
    let same : x ≡ b.edge = same_Some x b.edge (sym at ∙ b.at) in
    ap (λ (y : Edge). is_walk g b.source b.walk y.from) same ∙ b.leads in
    record {
      real = chain_of g (p ++ last ∷ []) (record { source = a; begins = first.among; header = x.to; ends = to; walk = walk; distinct = distinct });
      passes = ends_push last p;
      shortest = λ other is ends.
          let b = before_end g other last is ends in
          rw b.is (at_most_length (at_most_push last (first.first b.source b.walk b.among (first_walk other b))));
      first = λ other is ends long.
          let b = before_end g other last is ends in
          rw b.is (at_most_first (at_most_push last (first.first b.source b.walk b.among (first_walk other b))) (sym (ap (λ (l : List ℕ). length l) b.is) ∙ long));
    }
