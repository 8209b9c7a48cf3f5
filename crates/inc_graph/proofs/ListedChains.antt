-- The chains that the edges into headers end, by the paths to the files that they leave.
use Rattle.std.proofs.Common.{◌≡◌, ℕ, suc, ◌+◌, ◌<◌, ◌≤◌, Bool, true, false, List, [], ◌∷◌, ◌++◌, Option, Some, None, length, get_or, drop, inl, inr, refl, sym, ap, ◌∙◌, subst, add-one, zero-add, arith}
use Rattle.std.specs.Prelude.{slice_get, filter_map, option_map, IfSome}
use Rattle.std.specs.List.{cons_option}
use Rattle.std.proofs.lemmas.Bool.{cases_lt, cond-true, cond-false}
use Rattle.std.proofs.lemmas.List.{drop_all}
use Rattle.std.proofs.lemmas.Option.{none-some, slice_get_within}
use Rattle.inc_graph.specs.declared.graphs.Edge as declared
use Rattle.inc_graph.specs.IncludeGraph.{Edge, Graph, IsSound}
use Rattle.inc_graph.specs.Chains.{IsShortestOrNone, AreChainsByLast, no_more, ends_one, ends_none}
use Rattle.inc_graph.specs.Members.{is_member}
use Rattle.inc_graph.specs.Views.{seen_edge, numbered, numbered_from}
use Rattle.inc_graph.specs.BreadthFirst.{IsFinished, IsNextEnding, chain_ending, chains_ending}
use Rattle.inc_graph.specs.Search.{Queue, first_place, first_of, place_of, path_to}
use Rattle.inc_graph.proofs.Lists.{drop_read}
use Rattle.inc_graph.proofs.NumberedEdges.{with_number, numbered_from-at, length-numbered_from}
use Rattle.inc_graph.proofs.FirstWalks.{found_first, found_none, found_shortest, found_no_chain}
use Rattle.inc_graph.proofs.LastEdges.{ends_elsewhere, ends_unreached, ends_reached}
use Rattle.inc_graph.proofs.QueueLemmas.{place_within, first_there}
use Rattle.inc_graph.proofs.SearchLemmas.{at_of}
use Rattle.inc_graph.proofs.Walks.{inner_edge}

-- the first place is one of the queue
pub first_below : {S : Type 0} (q : Queue S) (p : ℕ → Bool) (o : Option ℕ) → first_place p q.visits ≡ o → IfSome o (λ k. k < length q.visits)
first_below q p None is = tt
first_below q p (Some k) is = let v = first_there p q.visits k is in slice_get_within q.visits k v.0 v.1

pub placed_below : {S : Type 0} (q : Queue S) (f : ℕ) (o : Option ℕ) → place_of q f ≡ o → IfSome o (λ k. k < length q.visits)
placed_below q f None is = tt
placed_below q f (Some k) is = place_within q.visits f k is

---- what an edge ends

pub ending_elsewhere : (g : Graph) (q : Queue ℕ) (last : declared.Edge) → is_member last.to g.headers ≡ false → chain_ending g q last ≡ None
ending_elsewhere g q last no_header = cond-false (is_member last.to g.headers) _ _ no_header

pub ending_there : (g : Graph) (q : Queue ℕ) (last : declared.Edge) (o : Option ℕ) → is_member last.to g.headers ≡ true → place_of q last.from ≡ o
    → chain_ending g q last ≡ option_map (λ k. path_to q.visits k ++ last.id ∷ []) o
ending_there g q last o header is =
    cond-true (is_member last.to g.headers) _ _ header ∙ ap (option_map (λ k. path_to q.visits k ++ last.id ∷ [])) is

-- the chains from an edge on
pub ending_next : (g : Graph) (q : Queue ℕ) (edges : List declared.Edge) (at : ℕ) (last : declared.Edge) → edges ≡ numbered g.edges → at < length edges → last ≡ get_or edges at last
    → chains_ending g q at ≡ cons_option (chain_ending g q last) (chains_ending g q (at + 1))
ending_next g q edges at last are low is =
    ap (λ (es : List declared.Edge). filter_map (chain_ending g q) (drop at es)) (sym are)
    ∙ ap (filter_map (chain_ending g q)) (drop_read edges at last low is)
    ∙ ap (λ (es : List declared.Edge). cons_option (chain_ending g q last) (filter_map (chain_ending g q) (drop (at + 1) es))) are

pub ending_over : (g : Graph) (q : Queue ℕ) (edges : List declared.Edge) (at : ℕ) → edges ≡ numbered g.edges → length edges ≤ at → chains_ending g q at ≡ []
ending_over g q edges at are over =
    ap (λ (es : List declared.Edge). filter_map (chain_ending g q) (drop at es)) (sym are) ∙ ap (filter_map (chain_ending g q)) (drop_all at edges over)

-- an edge that is read leaves a file of the graph
pub from_within : (g : Graph) (edges : List declared.Edge) (at : ℕ) (last : declared.Edge) → IsSound g → edges ≡ numbered g.edges → at < length edges → last ≡ get_or edges at last → last.from < g.files
from_within g edges at last sound are low is =
    let long : length edges ≡ length g.edges = ap (λ (es : List declared.Edge). length es) are ∙ length-numbered_from 0 g.edges in
    let there = numbered_from-at 0 g.edges at last (omega arith) (is ∙ ap (λ (es : List declared.Edge). get_or es at last) are) in
    (inner_edge g at (seen_edge last) sound there).from_within

module _ (g : Graph) (q : Queue ℕ) (s : IsFinished g q) where
  pub shortest_at : (o : Option ℕ) → first_place (λ x. is_member x g.headers) q.visits ≡ o → IsShortestOrNone g (option_map (path_to q.visits) o)
  shortest_at None is = found_no_chain g q s is
  shortest_at (Some k) is = found_shortest g q s k is

  -- edge by edge
  by_place : (n : ℕ) (x : Edge) (o : Option ℕ) (rest : List (List ℕ)) → slice_get g.edges n ≡ Some x → is_member x.to g.headers ≡ true → place_of q x.from ≡ o → AreChainsByLast g (suc n) rest
      → AreChainsByLast g n (cons_option (chain_ending g q (with_number n x)) rest)
  by_place n x None rest at header is are =
      rw (ending_there g q (with_number n x) None header is)
      (ends_none (slice_get_within g.edges n x at) (ends_unreached g n x at (λ a w among. found_none g q s x.from is a w among)) are)
  by_place n x (Some k) rest at header is are =
      rw (ending_there g q (with_number n x) (Some k) header is)
      (ends_one (ends_reached g n x (path_to q.visits k) s.sound at header (found_first g q s x.from k is)) are)

  by_edge : (n : ℕ) (x : Edge) (b : Bool) (rest : List (List ℕ)) → slice_get g.edges n ≡ Some x → is_member x.to g.headers ≡ b → AreChainsByLast g (suc n) rest
      → AreChainsByLast g n (cons_option (chain_ending g q (with_number n x)) rest)
  by_edge n x false rest at no_header are =
      rw (ending_elsewhere g q (with_number n x) no_header) (ends_none (slice_get_within g.edges n x at) (ends_elsewhere g n x at no_header) are)
  by_edge n x true rest at header are = by_place n x (place_of q x.from) rest at header refl are

  listed : (n : ℕ) (edges : List Edge) → ((j : ℕ) → slice_get edges j ≡ slice_get g.edges (n + j)) → AreChainsByLast g n (filter_map (chain_ending g q) (numbered_from n edges))
  listed n [] each =
      elim (cases_lt n (length g.edges)) [
        | inl low ↦
            let x = at_of g.edges n low in
            let is : n + 0 ≡ n = omega arith in
            absurd (none-some x.0 (each 0 ∙ ap (slice_get g.edges) is ∙ x.1))
        | inr over ↦ no_more over
      ]
  listed n (x ∷ xs) each =
      let is : n ≡ n + 0 = omega arith in
      let rest = listed (n + 1) xs (λ j. let e : n + suc j ≡ n + 1 + j = omega arith in each (suc j) ∙ ap (slice_get g.edges) e) in
      by_edge n x (is_member x.to g.headers) (filter_map (chain_ending g q) (numbered_from (n + 1) xs)) (ap (slice_get g.edges) is ∙ sym (each 0)) refl (rw (← add-one n) rest)

  pub all_listed : AreChainsByLast g 0 (chains_ending g q 0)
  all_listed = listed 0 g.edges (λ j. ap (slice_get g.edges) (sym (zero-add j)))

---- as the code finds them

-- the first header that is reached, of the list of the graph's headers
pub first_end : (g : Graph) (q : Queue ℕ) (headers : List ℕ) (first o : Option ℕ) → headers ≡ g.headers → first ≡ first_of q headers → first ≡ o
    → first_place (λ x. is_member x g.headers) q.visits ≡ o
first_end g q headers first o are found is = ap (λ (hs : List ℕ). first_place (λ x. is_member x hs) q.visits) (sym are) ∙ sym found ∙ is

-- an edge that ends a chain, where those before it end none
pub next_is : (g : Graph) (q : Queue ℕ) (next at k : ℕ) (edges : List declared.Edge) (last : declared.Edge) (o : Option ℕ) → edges ≡ numbered g.edges → at < length edges → last ≡ get_or edges at last
    → next ≤ at → chains_ending g q next ≡ chains_ending g q at → chain_ending g q last ≡ option_map (λ j. path_to q.visits j ++ last.id ∷ []) o → IfSome o (λ j. j < length q.visits) → o ≡ Some k
    → IsNextEnding g q next (record { edge = last.id; from = k; next = at + 1 })
next_is g q next at k edges last o are low is later before ends within some =
    let long : length edges ≡ length g.edges = ap (λ (es : List declared.Edge). length es) are ∙ length-numbered_from 0 g.edges in
    record {
      later = omega arith;
      within = omega arith;
      reached = subst (λ (p : Option ℕ). IfSome p (λ j. j < length q.visits)) some within;
      left = before ∙ ending_next g q edges at last are low is
          ∙ ap (λ c. cons_option c (chains_ending g q (at + 1))) (ends ∙ ap (option_map (λ j. path_to q.visits j ++ last.id ∷ [])) some);
    }
