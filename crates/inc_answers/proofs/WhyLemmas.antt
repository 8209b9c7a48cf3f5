-- Printed lists of directives, one more at a time, and that the edges of chains are those of the graph.
use Rattle.std.proofs.Common.{◌≡◌, ℕ, suc, ◌+◌, ◌<◌, List, [], ◌∷◌, ◌++◌, Some, length, take, map, get_or, refl, sym, ap, subst, ◌∙◌, arith}
use Rattle.std.specs.Prelude.{flat_map, option_map, slice_get}
use Rattle.std.specs.List.{All}
use Rattle.std.proofs.lemmas.Grind.{flat_map-append}
use Rattle.std.proofs.lemmas.List.{take_more, append-nil, append_assoc, map-append}
use Rattle.std.proofs.lemmas.List.Elements.{All-cons, filter_map-append}
use Rattle.std.proofs.lemmas.Option.{slice_get-get_or, get_or_from_slice_get}
use Rattle.inc_lookup.specs.Projects.{Layout, path_at}
use Rattle.inc_graph.proofs.NumberedEdges.{numbered_from-at}
use Rattle.inc_graph.proofs.Walks.{chain-within}
use Rattle.inc_graph.specs.declared.graphs.Edge as declared
use Rattle.inc_graph.specs.Chains.{AreChainsByLast, no_more, ends_one, ends_none}
use Rattle.inc_graph.specs.IncludeGraph.{Edge, Graph, IsInner, IsSound}
use Rattle.inc_graph.specs.Marks.{Mark}
use Rattle.inc_graph.specs.Views.{seen_edge, numbered}
use Rattle.inc_check.specs.Certificates.{edge_mark, marks_of}
use Rattle.inc_check.specs.Texts.{line_text, mark_line, marks_text}
use Rattle.inc_answers.specs.Numbers.{directive_text}

-- what is printed for one element more
pub flat_map-more : {X A : Type 0} (f : X → List A) (xs : List X) (i : ℕ) (x : X) → i < length xs → x ≡ get_or xs i x → flat_map f (take (i + 1) xs) ≡ flat_map f (take i xs) ++ f x
flat_map-more f xs i x low is =
    ap (flat_map f) (take_more xs i x low)
    ∙ flat_map-append f (take i xs) (get_or xs i x ∷ [])
    ∙ ap (λ ys. flat_map f (take i xs) ++ ys) (append-nil (f (get_or xs i x)) ∙ ap f (sym is))

-- what is printed of those that are left, the first of which is x
pub flat_map-next : {X A : Type 0} (f : X → List A) (sent all : List A) (left : List X) (x : X) (xs : List X) → left ≡ x ∷ xs → sent ++ flat_map f left ≡ all → (sent ++ f x) ++ flat_map f xs ≡ all
flat_map-next f sent all left x xs is so_far = append_assoc sent (f x) (flat_map f xs) ∙ ap (λ ys. sent ++ flat_map f ys) (sym is) ∙ so_far

pub flat_map-map : {X Y A : Type 0} (f : Y → List A) (h : X → Y) (xs : List X) → flat_map f (map h xs) ≡ flat_map (λ x. f (h x)) xs
flat_map-map f h [] = refl
flat_map-map f h (x ∷ xs) = ap (λ ys. f (h x) ++ ys) (flat_map-map f h xs)

pub marks_text-append : (ms ns : List Mark) → marks_text (ms ++ ns) ≡ marks_text ms ++ marks_text ns
marks_text-append ms ns = ap (flat_map line_text) (map-append mark_line ms ns) ∙ flat_map-append line_text (map mark_line ms) (map mark_line ns)

module _ (layout : Layout) (g : Graph) where
  marks_of-one : (i : ℕ) (e : Edge) → slice_get g.edges i ≡ Some e → marks_text (marks_of layout g (i ∷ [])) ≡ directive_text e.line (path_at layout e.from)
  marks_of-one i e is = rw is (append-nil _)

  -- the line of one edge more
  pub marks_of-more : (is : List ℕ) (k i : ℕ) (e : declared.Edge) → k < length is → i ≡ get_or is k i → i < length g.edges → e ≡ get_or (numbered g.edges) i e → marks_text (marks_of layout g (take (k + 1) is)) ≡ marks_text (marks_of layout g (take k is)) ++ directive_text e.line (path_at layout e.from)
  marks_of-more is k i e low same within is_edge =
      let edge = numbered_from-at 0 g.edges i e within is_edge in
      ap (λ js. marks_text (marks_of layout g js)) (take_more is k i low)
      ∙ ap marks_text (filter_map-append (λ j. option_map (edge_mark layout) (slice_get g.edges j)) (take k is) (get_or is k i ∷ []))
      ∙ marks_text-append (marks_of layout g (take k is)) (marks_of layout g (get_or is k i ∷ []))
      ∙ ap (λ ys. marks_text (marks_of layout g (take k is)) ++ ys) (ap (λ j. marks_text (marks_of layout g (j ∷ []))) (sym same) ∙ marks_of-one i (seen_edge e) edge)

  -- each edge of the graph has a directive
  pub length-marks_of : (is : List ℕ) → All (λ i. i < length g.edges) is → length (marks_of layout g is) ≡ length is
  length-marks_of [] all = refl
  length-marks_of (i ∷ is) all =
      let low : i < length g.edges = all 0 i (omega arith) in
      let edge = slice_get-get_or g.edges i (record { from = 0; to = 0; line = 0 }) low in
      rw edge (ap suc (length-marks_of is (λ k d low. all (suc k) d (omega arith))))

pub chains-within : (g : Graph) (i : ℕ) (chains : List (List ℕ)) → AreChainsByLast g i chains → All (λ is. All (λ j. j < length g.edges) is) chains
chains-within g i [] (no_more past) = λ k d low. absurd (omega (arith, low))
chains-within g i (chain ∷ rest) (ends_one first more) =
    All-cons (λ is. All (λ j. j < length g.edges) is) chain rest (chain-within g chain first.real) (chains-within g (suc i) rest more)
chains-within g i chains (ends_none within none more) = chains-within g (suc i) chains more

-- a file of an edge is one of the list
pub from-within : (g : Graph) (i : ℕ) (e : declared.Edge) → IsSound g → i < length g.edges → e ≡ get_or (numbered g.edges) i e → e.from < g.files
from-within g i e sound low is =
    let at = get_or_from_slice_get g.edges i (seen_edge e) (seen_edge e) (numbered_from-at 0 g.edges i e low is) in
    let inner : IsInner g.files g.headers (get_or g.edges i (seen_edge e)) = sound.inner i (seen_edge e) low in
    (subst (IsInner g.files g.headers) at inner).from_within
