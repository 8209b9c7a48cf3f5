-- The directives of a cut, which are in order of their files.
use Rattle.std.proofs.Common.{◌≡◌, ℕ, suc, ◌+◌, ◌<◌, ◌≤◌, ◌==◌, ◌&&◌, true, List, [], ◌∷◌, ◌++◌, Option, Some, None, length, take, get_or, IfSome, inl, inr, refl, sym, ap, ◌∙◌, subst, nat_lt, option_map, arith}
use Rattle.std.specs.Prelude.{slice_get}
use Rattle.std.specs.List.{All, AllPairs, cons_option}
use Rattle.std.specs.List.Sorted.{IsStrictlyIncreasing}
use Rattle.std.proofs.lemmas.Bool.{or_cases, and_parts, ltb-true, eqb-true}
use Rattle.std.proofs.lemmas.List.{take_more}
use Rattle.std.proofs.lemmas.List.Elements.{All-nil, All-tail, filter_map-append}
use Rattle.std.proofs.lemmas.List.Kept.{AllPairs-from_increasing}
use Rattle.std.proofs.lemmas.Option.{slice_get_within, slice_get-get_or, get_or_from_slice_get}
use Rattle.inc_lookup.specs.declared.projects.DirectiveId.{DirectiveId}
use Rattle.inc_graph.specs.declared.graphs.Edge as declared
use Rattle.inc_graph.specs.Cuts.{directives_of}
use Rattle.inc_graph.specs.IncludeGraph.{Edge, Graph, IsSound, is_edge_before}
use Rattle.inc_graph.specs.Views.{numbered, seen_edge}
use Rattle.inc_graph.proofs.EdgeOrder.{ordered_at}
use Rattle.inc_graph.proofs.EntryLemmas.{All-cons_option}
use Rattle.inc_graph.proofs.NamedEdges.{no_edge}
use Rattle.inc_graph.proofs.NumberedEdges.{numbered_from-at}
use Rattle.inc_answers.specs.Changes.{AreRising}

abbrev directive_of : Edge → DirectiveId
directive_of e = record { file = e.from; line = e.line }

module _ (g : Graph) where
  one_directive : (i : ℕ) (e : Edge) → slice_get g.edges i ≡ Some e → directives_of g (i ∷ []) ≡ directive_of e ∷ []
  one_directive i e is = ap (λ o. cons_option (option_map directive_of o) []) is

  -- one edge more
  pub directives_more : (is : List ℕ) (k i : ℕ) (e : declared.Edge) → k < length is → i ≡ get_or is k i → i < length g.edges → slice_get (numbered g.edges) i ≡ Some e
      → directives_of g (take (k + 1) is) ≡ directives_of g (take k is) ++ record { file = e.from; line = e.line } ∷ []
  directives_more is k i e low same within found =
      let edge = numbered_from-at 0 g.edges i e within (sym (get_or_from_slice_get (numbered g.edges) i e e found)) in
      ap (directives_of g) (take_more is k i low)
      ∙ filter_map-append (λ j. option_map directive_of (slice_get g.edges j)) (take k is) (get_or is k i ∷ [])
      ∙ ap (λ j. directives_of g (take k is) ++ directives_of g (j ∷ [])) (sym same)
      ∙ ap (λ ds. directives_of g (take k is) ++ ds) (one_directive i (seen_edge e) edge)

  -- what holds of each edge holds of each directive
  pub directives_all : (P : Edge → Type 0) (Q : DirectiveId → Type 0) → ((e : Edge) → P e → Q (directive_of e)) → All P g.edges → (set : List ℕ) → All Q (directives_of g set)
  directives_all P Q each all [] = All-nil Q
  directives_all P Q each all (i ∷ is) =
      All-cons_option Q (option_map directive_of (slice_get g.edges i)) (directives_of g is) (there (slice_get g.edges i) refl) (directives_all P Q each all is)
    where
      there : (o : Option Edge) → slice_get g.edges i ≡ o → IfSome (option_map directive_of o) Q
      there None is = tt
      there (Some e) is = each e (subst P (get_or_from_slice_get g.edges i e e is) (all i e (slice_get_within g.edges i e is)))

  from_of : ℕ → ℕ
  from_of i = (get_or g.edges i no_edge).from

  not_before : (a b : Edge) → is_edge_before a b ≡ true → a.from ≤ b.from
  not_before a b before =
      elim (or_cases (nat_lt a.from b.from) ((a.from == b.from) && nat_lt a.line b.line) before) [
        | inl less ↦ (let lt = ltb-true a.from b.from less in omega arith)
        | inr both ↦ (let same = eqb-true a.from b.from (and_parts (a.from == b.from) (nat_lt a.line b.line) both).0 in omega arith)
      ]

  rises : IsSound g → (set : List ℕ) (file : ℕ) → All (λ i. i < length g.edges) set → AllPairs (λ i j. i < j) set → All (λ i. file ≤ from_of i) set → AreRising file (directives_of g set)
  unfolding from_of
  rises sound [] file within rising above = tt
  rises sound (i ∷ is) file within rising above =
      let low : i < length g.edges = within 0 0 (omega arith) in
      let e : Edge = get_or g.edges i no_edge in
      let later : All (λ j. e.from ≤ from_of j) is = λ k d h.
      not_before e (get_or g.edges (get_or is k d) no_edge)
      (ordered_at g.edges i (get_or is k d) no_edge sound.ordered (rising 0 (suc k) d (omega arith) (omega arith)) (within (suc k) d (omega arith))) in
      let rest = rises sound is e.from (All-tail (λ j. j < length g.edges) i is within) (λ a b d lt h. rising (suc a) (suc b) d (omega arith) (omega arith)) later in
      let all : AreRising file (directive_of e ∷ directives_of g is) = (above 0 0 (omega arith), rest) in
      subst (λ (o : Option Edge). AreRising file (cons_option (option_map directive_of o) (directives_of g is))) (sym (slice_get-get_or g.edges i no_edge low)) all

  pub cut_rises : IsSound g → (set : List ℕ) → All (λ i. i < length g.edges) set → IsStrictlyIncreasing set → AreRising 0 (directives_of g set)
  unfolding from_of
  cut_rises sound set within rising = rises sound set 0 within (AllPairs-from_increasing set rising) (λ k d h. omega arith)
