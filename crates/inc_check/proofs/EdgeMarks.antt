-- Where no two files have one path, the mark of an edge names that edge alone.
use Rattle.std.proofs.Common.{◌≡◌, ℕ, ◌<◌, true, List, [], ◌∷◌, Option, Some, None, All, is_some, length, get_or, inl, inr, refl, sym, ap, ◌∙◌, arith}
use Rattle.std.specs.Prelude.{option_map}
use Rattle.std.specs.List.{cons_option}
use Rattle.std.proofs.lemmas.Bool.{cases_eq, cases_lt, false≢true}
use Rattle.std.proofs.lemmas.Option.{slice_get-get_or}
use Rattle.std.proofs.lemmas.List.Elements.{All-head, All-tail}
use Rattle.std.proofs.lemmas.List.Folds.{list_any_at}
use Rattle.inc_lookup.specs.Projects.{Layout}
use Rattle.inc_lookup.proofs.ListingLemmas.{is_some-position}
use Rattle.inc_graph.specs.IncludeGraph.{Edge, Graph, IsInner, IsSound}
use Rattle.inc_graph.specs.Marks.{Mark}
use Rattle.inc_graph.proofs.EdgeOrder.{ordered_at, ordered_differ}
use Rattle.inc_graph.specs.MarkedEdges.{names_edge, edge_number}
use Rattle.inc_check.specs.Certificates.{edge_mark, marks_of, edge_numbers, IsEachPathOnce}
use Rattle.inc_graph.proofs.NamedEdges.{no_edge, same_self}
use Rattle.inc_check.proofs.VerdictLemmas.{named, numbers_cons}

abbrev pub edge_at : Graph → ℕ → Edge
edge_at g i = get_or g.edges i no_edge

pub marks_cons : (layout : Layout) (g : Graph) (i : ℕ) (is : List ℕ) → i < length g.edges → marks_of layout g (i ∷ is) ≡ edge_mark layout (edge_at g i) ∷ marks_of layout g is
marks_cons layout g i is low =
    ap (λ (o : Option Edge). cons_option (option_map (edge_mark layout) o) (marks_of layout g is)) (slice_get-get_or g.edges i no_edge low)

module _ (layout : Layout) (g : Graph) (once : IsEachPathOnce layout) (sound : IsSound g) (files : g.files ≡ length layout.paths) where
  -- edges at one line of one file are one
  same_place : (i j : ℕ) → i < length g.edges → j < length g.edges → (edge_at g i).from ≡ (edge_at g j).from → (edge_at g i).line ≡ (edge_at g j).line → i ≡ j
  same_place i j low_i low_j from line =
      elim (cases_eq i j) [
        | inl same ↦ same
        | inr other ↦
            elim (cases_lt i j) [
              | inl less ↦ absurd (ordered_differ (edge_at g i) (edge_at g j) (ordered_at g.edges i j no_edge sound.ordered less low_j) from line)
              | inr most ↦
                  let more : j < i = omega arith in
                  absurd (ordered_differ (edge_at g j) (edge_at g i) (ordered_at g.edges j i no_edge sound.ordered more low_i) (sym from) (sym line))
            ]
      ]

  pub same_edge : (i j : ℕ) → i < length g.edges → j < length g.edges → edge_mark layout (edge_at g i) ≡ edge_mark layout (edge_at g j) → i ≡ j
  same_edge i j low_i low_j same =
      let inner_i : IsInner g.files g.headers (edge_at g i) = sound.inner i no_edge low_i in
      let inner_j : IsInner g.files g.headers (edge_at g j) = sound.inner j no_edge low_j in
      let in_i : (edge_at g i).from < length layout.paths = omega (arith, inner_i.from_within) in
      let in_j : (edge_at g j).from < length layout.paths = omega (arith, inner_j.from_within) in
      same_place i j low_i low_j (once (edge_at g i).from (edge_at g j).from in_i in_j (ap (λ (m : Mark). m.path) same)) (ap (λ (m : Mark). m.line) same)

  -- the mark of an edge names it
  pub number_of_mark : (i : ℕ) → i < length g.edges → edge_number layout g (edge_mark layout (edge_at g i)) ≡ Some i
  number_of_mark i low = by_number (edge_number layout g m) refl
    where
      m : Mark
      m = edge_mark layout (edge_at g i)

      there : is_some (edge_number layout g m) ≡ true
      there = is_some-position (names_edge layout m) g.edges ∙ list_any_at (names_edge layout m) g.edges i no_edge low (same_self m (edge_mark layout (edge_at g i)) refl)

      by_number : (o : Option ℕ) → edge_number layout g m ≡ o → edge_number layout g m ≡ Some i
      by_number None e = absurd (false≢true (sym (ap is_some e) ∙ there))
      by_number (Some k) e =
          let at = named layout g m k e in
          let same : i ≡ k = same_edge i k low at.0 at.1 in
          e ∙ ap (λ (n : ℕ). Some n) (sym same)

  pub numbers_of_marks : (is : List ℕ) → All (λ i. i < length g.edges) is → edge_numbers layout g (marks_of layout g is) ≡ is
  numbers_of_marks [] within = refl
  numbers_of_marks (i ∷ is) within =
      let low : i < length g.edges = All-head (λ j. j < length g.edges) i is within in
      let rest = numbers_of_marks is (All-tail (λ j. j < length g.edges) i is within) in
      ap (edge_numbers layout g) (marks_cons layout g i is low)
      ∙ numbers_cons layout g (edge_mark layout (edge_at g i)) (marks_of layout g is) (Some i) (number_of_mark i low)
      ∙ ap (λ (js : List ℕ). i ∷ js) rest
