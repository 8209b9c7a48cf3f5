-- The directives that the marks of a cut name are those of the edges that they name.
use Rattle.std.proofs.Common.{◌≡◌, ℕ, ◌<◌, true, List, [], ◌∷◌, Option, Some, None, is_some, length, get_or, refl, sym, ap, ◌∙◌, arith}
use Rattle.std.specs.Prelude.{false, not, bytes_eq, option_map, slice_get}
use Rattle.std.specs.List.{cons_option, list_all}
use Rattle.std.specs.Option.{option_map_or}
use Rattle.std.proofs.lemmas.Bool.{and_parts, false≢true}
use Rattle.std.proofs.lemmas.List.Folds.{list_any_at}
use Rattle.std.proofs.lemmas.List.Quantifiers.{position-Some}
use Rattle.std.proofs.lemmas.Option.{slice_get-get_or, unwrap_or-slice_get}
use Rattle.std.proofs.lemmas.Slice.Eq.{bytes_eq-Decides}
use Rattle.inc_lookup.specs.declared.projects.DirectiveId.{DirectiveId}
use Rattle.inc_lookup.specs.Projects.{Layout, path_at, place_of}
use Rattle.inc_lookup.proofs.ListingLemmas.{is_some-position}
use Rattle.inc_graph.specs.Cuts.{Fixed, directives_of}
use Rattle.inc_graph.specs.IncludeGraph.{Edge, Graph, IsInner, IsSound}
use Rattle.inc_graph.specs.MarkedEdges.{edge_number}
use Rattle.inc_graph.specs.Marks.{Mark}
use Rattle.inc_graph.proofs.NamedEdges.{no_edge}
use Rattle.inc_check.specs.Certificates.{edge_numbers, is_marked_editable, IsEachPathOnce}
use Rattle.inc_check.proofs.VerdictLemmas.{named, numbers_cons}
use Rattle.inc_answers.specs.Terms.{named_directive, named_directives}

-- the directive of an edge
abbrev edge_directive : Edge → DirectiveId
edge_directive e = record { file = e.from; line = e.line }

-- the path of a file is found at its place
place_once : (layout : Layout) → IsEachPathOnce layout → (k : ℕ) → k < length layout.paths → place_of (path_at layout k) layout.paths ≡ Some k
place_once layout once k low = by_place (place_of p layout.paths) refl
  where
    p : List ℕ
    p = path_at layout k

    there : is_some (place_of p layout.paths) ≡ true
    there =
        is_some-position (bytes_eq p) layout.paths
        ∙ list_any_at (bytes_eq p) layout.paths k [] low ((bytes_eq-Decides p (get_or layout.paths k [])).1 (unwrap_or-slice_get layout.paths k []))

    by_place : (o : Option ℕ) → place_of p layout.paths ≡ o → place_of p layout.paths ≡ Some k
    by_place None e = absurd (false≢true (sym (ap is_some e) ∙ there))
    by_place (Some i) e =
        let at = position-Some (bytes_eq p) layout.paths i [] e in
        let same : p ≡ path_at layout i = (bytes_eq-Decides p (get_or layout.paths i [])).0 at.1 ∙ sym (unwrap_or-slice_get layout.paths i []) in
        e ∙ ap (λ (n : ℕ). Some n) (sym (once k i low at.0 same))

module _ (layout : Layout) (g : Graph) (once : IsEachPathOnce layout) (sound : IsSound g) (files : g.files ≡ length layout.paths) where
  named_edge : (m : Mark) (i : ℕ) → edge_number layout g m ≡ Some i → named_directive layout m ≡ option_map edge_directive (slice_get g.edges i)
  named_edge m i e =
      let n = named layout g m i e in
      let x : Edge = get_or g.edges i no_edge in
      let inner : IsInner g.files g.headers x = sound.inner i no_edge n.0 in
      let low : x.from < length layout.paths = omega (arith, inner.from_within) in
      ap (named_directive layout) n.1
      ∙ ap (λ (o : Option ℕ). option_map (λ (file : ℕ). record { file = file; line = x.line }) o) (place_once layout once x.from low)
      ∙ sym (ap (option_map edge_directive) (slice_get-get_or g.edges i no_edge n.0))

  -- marks that all name an edge
  pub named_edges : (fixed : Fixed) (ms : List Mark) → list_all (is_marked_editable layout g fixed) ms ≡ true → named_directives layout ms ≡ directives_of g (edge_numbers layout g ms)
  named_edges fixed [] all = refl
  named_edges fixed (m ∷ ms) all =
      let parts = and_parts (is_marked_editable layout g fixed m) (list_all (is_marked_editable layout g fixed) ms) all in
      one (edge_number layout g m) refl parts.0 (named_edges fixed ms parts.1)
    where
      one : (o : Option ℕ) → edge_number layout g m ≡ o → option_map_or (λ i. not (fixed i)) o false ≡ true → named_directives layout ms ≡ directives_of g (edge_numbers layout g ms)
          → named_directives layout (m ∷ ms) ≡ directives_of g (edge_numbers layout g (m ∷ ms))
      one None e test rest = absurd (false≢true test)
      one (Some i) e test rest =
          ap (λ (o : Option DirectiveId). cons_option o (named_directives layout ms)) (named_edge m i e)
          ∙ ap (λ (ds : List DirectiveId). cons_option (option_map edge_directive (slice_get g.edges i)) ds) rest
          ∙ sym (ap (directives_of g) (numbers_cons layout g m ms (Some i) e))
