-- Directives whose header is not found, and those that nothing can be said of, are in files with a text.
use Rattle.std.proofs.Common.{◌≡◌, ℕ, List, [], ◌∷◌, Option, Ok, Err, Bool, inl, inr, sym, ap, subst, ◌∙◌, refl}
use Rattle.std.specs.Prelude.{filter_map, flat_map}
use Rattle.std.specs.List.{Contains}
use Rattle.std.proofs.lemmas.List.Elements.{Contains-append_cases}
use Rattle.inc_graph.specs.declared.building.Source.{Source}
use Rattle.inc_text.specs.PhaseText.{phase_text}
use Rattle.inc_lookup.specs.Projects.{Listing, bytes_at}
use Rattle.inc_graph.specs.IncludeGraph.{Graph, IsGraphAnswer, bad_file, blockers_from, directive_count, entry_blocker, entry_missing, entry_of, graph_of_files, inner_files, is_defined_in, missing_from, text_directives, Start}
use Rattle.inc_graph.specs.MissingLists.{Missing}
use Rattle.inc_graph.specs.Settings.{Setting, layouts_of}
use Rattle.inc_graph.specs.declared.graphs.Blocker.{Blocker}
use Rattle.inc_graph.proofs.ClosureWalks.{answer_is, contains_none}
use Rattle.inc_graph.proofs.EntryLemmas.{blockers_stand, missing_stand}

-- an element of the pieces is one of a piece
piece_of : {X A : Type 0} (f : X → List A) (xs : List X) (y : A) → Contains (flat_map f xs) y → (x : X) × Contains (f x) y
piece_of f [] y c = absurd (contains_none y c)
piece_of f (x ∷ xs) y c =
    elim (Contains-append_cases (f x) (flat_map f xs) y c) [
      | inl here ↦ (x, here)
      | inr later ↦ piece_of f xs y later
    ]

module _ (setting : Setting) (listing : Listing) (starts : List Start) (f : ℕ) where
  -- a text without bytes has no directives
  none_there : text_directives setting f (phase_text setting.language []) ≡ Ok []
  none_there = refl

  no_missing : bytes_at listing f ≡ [] → missing_from setting listing starts f ≡ []
  no_missing bytes =
      ap (λ r. filter_map (entry_missing f) (filter_map (entry_of setting.undefined (layouts_of setting listing) starts f) (elim r [ Ok directives ↦ directives | Err fault ↦ [] ])))
      (ap (λ (bs : List ℕ). text_directives setting f (phase_text setting.language bs)) bytes ∙ none_there)

  no_blockers : (defined : ℕ → Bool) → bytes_at listing f ≡ [] → blockers_from setting listing defined starts f ≡ []
  no_blockers defined bytes =
      ap (λ r. filter_map (entry_blocker defined f) (filter_map (entry_of setting.undefined (layouts_of setting listing) starts f) (elim r [ Ok directives ↦ directives | Err fault ↦ [] ])))
      (ap (λ (bs : List ℕ). text_directives setting f (phase_text setting.language bs)) bytes ∙ none_there)

  missing_text : (m : Missing) → Contains (missing_from setting listing starts f) m → bytes_at listing m.file ≡ [] → ⊥
  missing_text m c none =
      let own : m.file ≡ f = subst (λ (x : Missing). x.file ≡ f) c.2 (missing_stand setting listing starts f c.0 m c.1) in
      contains_none m (subst (λ (ms : List Missing). Contains ms m) (no_missing (ap (bytes_at listing) (sym own) ∙ none)) c)

  blocker_text : (defined : ℕ → Bool) (b : Blocker) → Contains (blockers_from setting listing defined starts f) b → bytes_at listing b.file ≡ [] → ⊥
  blocker_text defined b c none =
      let own : b.file ≡ f = subst (λ (x : Blocker). x.file ≡ f) c.2 (blockers_stand setting listing defined starts f c.0 b c.1) in
      contains_none b (subst (λ (bs : List Blocker). Contains bs b) (no_blockers defined (ap (bytes_at listing) (sym own) ∙ none)) c)

module _ (setting : Setting) (listing : Listing) (sources : List Source) (headers : List ℕ) (g : Graph) (h : IsGraphAnswer setting listing sources headers (Ok g)) where
  of_files : graph_of_files setting listing sources headers h.0 (inner_files listing h.0 headers) ≡ g
  of_files =
      let fs = inner_files listing h.0 headers in
      answer_is (filter_map (bad_file setting listing) fs) (directive_count setting listing h.0 fs) (graph_of_files setting listing sources headers h.0 fs) g h.2

  pub missing_in_text : (m : Missing) → Contains g.missing m → bytes_at listing m.file ≡ [] → ⊥
  missing_in_text m c none =
      let fs = inner_files listing h.0 headers in
      let piece = piece_of (λ f. missing_from setting listing (h.0 f) f) fs m (subst (λ (x : Graph). Contains x.missing m) (sym of_files) c) in
      missing_text setting listing (h.0 piece.0) piece.0 m piece.1 none

  pub blocker_in_text : (b : Blocker) → Contains g.blockers b → bytes_at listing b.file ≡ [] → ⊥
  blocker_in_text b c none =
      let fs = inner_files listing h.0 headers in
      let piece = piece_of (λ f. blockers_from setting listing (is_defined_in setting listing fs) (h.0 f) f) fs b (subst (λ (x : Graph). Contains x.blockers b) (sym of_files) c) in
      blocker_text setting listing (h.0 piece.0) piece.0 (is_defined_in setting listing fs) b piece.1 none
