-- Each file of a graph that is no header was read for it: else it could be one that the graph would be refused for.
use Rattle.std.proofs.Common.{◌≡◌, ℕ, ◌<◌, true, false, List, [], ◌∷◌, Option, Some, None, Result, Ok, Err, length, inl, inr, refl, sym, ap, ◌∙◌, subst, ◌⊎◌}
use Rattle.std.specs.Prelude.{slice_get, Contains}
use Rattle.std.specs.List.{filter_map}
use Rattle.inc_text.specs.PhaseText.{phase_text}
use Rattle.inc_text.specs.declared.languages.Language.{Language}
use Rattle.inc_text.specs.declared.languages.Language.TheVariants as language
use Rattle.inc_directive.specs.FileDirectives.{file_directives}
use Rattle.inc_directive.specs.Removal.{without}
use Rattle.inc_directive.specs.declared.files.FileFault.{FileFault}
use Rattle.inc_directive.specs.declared.files.FileFault.TheVariants.{OpenComment}
use Rattle.inc_lookup.specs.declared.projects.Found.{Found}
use Rattle.inc_lookup.specs.Projects.{Listing, bytes_at}
use Rattle.inc_lookup.specs.DirectiveLists.{is_listed}
use Rattle.inc_graph.specs.IncludeGraph.{Edge, Graph, InClosure, IsGraphAnswer, Start, as_source, bad_file, directive_count, found_so, graph_of_files, graph_or_bad, inner_files, source_files, text_directives}
use Rattle.inc_graph.specs.Members.{is_member}
use Rattle.inc_graph.specs.Settings.{Setting}
use Rattle.inc_graph.specs.declared.building.Source.{Source}
use Rattle.inc_graph.proofs.ClosureLemmas.{reached_push, source_reached}
use Rattle.inc_graph.proofs.ClosureWalks.{answer_files, answer_of, contains_none, inner_file, inside_found, some_contains}
use Rattle.inc_graph.proofs.LeadLemmas.{contains_kept, edge_by}
use Rattle.inc_graph.proofs.Members.{member_at}
use Rattle.inc_graph.proofs.SourceLemmas.{among_source}
use Rattle.inc_cost.proofs.SameWeights.{IsMet}

-- a text that is a comment without an end
abbrev pub open_comment : List ℕ
open_comment = 47 ∷ 42 ∷ []

is_open : (l : Language) → file_directives l (phase_text l open_comment) ≡ Err (OpenComment 1)
is_open language.C17 = refl
is_open language.Extended = refl
is_open language.Gnu = refl

no_answer : (bads : List (ℕ × FileFault)) (count : ℕ) (h g : Graph) → (bad : ℕ × FileFault) → Contains bads bad → graph_or_bad bads count h ≡ Ok g → ⊥
no_answer [] count h g bad there e = contains_none bad there
no_answer (b ∷ bads) count h g bad there e = cc

module _ (setting : Setting) (listing : Listing) (sources : List Source) (headers : List ℕ) (g : Graph) (h : IsGraphAnswer setting listing sources headers (Ok g)) where
  -- a file that is met is one of the closure
  pub met_inside : (f : ℕ) → IsMet g f → InClosure setting listing sources headers f
  met_inside f (inl among) =
      let sources_are : source_files sources ≡ g.sources = ap (λ (x : Graph). x.sources) (answer_files setting listing sources headers g h) in
      let at = some_contains g.sources f among in
      let s = among_source sources f (ap (is_member f) sources_are ∙ member_at g.sources at.0 f at.1) in
      record { start = record { path = s.0; next = None }; reached = source_reached setting listing sources headers s.0 f s.1 }
  met_inside f (inr leads) =
      let k = leads.0 in
      let e : Edge = leads.1.0 in
      let edge = (answer_of setting listing sources headers g h).known k e leads.1.1 in
      let d = edge_by setting listing (h.0 e.from) e.from e edge.0 in
      let s : Start = d.2.0 in
      subst (InClosure setting listing sources headers) leads.1.2
      (record {
        start = record { path = s.path; next = d.2.2.0 };
        reached = reached_push setting listing sources headers s.path (found_so e.from s) (record { file = e.to; next = d.2.2.0 }) ((h.1 e.from s).0 d.2.1)
            (record { directive = d.0; there = d.1; leads = d.2.2.1; before = edge.2 });
      })

  -- and no file of the closure has a fault, but a header
  pub met_open : (f : ℕ) → IsMet g f → is_member f headers ≡ false → f < length listing.files → bytes_at listing f ≡ open_comment → ⊥
  met_open f met other low bytes =
      let files = inner_files listing h.0 headers in
      let inner = inner_file listing h.0 headers f low (inside_found setting listing sources headers h.0 h.1 f (met_inside f met)) other in
      let faulty : text_directives setting f (phase_text setting.language (bytes_at listing f)) ≡ Err (OpenComment 1) =
      ap (λ (bs : List ℕ). text_directives setting f (phase_text setting.language bs)) bytes ∙ ap (without (is_listed setting.removed f)) (is_open setting.language) in
      let bad : bad_file setting listing f ≡ Some (f, OpenComment 1) = ap (λ r. elim r [ Ok directives ↦ None | Err fault ↦ Some (f, fault) ]) faulty in
      no_answer (filter_map (bad_file setting listing) files) (directive_count setting listing h.0 files) (graph_of_files setting listing sources headers h.0 files) g (f, OpenComment 1)
      (contains_kept (bad_file setting listing) files f (f, OpenComment 1) inner bad) h.2
