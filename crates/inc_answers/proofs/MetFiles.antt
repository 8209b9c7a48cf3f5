-- Of a graph that stands each source was read, and each file to which an edge leads, but no header.
use Rattle.std.proofs.Common.{◌≡◌, inl, inr, ℕ, ◌<◌, ◌==◌, true, false, List, [], ◌∷◌, length, Result, Ok, refl, sym, ap, ◌∙◌, subst, arith, All}
use Rattle.std.specs.List.{list_any}
use Rattle.std.proofs.lemmas.Bool.{false≢true, ne_eqb, or_from}
use Rattle.std.proofs.lemmas.List.Elements.{All-contains, All-head, All-tail}
use Rattle.inc_text.specs.declared.devices.ReadFault.{ReadFault}
use Rattle.inc_lookup.specs.Given.{Given, Agrees, HoldsOfGiven}
use Rattle.inc_lookup.specs.Projects.{Layout, Listing, layout_of, bytes_at}
use Rattle.inc_lookup.proofs.GivenLemmas.{agrees_more, laid_count, laid_with, with_bytes}
use Rattle.inc_graph.specs.IncludeGraph.{Graph, InClosure, IsGraphAnswer}
use Rattle.inc_graph.specs.Members.{is_member}
use Rattle.inc_graph.specs.ReadFiles.{IsOfClosure}
use Rattle.inc_graph.proofs.ClosureWalks.{answer_files}
use Rattle.inc_graph.proofs.Walks.{inner_edge}
use Rattle.inc_cost.proofs.SameWeights.{IsMet}
use Rattle.inc_answers.specs.Known.{IsKnown}
use Rattle.inc_answers.specs.NamedFiles.{headers_at}
use Rattle.inc_answers.specs.Printed.{Printed}
use Rattle.inc_answers.specs.Questions.{AreReadFor, IsAnswerBy}
use Rattle.inc_answers.specs.Terms.{Question, setting_in}
use Rattle.inc_answers.proofs.StatedAnswers.{IsStated, IsTold, told_of}
use Rattle.inc_answers.proofs.InnerSources.{unread_all}
use Rattle.inc_answers.proofs.ReadFiles.{met_open, open_comment}

-- files none of which is a header
none_given : (P : Given → Type 0) (headers : List ℕ) (given : List Given) (file : ℕ) → All (λ (g : Given). P g × (is_member g.file headers ≡ false)) given → is_member file headers ≡ true
    → list_any (λ (g : Given). g.file == file) given ≡ false
none_given P headers [] file all there = refl
none_given P headers (g ∷ gs) file all there =
    let here = All-head (λ (x : Given). P x × (is_member x.file headers ≡ false)) g gs all in
    or_from (g.file == file) (list_any (λ (x : Given). x.file == file) gs)
    (ne_eqb g.file file (λ same. false≢true (sym here.1 ∙ ap (λ (f : ℕ). is_member f headers) same ∙ there)))
    (none_given P headers gs file (All-tail (λ (x : Given). P x × (is_member x.file headers ≡ false)) g gs all) there)

module _ {S : Type 0} (gives : S → ℕ → Result (List ℕ) ReadFault → S → Type 0) (old new : S) (layout : Layout) (q : Question) (graph : Graph) (p : Printed)
    (known : IsKnown layout graph) (holds : HoldsOfGiven gives old new layout (IsAnswerBy (λ l g r. g ≡ graph) q p)) where
  pub met_within : (f : ℕ) → IsMet graph f → f < length layout.paths
  met_within f (inl among) =
      let low = All-contains (λ x. x < graph.files) graph.sources f known.sound.ends.sources_within among in
      omega (arith, low, known.files)
  met_within f (inr leads) =
      let inner = inner_edge graph leads.0 leads.1.0 known.sound leads.1.1 in
      omega (arith, inner.to_within, known.files, leads.1.2)

  module _ (stated : IsStated p) where
    -- the graph is that of the question
    is_graph : (listing : Listing) → layout_of listing ≡ layout → Agrees holds.given listing
        → (t : IsTold (λ l g r. g ≡ graph) q listing p) × (IsGraphAnswer (setting_in (layout_of listing) q) listing t.sources t.headers (Ok graph) × (t.headers ≡ graph.headers))
    is_graph listing laid agrees =
        let told = told_of (λ l g r. g ≡ graph) q listing p stated (holds.every listing laid agrees).0 in
        let answer = subst (λ (g : Graph). IsGraphAnswer (setting_in (layout_of listing) q) listing told.sources told.headers (Ok g)) told.told told.graph_is in
        (told, (answer, ap (λ (x : Graph). x.headers) (answer_files (setting_in (layout_of listing) q) listing told.sources told.headers graph answer)))

    -- were a file not read, it could have a fault
    pub unread_never : (f : ℕ) → IsMet graph f → is_member f graph.headers ≡ false → list_any (λ (g : Given). g.file == f) holds.given ≡ false → ⊥
    unread_never f met other unread =
        let within = met_within f met in
        let listing : Listing = with_bytes holds.witness f open_comment in
        let laid = laid_with layout holds.witness f open_comment holds.laid_out in
        let short : f < length holds.witness.files = omega (arith, within, laid_count layout holds.witness holds.laid_out) in
        let one : Given = record { file = f; bytes = open_comment } in
        let agrees = agrees_more holds.witness holds.given f open_comment short (unread_all holds.given f unread) holds.agrees in
        let bytes : bytes_at listing f ≡ open_comment = All-head (λ (g : Given). bytes_at listing g.file ≡ g.bytes) one holds.given agrees in
        let is = is_graph listing laid (All-tail (λ (g : Given). bytes_at listing g.file ≡ g.bytes) one holds.given agrees) in
        met_open (setting_in (layout_of listing) q) listing is.0.sources is.0.headers graph is.1.0 f met (ap (is_member f) is.1.1 ∙ other)
        (omega (arith, within, laid_count layout listing laid)) bytes

    module _ (listing : Listing) (laid : layout_of listing ≡ layout) (agrees : Agrees holds.given listing) where
      read_for : (t : IsTold (λ l g r. g ≡ graph) q listing p) → IsOfClosure (setting_in (layout_of listing) q) t.sources t.headers holds.given listing
      read_for t =
          let read = (holds.every listing laid agrees).1 in
          subst (λ r. AreReadFor q (Ok t.sources) r holds.given listing) t.headers_are
          (subst (λ r. AreReadFor q r (headers_at (layout_of listing) q.to) holds.given listing) t.sources_are read)

      -- a header has not been read
      pub header_unread : (f : ℕ) → is_member f graph.headers ≡ true → list_any (λ (g : Given). g.file == f) holds.given ≡ false
      header_unread f there =
          let is = is_graph listing laid agrees in
          none_given (λ (g : Given). InClosure (setting_in (layout_of listing) q) listing is.0.sources is.0.headers g.file) is.0.headers holds.given f (read_for is.0).0 (ap (is_member f) is.1.1 ∙ there)
