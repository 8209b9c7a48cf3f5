-- What is printed of a question, by what is printed of its graph.
use Rattle.std.proofs.Common.{◌≡◌, ℕ, length, List, [], Result, Ok, Err, refl, sym, subst, ap, ◌∙◌}
use Rattle.std.specs.Prelude.{filter_map}
use Rattle.inc_graph.specs.declared.building.Source.{Source}
use Rattle.inc_text.specs.declared.devices.ReadFault.{ReadFault}
use Rattle.inc_graph.specs.Settings.{Setting}
use Rattle.inc_answers.specs.Terms.{Question, setting_in}
use Rattle.inc_lookup.specs.Given.{Given, HoldsOfGiven}
use Rattle.inc_lookup.specs.Projects.{Layout, Listing, layout_of}
use Rattle.inc_lookup.proofs.GivenLemmas.{given_all, laid_count}
use Rattle.inc_graph.specs.IncludeGraph.{Graph, IsGraphAnswer, directive_count, inner_files, bad_file, graph_of_files}
use Rattle.inc_graph.specs.ReadFiles.{IsOfClosure}
use Rattle.inc_graph.specs.declared.building.GraphRefusal.{GraphRefusal}
use Rattle.inc_graph.proofs.ClosureWalks.{answer_is}
use Rattle.inc_answers.specs.Printed.{Printed}
use Rattle.inc_answers.specs.NamedFiles.{headers_at, sources_at}
use Rattle.inc_answers.specs.Questions.{WithFiles, no_header, no_source, OfGraph, Answer, IsAnswer, IsAnswerBy, IsNoEnds, IsRefusalOf, IsStopped}
use Rattle.inc_answers.specs.declared.questions.NoGraph.{NoGraph}
use Rattle.inc_answers.specs.declared.questions.NoGraph.TheVariants as no_graph
use Rattle.inc_answers.proofs.WritingLemmas.{nothing_given}

with_files_all : (layout : Layout) (q : Question) (sources : Result (List Source) ℕ) (headers : Result (List ℕ) ℕ) (A B : List Source → List ℕ → Printed → Type 0) (p : Printed) → ((s : List Source) (t : List ℕ) → A s t p → B s t p)
    → WithFiles layout q sources headers A p → WithFiles layout q sources headers B p
with_files_all layout q (Err i) headers A B p step is = is
with_files_all layout q (Ok s) (Err i) A B p step is = is
with_files_all layout q (Ok s) (Ok t) A B p step is = step s t is

of_graph_all : (layout : Layout) (answer : Result Graph GraphRefusal) (A B : Graph → Printed → Type 0) (p : Printed) → ((g : Graph) → A g p → B g p)
    → OfGraph layout answer A p → OfGraph layout answer B p
of_graph_all layout (Ok g) A B p step is = step g is
of_graph_all layout (Err fault) A B p step is = is

pub answer_all : (A B : Answer) (q : Question) (listing : Listing) (p : Printed)
    → ((g : Graph) → A (layout_of listing) g p → B (layout_of listing) g p) → IsAnswer A q listing p → IsAnswer B q listing p
answer_all A B q listing p step is =
    with_files_all (layout_of listing) q (sources_at (layout_of listing) q) (headers_at (layout_of listing) q.to) _ _ p
    (λ s t told. (told.0, told.1, of_graph_all (layout_of listing) told.0 (A (layout_of listing)) (B (layout_of listing)) p step told.2)) is

module _ {S : Type 0} (gives : S → ℕ → Result (List ℕ) ReadFault → S → Type 0) (old new : S) (layout : Layout) (Then : Answer) (q : Question) (p : Printed) where
  -- what is printed of the graph of a question is printed of the question
  pub of_graph : (graph : Graph) → Then layout graph p
      → HoldsOfGiven gives old new layout (IsAnswerBy (λ l g r. g ≡ graph) q p)
      → HoldsOfGiven gives old new layout (IsAnswerBy Then q p)
  of_graph graph told holds =
      given_all holds (λ given listing laid is. (
        answer_all (λ l g r. g ≡ graph) Then q listing p
            (λ g same. subst (λ (l : Layout). Then l g p) (sym laid) (subst (λ (k : Graph). Then layout k p) (sym same) told)) is.0,
        is.1,
      ))

  -- and so is what is printed where it has none
  pub of_none : HoldsOfGiven gives old new layout (IsAnswerBy (λ l g r. ⊥) q p)
      → HoldsOfGiven gives old new layout (IsAnswerBy Then q p)
  of_none holds =
      given_all holds (λ given listing laid is. (answer_all (λ l g r. ⊥) Then q listing p (λ g none. absurd none) is.0, is.1))

module _ (q : Question) (layout : Layout) (p : Printed) (listing : Listing) (laid : layout_of listing ≡ layout) (Then : Answer) where
  found : (r : Result (List Source) ℕ) → sources_at layout q ≡ r → sources_at (layout_of listing) q ≡ r
  found r is = ap (λ (l : Layout). sources_at l q) laid ∙ is

  found_headers : (r : Result (List ℕ) ℕ) → headers_at layout q.to ≡ r → headers_at (layout_of listing) q.to ≡ r
  found_headers r is = ap (λ (l : Layout). headers_at l q.to) laid ∙ is

  pub without_source : (i : ℕ) → sources_at layout q ≡ Err i → p ≡ no_source layout q i → IsAnswerBy Then q p [] listing
  without_source i none is = rw (found (Err i) none) (is ∙ ap (λ (l : Layout). no_source l q i) (sym laid), refl)

  pub without_header : (s : List Source) (i : ℕ) → sources_at layout q ≡ Ok s → headers_at layout q.to ≡ Err i → p ≡ no_header layout q i → IsAnswerBy Then q p [] listing
  without_header s i there none is = rw (found (Ok s) there, found_headers (Err i) none) (is ∙ ap (λ (l : Layout). no_header l q i) (sym laid), refl)

  pub of_files : (given : List Given) (s : List Source) (t : List ℕ) (answer : Result Graph GraphRefusal) → sources_at layout q ≡ Ok s → headers_at layout q.to ≡ Ok t
      → IsGraphAnswer (setting_in layout q) listing s t answer → OfGraph layout answer (Then layout) p → IsOfClosure (setting_in layout q) s t given listing
      → IsAnswerBy Then q p given listing
  of_files given s t answer there at is told read =
      rw (found (Ok s) there, found_headers (Ok t) at) (
        (
          answer,
          subst (λ (l : Layout). IsGraphAnswer (setting_in l q) listing s t answer) (sym laid) is,
          subst (λ (l : Layout). OfGraph l answer (Then l) p) (sym laid) told,
        ),
        subst (λ (l : Layout). IsOfClosure (setting_in l q) s t given listing) (sym laid) read,
      )

-- where a path names no file, no file is read
pub stopped_early : {S : Type 0} (gives : S → ℕ → Result (List ℕ) ReadFault → S → Type 0) (s : S) (layout : Layout) (q : Question) (cause : NoGraph) (p : Printed) (Then : Answer)
    → IsNoEnds layout q cause → IsStopped layout q cause p → HoldsOfGiven gives s s layout (IsAnswerBy Then q p)
stopped_early gives s layout q (no_graph.NoSource i) p Then none is =
    nothing_given gives s layout (IsAnswerBy Then q p) (λ listing laid. without_source q layout p listing laid Then i none is)
stopped_early gives s layout q (no_graph.NoHeader i) p Then none is =
    nothing_given gives s layout (IsAnswerBy Then q p) (λ listing laid. without_header q layout p listing laid Then none.0.0 i none.0.1 none.1 is)
stopped_early gives s layout q (no_graph.Refused fault) p Then memory is = absurd (subst (λ (f : GraphRefusal). IsRefusalOf layout f p) memory is)

---- the graph has the files of its project

pub files_of_graph : {S : Type 0} (gives : S → ℕ → Result (List ℕ) ReadFault → S → Type 0) (old new : S) (layout : Layout) (setting : Setting) (sources : List Source) (headers : List ℕ) (g : Graph)
    → HoldsOfGiven gives old new layout (λ given listing. IsGraphAnswer setting listing sources headers (Ok g) × IsOfClosure setting sources headers given listing)
    → g.files ≡ length layout.paths
files_of_graph gives old new layout setting sources headers g h =
    let answer = (h.every h.witness h.laid_out h.agrees).0 in
    let files : List ℕ = inner_files h.witness answer.0 headers in
    let same =
    answer_is (filter_map (bad_file setting h.witness) files) (directive_count setting h.witness answer.0 files) (graph_of_files setting h.witness sources headers answer.0 files) g answer.2 in
    sym (ap (λ (k : Graph). k.files) same) ∙ laid_count layout h.witness h.laid_out
