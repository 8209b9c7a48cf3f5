-- What a printed cut promises of every preprocessing.
use Rattle.std.specs.Prelude.{◌≡◌, ℕ, not, List, ◌++◌, Ok, Contains, IfOk, IsTrue, codes}
use Rattle.std.specs.List.{list_all, list_any}
use Rattle.inc_graph.specs.Settings.{listing_in}
use Rattle.inc_graph.specs.declared.building.Source.{Source}
use Rattle.inc_text.specs.declared.languages.Language.{Language}
use Rattle.inc_lookup.specs.declared.projects.DirectiveId.{DirectiveId}
use Rattle.inc_lookup.specs.Projects.{Listing, SearchPath, layout_of}
use Rattle.inc_graph.specs.Members.{is_member}
use Rattle.inc_graph.specs.Cuts.{fixed_by, costs_by, IsCheapest, IsCostCertificate, IsFixedChain}
use Rattle.inc_graph.specs.IncludeGraph.{Graph, IsGraphAnswer}
use Rattle.inc_graph.specs.MarkedEdges.{amounts_by}
use Rattle.inc_check.specs.Certificates.{marks_of, edge_numbers, chains_of, is_marked_editable, are_different, is_counted_chain}
use Rattle.inc_check.specs.CertificateText.{IsCertificateText}
use Rattle.inc_check.specs.declared.certificates.Certificate.{Certificate}
use Rattle.inc_macro.specs.Macros.{is_defined, no_macros, with_words}
use Rattle.inc_pp.specs.Preprocessing.{Outcome, preprocessing}
use Rattle.inc_pp.specs.Settings.{Settings}
use Rattle.inc_answers.specs.MarkTexts.{list_text}
use Rattle.inc_answers.specs.NamedFiles.{headers_at, sources_at}
use Rattle.inc_answers.specs.Printed.{Printed}
use Rattle.inc_answers.specs.Terms.{Question, Limits, named_directives, setting_in}
use Rattle.inc_answers.specs.declared.outcome.EndKind.TheVariants.{Answered, Negative}

-- once the words of a command line are taken, none of these names is defined
abbrev pub DefineNone : Language → (words : List (List ℕ)) → (names : List (List ℕ)) → Type 0
DefineNone language words names =
    IfOk (with_words 0 words (no_macros language)) (λ table. IsTrue (not (list_any (λ name. is_defined name table) names)))

-- once these directives are removed, no preprocessing of the source reads the header, whatever words define macros, but for these names,
-- and whatever date, time and treatment of missing headers are set
abbrev pub NeverReads : Listing → Language → (undefined : List (List ℕ)) → (source header : ℕ) → (removed : List DirectiveId) → Type 0
NeverReads listing language undefined source header removed =
    (words : List (List ℕ)) (settings : Settings) (outcome : Outcome) → settings.language ≡ language → DefineNone language words undefined →
    preprocessing listing source words settings removed ≡ Ok outcome → IsTrue (not (is_member header outcome.reads))

-- the same for each of several sources, with its include path, and each of several headers; these are the include paths beside the
-- project's own
abbrev pub NeverReadAny : (others : List SearchPath) → Listing → Language → (undefined : List (List ℕ)) → (sources : List Source) → (headers : List ℕ) → (removed : List DirectiveId) → Type 0
NeverReadAny others listing language undefined sources headers removed =
    (source : Source) (header : ℕ) → Contains sources source → IsTrue (is_member header headers) →
    NeverReads (listing_in others listing source.path) language undefined source.file header removed

-- the cut of a certificate keeps the headers out of every preprocessing, and no cheaper set of editable directives separates the sources
-- from the headers in their graph, as the chains show
pub record KeepsHeadersOut (q : Question) (l : Limits) (listing : Listing) (c : Certificate) : Type 0 where
  -- sources and headers are files of the project
  pub sources : List Source
  -- those of the headers
  pub headers : List ℕ
  -- each path of a source names one
  pub sources_are : sources_at (layout_of listing) q ≡ Ok sources
  -- and so does each path of a header, of which there is one at least
  pub headers_are : headers_at (layout_of listing) q.to ≡ Ok headers
  -- no preprocessing of a source reads a header
  pub kept_out : NeverReadAny q.others listing q.language q.undefined sources headers
      (named_directives (layout_of listing) c.cut ++ named_directives (layout_of listing) q.without)
  -- the graph of the question
  pub graph : Graph
  -- it is built of these files
  pub graph_is : IsGraphAnswer (setting_in (layout_of listing) q) listing sources headers (Ok graph)
  -- each mark of the cut is that of an editable directive of the graph, none is there twice, and the marks of each chain are those of
  -- a chain of the graph
  pub editable : let amounts : List ℕ = amounts_by (layout_of listing) graph l.kept l.fixed l.costs in
      IsTrue (list_all (is_marked_editable (layout_of listing) graph (fixed_by amounts)) c.cut)
  -- no mark is there twice
  pub different : IsTrue (are_different c.cut)
  -- the marks of each chain are those of a chain of the graph
  pub chains : IsTrue (list_all (is_counted_chain (layout_of listing) graph) c.chains)
  -- in it no set of editable directives that separates costs less, as the chains show
  pub cheapest : let amounts : List ℕ = amounts_by (layout_of listing) graph l.kept l.fixed l.costs in
      IsCheapest graph (fixed_by amounts) (costs_by amounts) (edge_numbers (layout_of listing) graph c.cut)
  -- the chains show it
  pub shown : let amounts : List ℕ = amounts_by (layout_of listing) graph l.kept l.fixed l.costs in
      IsCostCertificate graph (fixed_by amounts) (costs_by amounts) (edge_numbers (layout_of listing) graph c.cut)
      (chains_of (layout_of listing) graph c.chains)

-- where no cut exists, a chain from a source to a header is wholly fixed, and these are its directives
pub record IsWhollyFixed (q : Question) (l : Limits) (listing : Listing) (text : List ℕ) : Type 0 where
  -- sources and headers are files of the project
  pub sources : List Source
  -- those of the headers
  pub headers : List ℕ
  -- each path of a source names one
  pub sources_are : sources_at (layout_of listing) q ≡ Ok sources
  -- and so does each path of a header
  pub headers_are : headers_at (layout_of listing) q.to ≡ Ok headers
  -- the graph of the question
  pub graph : Graph
  -- it is built of these files
  pub graph_is : IsGraphAnswer (setting_in (layout_of listing) q) listing sources headers (Ok graph)
  -- a chain of fixed edges alone
  pub chain : List ℕ
  -- it is one from a source to a header
  pub is_fixed : IsFixedChain graph (fixed_by (amounts_by (layout_of listing) graph l.kept l.fixed l.costs)) chain
  -- the text is this chain
  pub printed : text ≡ list_text (codes "fixed") (marks_of (layout_of listing) graph chain)

-- the headline, of what `cut` prints
pub record CutHeadline (q : Question) (l : Limits) (p : Printed) (listing : Listing) : Type 0 where
  pub cut : p.end.kind ≡ Answered → (c : Certificate) × IsCertificateText p.text c × KeepsHeadersOut q l listing c
  pub none : p.end.kind ≡ Negative → IsWhollyFixed q l listing p.text

-- the same of the certificate that `check` says yes to
abbrev pub CheckHeadline : Question → Limits → (text : List ℕ) → Printed → Listing → Type 0
CheckHeadline q l text p listing =
    p.end.kind ≡ Answered → (c : Certificate) × IsCertificateText text c × KeepsHeadersOut q l listing c
