-- What a cut promises of every preprocessing whose directives are printed as they are written.
use Rattle.std.specs.Prelude.{◌≡◌, ℕ, List, ◌++◌, Ok}
use Rattle.inc_graph.specs.declared.building.Source.{Source}
use Rattle.inc_lookup.specs.Projects.{Listing, layout_of}
use Rattle.inc_graph.specs.Cuts.{Counted, fixed_by, costs_by, directives_of, IsCut, IsFixedChain}
use Rattle.inc_graph.specs.IncludeGraph.{Graph, IsGraphAnswer}
use Rattle.inc_graph.specs.MarkedEdges.{amounts_by}
use Rattle.inc_answers.specs.CutDocument.{has_costs}
use Rattle.inc_report.specs.Headline.{NeverReadAny}
use Rattle.inc_answers.specs.NamedFiles.{headers_at, sources_at}
use Rattle.inc_report.specs.NamedText.{about, answer_text, rules_answer}
use Rattle.inc_answers.specs.Printed.{Printed}
use Rattle.inc_report.specs.RulesHeadline.{RulesHeadlineBy}
use Rattle.inc_answers.specs.Terms.{Question, Details, Limits, RuleList, named_directives, setting_in}
use Rattle.inc_answers.specs.Told.{Answer, Removed, FixedChain}
use Rattle.inc_answers.specs.declared.asked.Asked.TheVariants.{Cut, Rules}
use Rattle.inc_report.specs.declared.named.NamedForm.{NamedForm}
use Rattle.inc_answers.specs.declared.outcome.EndKind.TheVariants.{Answered, Negative}

-- the graph between the sources and the headers of a question
pub record HasGraph (q : Question) (listing : Listing) : Type 0 where
  -- sources and headers are files of the project
  pub sources : List Source
  pub headers : List ℕ
  pub sources_are : sources_at (layout_of listing) q ≡ Ok sources
  pub headers_are : headers_at (layout_of listing) q.to ≡ Ok headers
  -- the graph is built of these files
  pub graph : Graph
  pub graph_is : IsGraphAnswer (setting_in (layout_of listing) q) listing sources headers (Ok graph)

-- the text is that of an answer
abbrev pub IsTextOf : NamedForm → Question → Limits → Listing → Graph → Answer → (text : List ℕ) → Type 0
IsTextOf form q l listing g answer text =
    text ≡ answer_text form (has_costs l.costs) (amounts_by (layout_of listing) g l.kept l.fixed l.costs) (about q.language listing (layout_of listing) g) answer

-- the directives that are printed keep the headers out of every preprocessing once they are removed, and no cheaper set of editable
-- directives separates the sources from the headers in their graph
pub record NamedKeepsHeadersOut (form : NamedForm) (q : Question) (l : Limits) (listing : Listing) (text : List ℕ) : Type 0 where
  pub of : HasGraph q listing
  -- the directives of these edges, and chains
  pub set : List ℕ
  pub chains : List Counted
  -- the text lists them
  pub printed : IsTextOf form q l listing of.graph (Removed set chains) text
  -- no preprocessing of a source reads a header
  pub kept_out : NeverReadAny q.others listing q.language q.undefined of.sources of.headers
      (directives_of of.graph set ++ named_directives (layout_of listing) q.without)
  -- none that separates costs less, as the chains show
  pub cheapest : let amounts : List ℕ = amounts_by (layout_of listing) of.graph l.kept l.fixed l.costs in
      IsCut of.graph (fixed_by amounts) (costs_by amounts) set chains

-- the text lists a chain of fixed edges alone
pub record NamedIsFixed (form : NamedForm) (q : Question) (l : Limits) (listing : Listing) (text : List ℕ) : Type 0 where
  pub of : HasGraph q listing
  pub chain : List ℕ
  pub is_fixed : IsFixedChain of.graph (fixed_by (amounts_by (layout_of listing) of.graph l.kept l.fixed l.costs)) chain
  pub printed : IsTextOf form q l listing of.graph (FixedChain chain) text

-- the headline of a cut
pub record NamedCutHeadline (form : NamedForm) (q : Question) (l : Limits) (p : Printed) (listing : Listing) : Type 0 where
  pub cut : p.end.kind ≡ Answered → NamedKeepsHeadersOut form q l listing p.text
  pub none : p.end.kind ≡ Negative → NamedIsFixed form q l listing p.text

-- the headline of rules
abbrev pub NamedRulesHeadline : NamedForm → Question → RuleList → Printed → Listing → Type 0
NamedRulesHeadline form q l p listing =
    RulesHeadlineBy q l.rules listing (λ g js. p.text ≡ rules_answer form.format l.name (about q.language listing (layout_of listing) g) js) p

-- what is promised by what is printed, in whatever format
abbrev pub NamedHeadline : NamedForm → Question → Details → Printed → Listing → Type 0
NamedHeadline form q d p listing = elim form.asked [ Cut ↦ NamedCutHeadline form q d.limits p listing | Rules ↦ NamedRulesHeadline form q d.rules p listing | _ ↦ Unit {0} ]
