-- What rules that hold promise of every preprocessing.
use Rattle.std.specs.Prelude.{◌≡◌, ◌≢◌, ◌<◌, ℕ, Bool, false, List, [], Option, None, Ok, Contains, IsTrue, length}
use Rattle.std.specs.List.{All}
use Rattle.inc_graph.specs.declared.building.Source.{Source}
use Rattle.inc_graph.specs.IncludeGraph.{Graph, IsGraphAnswer}
use Rattle.inc_graph.specs.Settings.{listing_in}
use Rattle.inc_lookup.specs.Projects.{Listing, layout_of, path_at}
use Rattle.inc_rules.specs.Judging.{AreJudged, Judged, is_broken}
use Rattle.inc_rules.specs.Rules.{Rule, is_left, is_right}
use Rattle.inc_rules.specs.declared.rules.Verb.TheVariants.{NotReach}
use Rattle.inc_report.specs.Headline.{NeverReads}
use Rattle.inc_answers.specs.NamedFiles.{sources_at}
use Rattle.inc_answers.specs.Printed.{Printed}
use Rattle.inc_report.specs.RulesSarif.{sarif_text}
use Rattle.inc_report.specs.RulesText.{rules_text}
use Rattle.inc_answers.specs.Terms.{Question, RuleList, named_directives, setting_in}
use Rattle.inc_answers.specs.declared.outcome.EndKind.TheVariants.{Refused}

-- no preprocessing of a source that the rule is about, without the directives that the question takes as removed, reads a file of its right side
abbrev pub NeverBreaks : Question → Listing → (sources : List Source) → Rule → Type 0
NeverBreaks q listing sources r =
    (source : Source) → Contains sources source → IsTrue (is_left r (path_at (layout_of listing) source.file)) →
    (file : ℕ) → file < length (layout_of listing).paths → IsTrue (is_right r (path_at (layout_of listing) file)) →
    NeverReads (listing_in q.others listing source.path) q.language q.undefined source.file file (named_directives (layout_of listing) q.without)

-- where a rule `must not reach` is not broken, that is so
abbrev pub KeepsRule : Question → Listing → (sources : List Source) → Judged → Type 0
KeepsRule q listing sources j = j.rule.verb ≡ NotReach → is_broken j ≡ false → NeverBreaks q listing sources j.rule

-- what breaks rules is printed so, and those that hold are kept by every preprocessing
pub record RulesAreKept (q : Question) (rules : List Rule) (listing : Listing) (IsPrinted : Graph → List Judged → Type 0) : Type 0 where
  -- the sources are files of the project
  pub sources : List Source
  pub sources_are : sources_at (layout_of listing) q ≡ Ok sources
  -- the graph of them and of no header is built of these files
  pub graph : Graph
  pub graph_is : IsGraphAnswer (setting_in (layout_of listing) q) listing sources [] (Ok graph)
  -- what breaks the rules in it
  pub judged : List Judged
  pub judged_are : AreJudged (layout_of listing) graph rules judged
  -- this is what is printed
  pub printed : IsPrinted graph judged
  -- where no directive of the graph leaves open which file is read, each rule that is not broken is kept
  pub kept : graph.blockers ≡ [] → All (KeepsRule q listing sources) judged

-- the headline of rules: of a question about no headers that is answered
abbrev pub RulesHeadlineBy : Question → List Rule → Listing → (IsPrinted : Graph → List Judged → Type 0) → Printed → Type 0
RulesHeadlineBy q rules listing IsPrinted p = q.to ≡ None → p.end.kind ≢ Refused → RulesAreKept q rules listing IsPrinted

-- of what is printed as text
abbrev pub RulesHeadline : List Rule → Question → Printed → Listing → Type 0
RulesHeadline rules q p listing = RulesHeadlineBy q rules listing (λ g js. p.text ≡ rules_text (layout_of listing) g js) p

-- and as SARIF
abbrev pub SarifHeadline : RuleList → Question → Printed → Listing → Type 0
SarifHeadline list q p listing = RulesHeadlineBy q list.rules listing (λ g js. p.text ≡ sarif_text list.name (layout_of listing) g js) p
