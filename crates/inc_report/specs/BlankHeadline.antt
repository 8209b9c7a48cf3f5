-- What the changed files of a cut promise of every preprocessing.
use Rattle.std.specs.Prelude.{◌≡◌, ℕ, List, Ok}
use Rattle.inc_graph.specs.declared.building.Source.{Source}
use Rattle.inc_lookup.specs.Projects.{Listing, layout_of}
use Rattle.inc_graph.specs.Cuts.{fixed_by, costs_by, directives_of, IsCheapest}
use Rattle.inc_graph.specs.IncludeGraph.{Graph, IsGraphAnswer}
use Rattle.inc_graph.specs.MarkedEdges.{amounts_by}
use Rattle.inc_answers.specs.BlankText.{files_text}
use Rattle.inc_answers.specs.Changes.{Change, changes, changed_listing}
use Rattle.inc_report.specs.Headline.{NeverReadAny, IsWhollyFixed}
use Rattle.inc_answers.specs.NamedFiles.{headers_at, sources_at}
use Rattle.inc_answers.specs.PatchText.{patch_text}
use Rattle.inc_answers.specs.Printed.{Printed}
use Rattle.inc_answers.specs.Terms.{Question, Limits, named_directives, setting_in}
use Rattle.inc_answers.specs.declared.outcome.EndKind.TheVariants.{Answered, Negative}

-- the project with the changed files in place of the old ones keeps the headers out of every preprocessing, and no cheaper set of
-- editable directives than those that are blanked in them separates the sources from the headers in their graph
pub record ChangesKeepHeadersOut (q : Question) (l : Limits) (listing : Listing) (cs : List Change) : Type 0 where
  -- sources and headers are files of the project
  pub sources : List Source
  pub headers : List ℕ
  pub sources_are : sources_at (layout_of listing) q ≡ Ok sources
  pub headers_are : headers_at (layout_of listing) q.to ≡ Ok headers
  -- no preprocessing of a source reads a header
  pub kept_out : NeverReadAny q.others (changed_listing cs listing) q.language q.undefined sources headers
      (named_directives (layout_of listing) q.without)
  -- the graph of the question
  pub graph : Graph
  pub graph_is : IsGraphAnswer (setting_in (layout_of listing) q) listing sources headers (Ok graph)
  -- the files change by the directives of these edges
  pub set : List ℕ
  pub blanked : cs ≡ changes q.language listing (directives_of graph set)
  -- in the graph no set of editable directives that separates costs less
  pub cheapest : let amounts : List ℕ = amounts_by (layout_of listing) graph l.kept l.fixed l.costs in
      IsCheapest graph (fixed_by amounts) (costs_by amounts) set

-- the headline of changed files that are printed so
pub record ChangesHeadline (text : List Change → List ℕ) (q : Question) (l : Limits) (p : Printed) (listing : Listing) : Type 0 where
  pub changed : p.end.kind ≡ Answered → (cs : List Change) × (p.text ≡ text cs) × ChangesKeepHeadersOut q l listing cs
  pub none : p.end.kind ≡ Negative → IsWhollyFixed q l listing p.text

-- the headline, of what `cut --blank` prints
abbrev pub BlankHeadline : Question → Limits → Printed → Listing → Type 0
BlankHeadline q l p listing = ChangesHeadline files_text q l p listing

-- and of what `cut --patch` prints
abbrev pub PatchHeadline : Question → Limits → Printed → Listing → Type 0
PatchHeadline q l p listing = ChangesHeadline patch_text q l p listing
