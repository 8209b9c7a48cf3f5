-- What the blanked files of a cut are for: no preprocessing of a source of them reads a header.
use Rattle.std.specs.Prelude.{◌≡◌, ℕ, List, [], Ok}
use Rattle.inc_graph.specs.declared.building.Source.{Source}
use Rattle.inc_lookup.specs.declared.projects.DirectiveId.{DirectiveId}
use Rattle.inc_lookup.specs.Projects.{Listing}
use Rattle.inc_graph.specs.Cuts.{Fixed, IsSeparating, directives_of}
use Rattle.inc_graph.specs.IncludeGraph.{Graph, IsGraphAnswer}
use Rattle.inc_graph.specs.Settings.{Setting}
use Rattle.inc_pp.specs.BlankedProjects.{blanked_listing}
use Rattle.inc_report.specs.Headline.{NeverReadAny}

-- no preprocessing of a source reads a header, once these directives are blanked in the files, without those that the setting takes as
-- removed
abbrev pub BlankedKeepOut : Setting → Listing → (sources : List Source) → (headers : List ℕ) → List DirectiveId → Type 0
BlankedKeepOut setting listing sources headers blanked =
    NeverReadAny setting.others (blanked_listing setting.language listing blanked) setting.language setting.undefined sources headers setting.removed

-- the files of each separating set, with its directives blanked, keep the headers out
abbrev pub BlankedCutKeepsHeadersOut : Type 0
BlankedCutKeepsHeadersOut =
    (setting : Setting) (listing : Listing) (sources : List Source) (headers : List ℕ) (g : Graph) → IsGraphAnswer setting listing sources headers (Ok g) →
    g.blockers ≡ [] → (fixed : Fixed) (set : List ℕ) → IsSeparating g fixed set →
    BlankedKeepOut setting listing sources headers (directives_of g set)
