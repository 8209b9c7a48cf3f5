-- What a cut is for: once its directives are removed, no preprocessing of a source reads a header. And what a graph shows without one: no
-- preprocessing of a source reads a file to which no walk leads.
use Rattle.std.specs.Prelude.{◌≡◌, ℕ, not, List, [], ◌++◌, None, Ok, Contains, IsTrue, filter_map}
use Rattle.inc_graph.specs.declared.building.Source.{Source}
use Rattle.inc_lookup.specs.Projects.{Listing}
use Rattle.inc_graph.specs.Between.{between}
use Rattle.inc_graph.specs.Chains.{is_walk, IsShortestOrNone}
use Rattle.inc_graph.specs.Cuts.{Fixed, IsSeparating, directives_of}
use Rattle.inc_graph.specs.IncludeGraph.{Graph, Start, IsClosure, IsGraphAnswer, inner_files, bad_file, graph_of_files}
use Rattle.inc_graph.specs.Members.{is_member}
use Rattle.inc_graph.specs.Settings.{Setting, listing_in}
use Rattle.inc_report.specs.Headline.{NeverReadAny, NeverReads}

-- no preprocessing of a source without the directives of the set, and without those that the setting takes as removed, reads a header
abbrev pub KeepsOut : Setting → Listing → (sources : List Source) → (headers : List ℕ) → Graph → (set : List ℕ) → Type 0
KeepsOut setting listing sources headers g set =
    NeverReadAny setting.others listing setting.language setting.undefined sources headers (directives_of g set ++ setting.removed)

-- where no file of the closure but perhaps the headers is bad, and no blocker is, each separating set keeps the headers out
abbrev pub CutKeepsHeadersOut : Type 0
CutKeepsHeadersOut =
    (setting : Setting) (listing : Listing) (sources : List Source) (headers : List ℕ) (starts : ℕ → List Start) → IsClosure setting listing sources headers starts →
    let files : List ℕ = inner_files listing starts headers in
    let g : Graph = graph_of_files setting listing sources headers starts files in
    filter_map (bad_file setting listing) files ≡ [] → g.blockers ≡ [] →
    (fixed : Fixed) (set : List ℕ) → IsSeparating g fixed set → KeepsOut setting listing sources headers g set

-- the same of a graph that is answered
abbrev pub AnsweredCutKeepsHeadersOut : Type 0
AnsweredCutKeepsHeadersOut =
    (setting : Setting) (listing : Listing) (sources : List Source) (headers : List ℕ) (g : Graph) → IsGraphAnswer setting listing sources headers (Ok g) →
    g.blockers ≡ [] → (fixed : Fixed) (set : List ℕ) → IsSeparating g fixed set →
    KeepsOut setting listing sources headers g set

-- where no chain leads from a source to a header, each header is kept out without removing anything more
abbrev pub UnreachedIsKeptOut : Type 0
UnreachedIsKeptOut =
    (setting : Setting) (listing : Listing) (sources : List Source) (headers : List ℕ) (g : Graph) → IsGraphAnswer setting listing sources headers (Ok g) →
    g.blockers ≡ [] → IsShortestOrNone g None → KeepsOut setting listing sources headers g []

-- of a graph that is answered without headers and has no blocker: no preprocessing of a source reads a file to which no walk leads from it
abbrev pub NothingUnreachedIsRead : Type 0
NothingUnreachedIsRead =
    (setting : Setting) (listing : Listing) (sources : List Source) (g : Graph) → IsGraphAnswer setting listing sources [] (Ok g) → g.blockers ≡ [] →
    (source : Source) → Contains sources source → (file : ℕ) → ((walk : List ℕ) → IsTrue (not (is_walk g source.file walk file))) →
    NeverReads (listing_in setting.others listing source.path) setting.language setting.undefined source.file file setting.removed

-- nor does it where there is no chain between some files and others
abbrev pub NothingIsReadWithoutChain : Type 0
NothingIsReadWithoutChain =
    (setting : Setting) (listing : Listing) (sources : List Source) (g : Graph) → IsGraphAnswer setting listing sources [] (Ok g) → g.blockers ≡ [] →
    (from to : List ℕ) → IsShortestOrNone (between from to g) None → (source : Source) → Contains sources source → IsTrue (is_member source.file from) →
    (file : ℕ) → IsTrue (is_member file to) →
    NeverReads (listing_in setting.others listing source.path) setting.language setting.undefined source.file file setting.removed
