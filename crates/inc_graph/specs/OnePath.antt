-- One include path of a graph of several: the graph that it has alone, with the sources that are read with it.
use Rattle.std.specs.Prelude.{◌≡◌, ℕ, ◌==◌, List, [], Some, None, IsTrue, if◌then◌else◌, filter_map, map, slice_get}
use Rattle.inc_lookup.specs.Projects.{Listing}
use Rattle.inc_graph.specs.Chains.{is_chain}
use Rattle.inc_graph.specs.IncludeGraph.{Edge, Graph}
use Rattle.inc_graph.specs.Members.{is_member}
use Rattle.inc_graph.specs.Settings.{Setting, listing_in, with_paths}
use Rattle.inc_graph.specs.declared.building.Source.{Source}

-- the files of the sources that are read with an include path
abbrev pub path_sources : (path : ℕ) → List Source → List ℕ
path_sources path sources = filter_map (λ (s : Source). if s.path == path then Some s.file else None) sources

-- these sources where the include path is the project's own
abbrev pub sources_alone : (path : ℕ) → List Source → List Source
sources_alone path sources = map (λ (f : ℕ). record { file = f; path = 0 }) (path_sources path sources)

-- the files with this include path as their own
abbrev pub listing_alone : Setting → Listing → (path : ℕ) → Listing
listing_alone setting listing path = listing_in setting.others listing path

-- the same setting with no other include path
abbrev pub setting_alone : Setting → Setting
setting_alone setting = with_paths setting []

-- each chain of a graph has an edge that is an edge of this set in another graph
abbrev pub SeparatesIn : (whole : Graph) → (set : List ℕ) → (part : Graph) → Type 0
SeparatesIn whole set part =
    (chain : List ℕ) → IsTrue (is_chain part chain) →
    (edge : Edge) × ((k : ℕ) × IsTrue (is_member k chain) × (slice_get part.edges k ≡ Some edge))
    × ((j : ℕ) × IsTrue (is_member j set) × (slice_get whole.edges j ≡ Some edge))
