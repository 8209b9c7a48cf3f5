-- What is known of a project and of a graph of its files.
use Rattle.std.specs.Prelude.{◌≡◌, length}
use Rattle.inc_lookup.specs.Projects.{Layout}
use Rattle.inc_graph.specs.IncludeGraph.{Graph, IsSound}
use Rattle.inc_check.specs.Certificates.{IsEachPathOnce}

-- no two files have one path, and the graph is sound and has the files of the project
pub record IsKnown (layout : Layout) (g : Graph) : Type 0 where
  pub once : IsEachPathOnce layout
  pub sound : IsSound g
  pub files : g.files ≡ length layout.paths
