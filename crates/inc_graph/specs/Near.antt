-- Where a mark is looked for first.
use Rattle.std.specs.Prelude.{◌≡◌, ℕ, ◌<◌, false, Some, slice_get}
use Rattle.inc_lookup.specs.Projects.{Layout}
use Rattle.inc_graph.specs.declared.naming.Near as declared
use Rattle.inc_graph.specs.declared.graphs.Edge as declared_edge
use Rattle.inc_graph.specs.IncludeGraph.{Graph}
use Rattle.inc_graph.specs.Chains.{leaves}
use Rattle.inc_graph.specs.Marks.{Mark}
use Rattle.inc_graph.specs.MarkedEdges.{edge_number}

-- the files in which a mark may be looked for are some of so many
pub record IsNear (files : ℕ) (near : declared.Near) : Type 0 where
  pub file : near.file < files
  pub next : near.next < files
  pub ahead : near.ahead < files

-- the edge stands in the graph at its number
abbrev pub IsListed : Graph → declared_edge.Edge → Type 0
IsListed g e = slice_get g.edges e.id ≡ Some (record { from = e.from; to = e.to; line = e.line })

-- the mark names this edge, which leaves the file
pub record IsNamedFrom (layout : Layout) (g : Graph) (file : ℕ) (m : Mark) (e : declared_edge.Edge) : Type 0 where
  -- the edge that the mark names has this number
  pub number : edge_number layout g m ≡ Some e.id
  -- it is the edge with its number
  pub at : slice_get g.edges e.id ≡ Some (record { from = e.from; to = e.to; line = e.line })
  -- it leaves this file
  pub from : e.from ≡ file
  -- it leads to a file of the graph
  pub to : e.to < g.files

-- an edge that the mark names does not leave the file
abbrev pub IsNamedElsewhere : Layout → Graph → (file : ℕ) → Mark → Type 0
IsNamedElsewhere layout g file m = (i : ℕ) → edge_number layout g m ≡ Some i → leaves g file i ≡ false
