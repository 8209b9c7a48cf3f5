-- Edges, graphs and counted chains of the program as the definitions see them.
use Rattle.std.specs.Prelude.{◌≡◌, ℕ, ◌+◌, List, [], ◌∷◌, map}
use Rattle.std.specs.List.Sorted.{IsNonDecreasing}
use Rattle.inc_graph.specs.declared.graphs.Edge as declared
use Rattle.inc_graph.specs.declared.graphs.Parts.{Parts}
use Rattle.inc_graph.specs.declared.fixed.Counted as declared_counted
use Rattle.inc_graph.specs.Cuts.{Counted}
use Rattle.inc_graph.specs.IncludeGraph.{Edge, Graph, IsSound}

-- an edge without its number
abbrev pub seen_edge : declared.Edge → Edge
seen_edge e = record { from = e.from; to = e.to; line = e.line }

-- edges with their numbers, the first with this one
abbrev pub numbered_from : ℕ → List Edge → List declared.Edge
numbered_from n [] = []
numbered_from n (e ∷ es) = record { id = n; from = e.from; to = e.to; line = e.line } ∷ numbered_from (n + 1) es

abbrev pub numbered : List Edge → List declared.Edge
numbered es = numbered_from 0 es

-- the graph that these are the parts of
abbrev pub seen_parts : Parts → Graph
seen_parts p = record {
  files = p.files;
  sources = p.sources;
  headers = p.headers;
  edges = map seen_edge p.edges.items;
  missing = p.missing;
  blockers = p.blockers.items;
  definitions = p.definitions.items;
}

-- the parts of a graph: its edges have their places as numbers and are in order of the files that they leave
pub record AreParts (p : Parts) : Type 0 where
  pub sound : IsSound (seen_parts p)
  pub numbers : p.edges.items ≡ numbered (map seen_edge p.edges.items)
  pub order : IsNonDecreasing (map (λ (e : declared.Edge). e.from) p.edges.items)

-- a counted chain of the program as the definitions see it
abbrev pub seen_counted : declared_counted.Counted → Counted
seen_counted c = record { chain = c.chain.edges; count = c.count }
