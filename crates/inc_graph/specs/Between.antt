-- The part of a graph that leads from some of its files to others: with these as sources and headers its chains are those of the graph.
use Rattle.std.specs.Prelude.{ℕ, Bool, false, List, [], Option, filter, length, map, not, slice_get, slice_index_or}
use Rattle.std.specs.List.{range_with_len}
use Rattle.std.specs.Option.{option_map_or}
use Rattle.inc_graph.specs.declared.graphs.Edge as declared
use Rattle.inc_graph.specs.IncludeGraph.{Edge, Graph}
use Rattle.inc_graph.specs.Members.{is_member}
use Rattle.inc_graph.specs.Views.{seen_edge}

-- the edge leaves none of the files
abbrev pub leaves_none : (files : List ℕ) → Edge → Bool
leaves_none files e = not (is_member e.from files)

-- the edges that leave none of the headers; what the graph has beside edges is left out
abbrev pub between : (from to : List ℕ) → Graph → Graph
between from to g = record {
  files = g.files;
  sources = from;
  headers = to;
  edges = filter (leaves_none to) g.edges;
  missing = [];
  blockers = [];
  definitions = [];
}

-- the numbers of these edges in the graph
abbrev pub numbers_between : (to : List ℕ) → Graph → List ℕ
numbers_between to g = filter (λ i. option_map_or (leaves_none to) (slice_get g.edges i) false) (range_with_len 0 (length g.edges))

-- a walk of the part by these numbers
abbrev pub in_whole : (to : List ℕ) → Graph → (walk : List ℕ) → List ℕ
in_whole to g walk = map (λ i. slice_index_or (numbers_between to g) i 0) walk

-- the edges with these numbers, whatever they are in another graph
abbrev pub edges_at : Graph → (walk : List ℕ) → List (Option Edge)
edges_at g walk = map (slice_get g.edges) walk

-- the edges that leave none of the files, with their numbers
abbrev pub kept_of : (files : List ℕ) → List declared.Edge → List declared.Edge
kept_of files edges = filter (λ e. leaves_none files (seen_edge e)) edges
