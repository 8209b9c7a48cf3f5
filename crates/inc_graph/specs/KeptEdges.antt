-- How the edges that leave kept files are given the amount 0, one edge after the other.
use Rattle.std.specs.Prelude.{ℕ, Bool, List, ◌++◌, if◌then◌else◌, drop, map, take}
use Rattle.inc_graph.specs.IncludeGraph.{Edge}
use Rattle.inc_graph.specs.MarkedEdges.{is_kept}

-- the amounts of edges, of which so many have been gone over
abbrev pub kept_up_to : (kept : List Bool) → (Edge → ℕ) → List Edge → (done : ℕ) → List ℕ
kept_up_to kept f es done = map (λ e. if is_kept kept e then 0 else f e) (take done es) ++ map f (drop done es)
