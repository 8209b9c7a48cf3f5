-- The shortest chains of a graph, by their last edges or by their sources, made one at a time.
use Rattle.std.specs.Prelude.{ℕ, List}
use Rattle.inc_graph.specs.IncludeGraph.{Graph}
use Rattle.inc_graph.specs.Reaching.{Reaching}

-- a graph, the chain that was made last, and those that are left to make
pub record ChainList : Type 0 where
  pub graph : Graph
  pub chain : List ℕ
  pub left : List (List ℕ)

-- a graph, the source at hand with its chain, the chain that was made last, and the sources that are left
pub record ReachingList : Type 0 where
  pub graph : Graph
  pub at : Reaching
  pub made : List ℕ
  pub left : List Reaching
