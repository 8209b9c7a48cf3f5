-- Which sources of a graph reach a header, each by the first of the shortest chains that begin there.
use Rattle.std.specs.Prelude.{ℕ, not, List, [], ◌∷◌, IsTrue}
use Rattle.inc_graph.specs.Chains.{is_chain, IsShortest}
use Rattle.inc_graph.specs.IncludeGraph.{Graph}

-- the graph with this source alone
abbrev pub alone : (source : ℕ) → Graph → Graph
alone source g = record g { sources = source ∷ [] }

-- a source, and a chain that begins there
pub record Reaching : Type 0 where
  pub source : ℕ
  pub chain : List ℕ

-- those of these sources that reach a header, in order, each with the first of its shortest chains
pub data AreReaching (g : Graph) : (sources : List ℕ) → List Reaching → Type 0 where
  no_more : AreReaching g [] []
  reaches : {source : ℕ} {sources : List ℕ} {chain : List ℕ} {rest : List Reaching} →
      IsShortest (alone source g) chain → AreReaching g sources rest → AreReaching g (source ∷ sources) (record { source = source; chain = chain } ∷ rest)
  reaches_none : {source : ℕ} {sources : List ℕ} {rest : List Reaching} →
      ((chain : List ℕ) → IsTrue (not (is_chain (alone source g) chain))) → AreReaching g sources rest → AreReaching g (source ∷ sources) rest
