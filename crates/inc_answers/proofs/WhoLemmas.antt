-- The edges of chains of sources are those of the graph.
use Rattle.std.proofs.Common.{ℕ, ◌<◌, List, [], ◌∷◌, length, arith}
use Rattle.std.specs.List.{All}
use Rattle.std.proofs.lemmas.List.Elements.{All-cons}
use Rattle.inc_graph.specs.IncludeGraph.{Graph}
use Rattle.inc_graph.specs.Reaching.{Reaching, AreReaching, alone, no_more, reaches, reaches_none}
use Rattle.inc_graph.proofs.Walks.{chain-within}

-- the edges of its chain are edges of the graph
abbrev pub IsWithin : Graph → Reaching → Type 0
IsWithin g r = All (λ i. i < length g.edges) r.chain

pub reaching-within : (g : Graph) (sources : List ℕ) (rs : List Reaching) → AreReaching g sources rs → All (IsWithin g) rs
reaching-within g [] [] no_more = λ k d low. absurd (omega (arith, low))
reaching-within g (s ∷ ss) (r ∷ rs) (reaches first more) = All-cons (IsWithin g) r rs (chain-within (alone s g) r.chain first.real) (reaching-within g ss rs more)
reaching-within g (s ∷ ss) rs (reaches_none none more) = reaching-within g ss rs more
reaching-within g [] (r ∷ rs) h = elim h [ ]
