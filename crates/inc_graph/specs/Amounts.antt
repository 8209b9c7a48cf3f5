-- How the amounts of edges are kept.
use Rattle.std.specs.Prelude.{ℕ, List, [], ◌∷◌, replicate}

-- the amounts of so many edges, of which none are kept where each is 1
abbrev pub amounts_in : (edges : ℕ) → List ℕ → List ℕ
amounts_in edges [] = replicate edges 1
amounts_in edges (n ∷ ns) = n ∷ ns
