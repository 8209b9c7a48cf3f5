-- What is printed for each of a list of numbers.
use Rattle.std.proofs.Common.{◌≡◌, ℕ, zero, suc, ◌+◌, ◌<◌, List, [], ◌∷◌, ◌++◌, arith, get_or, length, take}
use Rattle.std.specs.Prelude.{flat_map}
use Rattle.std.proofs.lemmas.List.{get_or_default}
use Rattle.inc_graph.specs.IncludeGraph.{Edge}
use Rattle.inc_graph.specs.Views.{numbered_from}
use Rattle.inc_graph.specs.declared.graphs.Edge as declared
use Rattle.inc_answers.proofs.WhyLemmas.{flat_map-more}

-- one number more, which is read with any default
pub flat_map-one : {A : Type 0} (f : ℕ → List A) (xs : List ℕ) (i d : ℕ) → i < length xs → flat_map f (take (i + 1) xs) ≡ flat_map f (take i xs) ++ f (get_or xs i d)
flat_map-one f xs i d low = flat_map-more f xs i (get_or xs i d) low (get_or_default xs i d (get_or xs i d) low)

-- the edge at a place has that number
pub id_at : (n : ℕ) (edges : List Edge) (i : ℕ) (d : declared.Edge) → i < length edges → (get_or (numbered_from n edges) i d).id ≡ n + i
id_at n [] i d low = absurd (omega arith)
id_at n (e ∷ es) zero d low = omega arith
id_at n (e ∷ es) (suc i) d low = let rest = id_at (n + 1) es i d (omega arith) in omega arith
