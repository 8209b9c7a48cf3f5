use Rattle.std.proofs.Common.{◌≡◌, ℕ, ◌<◌, List, [], ◌∷◌, length, true, ap, subst, ◌∙◌}
use Rattle.std.specs.Prelude.{nat_lt}
use Rattle.std.specs.List.{All, list_all}
use Rattle.std.proofs.lemmas.Bool.{and_parts, ltb-true}
use Rattle.std.proofs.lemmas.List.Elements.{All-nil, All-cons}
use Rattle.inc_graph.specs.IncludeGraph.{Edge}
use Rattle.inc_graph.specs.Views.{numbered}
use Rattle.inc_graph.specs.declared.graphs.Edge as declared
use Rattle.inc_graph.proofs.NumberedEdges.{length-numbered_from}

within : (n : ℕ) (edges : List ℕ) → list_all (λ i. nat_lt i n) edges ≡ true → All (λ i. i < n) edges
within n [] passed = All-nil (λ i. i < n)
within n (e ∷ es) passed =
    let parts = and_parts (nat_lt e n) (list_all (λ i. nat_lt i n) es) passed in
    All-cons (λ i. i < n) e es (ltb-true e n parts.0) (within n es parts.1)

-- edges that pass the test of how many were read
pub edges_within : (all : List Edge) (read : List declared.Edge) (edges : List ℕ) → read ≡ numbered all
    → list_all (λ i. nat_lt i (length read)) edges ≡ true → All (λ i. i < length all) edges
edges_within all read edges same passed =
    subst (λ n. All (λ i. i < n) edges) (ap (λ (l : List declared.Edge). length l) same ∙ length-numbered_from 0 all) (within (length read) edges passed)
