-- Names that are not found, and edges by their numbers, as they come into texts of JSON.
use Rattle.std.proofs.Common.{◌≡◌, ◌∙◌, ◌+◌, ◌<◌, ◌≤◌, ℕ, zero, suc, List, [], ◌∷◌, None, Some, ap, get_or, length, map, refl, sym}
use Rattle.std.specs.Prelude.{option_map, slice_get}
use Rattle.std.proofs.lemmas.Option.{slice_get-get_or, slice_get_past}
use Rattle.inc_graph.specs.IncludeGraph.{Edge}
use Rattle.inc_graph.specs.MissingLists.{Missing}
use Rattle.inc_graph.specs.Views.{numbered, numbered_from, seen_edge}
use Rattle.inc_graph.specs.declared.graphs.Edge as declared
use Rattle.inc_answers.specs.JsonAnswers.{About, missing_item}
use Rattle.inc_answers.specs.Views.{seen_name}
use Rattle.inc_answers.specs.declared.missing_names.MissingName.{MissingName}

-- a name of the graph
abbrev pub name_item : About → MissingName → List ℕ
name_item a n = missing_item a (seen_name a.graph.missing n)

pub names_map : (a : About) (ns : List MissingName) → map (name_item a) ns ≡ map (missing_item a) (map (seen_name a.graph.missing) ns)
names_map a [] = refl
names_map a (n ∷ ns) = ap (λ (items : List (List ℕ)). name_item a n ∷ items) (names_map a ns)

-- an edge at a place, without its number
edge_there : (n : ℕ) (es : List Edge) (i : ℕ) → option_map seen_edge (slice_get (numbered_from n es) i) ≡ slice_get es i
edge_there n [] i = refl
edge_there n (e ∷ es) zero = refl
edge_there n (e ∷ es) (suc i) = edge_there (n + 1) es i

pub edge_found : (es : List Edge) (xs : List declared.Edge) (i k : ℕ) (e : declared.Edge) → xs ≡ numbered es → k ≡ i → k < length xs → e ≡ get_or xs k e
    → Some (seen_edge e) ≡ slice_get es i
edge_found es xs i k e same at low is =
    ap (λ (x : declared.Edge). Some (seen_edge x)) is ∙ ap (option_map seen_edge) (sym (slice_get-get_or xs k e low))
    ∙ ap (λ (ys : List declared.Edge). option_map seen_edge (slice_get ys k)) same ∙ edge_there 0 es k ∙ ap (slice_get es) at

pub no_edge_found : (es : List Edge) (xs : List declared.Edge) (i k : ℕ) → xs ≡ numbered es → k ≡ i → length xs ≤ k → None ≡ slice_get es i
no_edge_found es xs i k same at past =
    ap (option_map seen_edge) (sym (slice_get_past xs k past))
    ∙ ap (λ (ys : List declared.Edge). option_map seen_edge (slice_get ys k)) same ∙ edge_there 0 es k ∙ ap (slice_get es) at
