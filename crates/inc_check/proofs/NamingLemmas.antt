-- The edges that marks name: by the file of the path, and by the line among the edges that leave it.
use Rattle.std.proofs.Common.{◌≡◌, ℕ, ◌<◌, Bool, true, false, List, [], ◌∷◌, ◌++◌, Option, Some, None, length, refl, sym, ap, ◌∙◌}
use Rattle.std.specs.Prelude.{◌&&◌}
use Rattle.std.specs.List.{list_all}
use Rattle.std.specs.Option.{option_map_or}
use Rattle.std.proofs.lemmas.Bool.{and_from}
use Rattle.std.proofs.lemmas.List.Folds.{list_all-append}
use Rattle.std.proofs.lemmas.List.Elements.{All-nil, All-push, filter_map-append}
use Rattle.inc_lookup.specs.Projects.{Layout}
use Rattle.inc_graph.specs.IncludeGraph.{Graph}
use Rattle.inc_graph.specs.Marks.{Mark}
use Rattle.inc_graph.specs.MarkedEdges.{edge_number}
use Rattle.inc_check.specs.Certificates.{edge_numbers}
use Rattle.inc_check.specs.Checking.{is_named, AreNamed}
use Rattle.inc_check.proofs.VerdictLemmas.{named, numbers_cons}

---- the edges of marks

and_false : (b : Bool) → (b && false) ≡ false
and_false true = refl
and_false false = refl

pub none_named : (layout : Layout) (g : Graph) → AreNamed layout g [] []
none_named layout g = record { all = refl; are = refl; within = All-nil (λ i. i < length g.edges) }

-- one more mark, which names an edge
pub named_push : (layout : Layout) (g : Graph) (marks : List Mark) (m : Mark) (i : ℕ) (old : List ℕ) → edge_number layout g m ≡ Some i → AreNamed layout g marks old → AreNamed layout g (marks ++ m ∷ []) (old ++ i ∷ [])
named_push layout g marks m i old is so_far =
    let one : is_named layout g m ≡ true = ap (λ (o : Option ℕ). option_map_or (λ (n : ℕ). true) o false) is in
    let number : edge_numbers layout g (m ∷ []) ≡ i ∷ [] = numbers_cons layout g m [] (Some i) is in
    record {
      all = list_all-append (is_named layout g) marks (m ∷ []) ∙ ap (λ b. b && list_all (is_named layout g) (m ∷ [])) so_far.all ∙ and_from (is_named layout g m) true one refl;
      are = ap (λ (es : List ℕ). es ++ i ∷ []) so_far.are ∙ ap (λ (es : List ℕ). edge_numbers layout g marks ++ es) (sym number) ∙ sym (filter_map-append (edge_number layout g) marks (m ∷ []));
      within = All-push (λ j. j < length g.edges) old i so_far.within (named layout g m i is).0;
    }

-- a mark that names none is among them
pub unnamed_push : (layout : Layout) (g : Graph) (marks : List Mark) (m : Mark) → edge_number layout g m ≡ None → list_all (is_named layout g) (marks ++ m ∷ []) ≡ false
unnamed_push layout g marks m none =
    list_all-append (is_named layout g) marks (m ∷ [])
    ∙ ap (λ b. list_all (is_named layout g) marks && (b && true)) (ap (λ (o : Option ℕ). option_map_or (λ (n : ℕ). true) o false) none)
    ∙ and_false (list_all (is_named layout g) marks)

pub unnamed_more : (layout : Layout) (g : Graph) (marks more : List Mark) → list_all (is_named layout g) marks ≡ false → list_all (is_named layout g) (marks ++ more) ≡ false
unnamed_more layout g marks more none = list_all-append (is_named layout g) marks more ∙ ap (λ b. b && list_all (is_named layout g) more) none
