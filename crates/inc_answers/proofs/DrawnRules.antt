-- The chains that break rules, as they are drawn.
use Rattle.std.proofs.Common.{◌≡◌, ◌∙◌, ℕ, ◌<◌, List, [], ◌∷◌, ◌++◌, ap, ap₂, get_or, length, map, refl, sym}
use Rattle.std.specs.Prelude.{flat_map}
use Rattle.std.specs.List.{All, concat}
use Rattle.std.proofs.lemmas.List.Folds.{concat-append}
use Rattle.std.proofs.lemmas.List.Elements.{All-cons, All-head, All-nil, All-tail}
use Rattle.inc_graph.specs.IncludeGraph.{Graph}
use Rattle.inc_answers.specs.RulesDocument.{all_chains}
use Rattle.inc_rules.specs.Judging.{IsWithin}
use Rattle.inc_rules.specs.Views.{seen_judged}
use Rattle.inc_rules.specs.declared.judging.Judged.{Judged}

concat-map : {X : Type 0} (f : X → List ℕ) (xs : List X) → flat_map f xs ≡ concat (map f xs)
concat-map f [] = refl
concat-map f (x ∷ xs) = ap (λ l. f x ++ l) (concat-map f xs)

pub drawn_chains : (js : List Judged) → flat_map (λ (j : Judged). flat_map (λ c. c.items) j.chains.items) js ≡ concat (all_chains (map seen_judged js))
drawn_chains [] = refl
drawn_chains (j ∷ js) =
    ap₂ (λ (a b : List ℕ). a ++ b) (concat-map (λ c. c.items) j.chains.items) (drawn_chains js)
    ∙ sym (concat-append (map (λ c. c.items) j.chains.items) (all_chains (map seen_judged js)))

-- what holds of all that is seen holds of what is seen so
all_seen : {X Y : Type 0} (P : Y → Type 0) (f : X → Y) (xs : List X) → All P (map f xs) → All (λ x. P (f x)) xs
all_seen P f [] all = All-nil (λ x. P (f x))
all_seen P f (x ∷ xs) all = All-cons (λ y. P (f y)) x xs (All-head P (f x) (map f xs) all) (all_seen P f xs (All-tail P (f x) (map f xs) all))

-- their edges are those of the graph
pub low_chains : (g : Graph) (js : List Judged) → All (λ (j : Judged). IsWithin g (seen_judged j)) js
    → All (λ (j : Judged). All (λ c. All (λ i. i < length g.edges) c.items) j.chains.items) js
low_chains g js within k d low = all_seen (λ (l : List ℕ). All (λ i. i < length g.edges) l) (λ c. c.items) (get_or js k d).chains.items (within k d low).edges
