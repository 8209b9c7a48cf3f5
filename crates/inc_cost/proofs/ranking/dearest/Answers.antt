use Rattle.std.proofs.Common.{◌≡◌, take, length, List, ℕ, ◌∙◌, subst}
use Rattle.std.proofs.lemmas.List.Sorted.{IsNonDecreasingBy-from_sort}
use Rattle.inc_cost.specs.Ranking.{ArePlacesOf}
use Rattle.inc_cost.proofs.RankLemmas.{dearest_are}
use Rattle.inc_cost.proofs.ranking.dearest.Goals as goal

pub returns : goal.returns
returns c =
    let sorted = c.sort_unstable.new.self.items in
    let cut : c.deref.result.now ≡ take c.args.most c.sort_unstable.new.self.items = c.deref.ensures.value ∙ c.truncate.ensures.items in
    dearest_are c.args.amounts.now c.in_ok-keys.keys.items sorted c.args.most c.in_ok-places.places.items c.requires (λ i. (c.type_inv.amounts i).fits) c.in_ok-keys.ensures c.sort_unstable.ensures.permutation
    (IsNonDecreasingBy-from_sort (λ x. x) sorted c.sort_unstable.ensures.sorted) (subst (λ (l : List ℕ). ArePlacesOf l (length l) c.in_ok-places.places.items) cut c.in_ok-places.ensures)
