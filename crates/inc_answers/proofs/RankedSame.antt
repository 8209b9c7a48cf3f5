-- What is ranked goes by the weights of files that are met alone.
use Rattle.std.proofs.Common.{◌≡◌, ℕ, List, []}
use Rattle.std.specs.Prelude.{slice_index_or}
use Rattle.inc_lookup.specs.Projects.{Layout}
use Rattle.inc_graph.specs.IncludeGraph.{Graph}
use Rattle.inc_cost.specs.Costs.{Group}
use Rattle.inc_cost.proofs.SameWeights.{IsMet, brought_same, kept_out_same, saved_same, total_same}
use Rattle.inc_answers.specs.CostGroups as costed
use Rattle.inc_answers.specs.CostGroups.{Costed, AreCosted}
use Rattle.inc_answers.specs.CostText.{IsRanked, Ranked}

module _ (layout : Layout) (g : Graph) (weights others : List ℕ) (same : (f : ℕ) → IsMet g f → slice_index_or weights f 0 ≡ slice_index_or others f 0) where
  costed_same : (groups : List Group) (cs : List Costed) → AreCosted layout g weights groups cs → AreCosted layout g others groups cs
  costed_same _ _ costed.no_group = costed.no_group
  costed_same _ _ (costed.and_group {x = x} {c = c} {xs = xs} {cs = cs} is rest) =
      let costs = is.costs in
      costed.and_group (record { name = is.name; costs = (costs.0, costs.1, kept_out_same g weights others same costs.0 c.bytes c.count costs.2); cut = is.cut })
      (costed_same xs cs rest)

  pub ranked_same : (most : ℕ) (groups : List Group) (r : Ranked) → IsRanked weights most groups layout g r → IsRanked others most groups layout g r
  ranked_same most groups r ranked = record {
    total = total_same g weights others same [] r.total ranked.total;
    brought = brought_same g weights others same r.brought.bytes r.brought.counts ranked.brought;
    headers = ranked.headers;
    costed = costed_same groups r.costed ranked.costed;
    ranked = ranked.ranked;
    saved = saved_same g weights others same r.saved.bytes r.saved.counts ranked.saved;
    edges = ranked.edges;
  }
