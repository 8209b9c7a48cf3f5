-- Costs and what is printed of them, as the code holds them.
use Rattle.std.specs.Prelude.{ℕ, ◌<◌, List, length}
use Rattle.std.specs.List.{All}
use Rattle.inc_lookup.specs.Projects.{Layout}
use Rattle.inc_graph.specs.IncludeGraph.{Graph}
use Rattle.inc_cost.specs.declared.costs.Amounts.{Amounts as AmountsValue}
use Rattle.inc_answers.specs.CostText.{Amounts, Ranked}
use Rattle.inc_answers.specs.declared.cost.Ranked.{Ranked as RankedValue}

abbrev pub seen_amounts : AmountsValue → Amounts
seen_amounts a = record { bytes = a.bytes.items; counts = a.counts.items }

abbrev pub seen_ranked : RankedValue → Ranked
seen_ranked r = record {
  total = r.costs.total;
  brought = seen_amounts r.costs.files;
  headers = r.headers.items;
  costed = r.groups.costed.items;
  groups = r.groups.places.items;
  saved = seen_amounts r.costs.edges;
  edges = r.edges.items;
}

-- of so many things there are amounts, and these places are those of some
pub record AreWithin (count : ℕ) (a : AmountsValue) (places : List ℕ) : Type 0 where
  pub bytes : All (λ i. i < length a.bytes.items) places
  pub counts : All (λ i. i < length a.counts.items) places
  pub things : All (λ i. i < count) places

-- what is printed is of these files, edges and groups
pub record IsInside (layout : Layout) (g : Graph) (r : RankedValue) : Type 0 where
  pub headers : AreWithin (length layout.paths) r.costs.files r.headers.items
  pub groups : All (λ i. i < length r.groups.costed.items) r.groups.places.items
  pub edges : AreWithin (length g.edges) r.costs.edges r.edges.items
