use Rattle.std.proofs.Common.{◌<◌, All, length, subst, sym}
use Rattle.inc_cost.specs.declared.costs.Costs.{Costs}
use Rattle.inc_answers.specs.CostViews.{AreWithin}
use Rattle.inc_answers.specs.declared.cost_groups.RankedGroups.{RankedGroups}
use Rattle.inc_answers.proofs.CostPlaces.{edges_within, groups_within, headers_within, ranked_of}
use Rattle.inc_answers.proofs.cost.rank_costs.Goals as goal

pub returns-clause-ranked : goal.returns-clause-ranked
returns-clause-ranked c =
    let costs = c.in_ok-costs.ensures in
    ranked_of c.args.graph.now c.args.sizes.now c.args.most c.args.groups.now c.args.project.now c.in_ok-ranked.ranked c.in_ok-costs.costs c.in_ok-groups.groups c.in_ok-ranked.ensures.same
    c.in_ok-ranked.ensures.groups c.in_ok-groups.ensures.costed c.in_ok-groups.ensures.ranked costs.total costs.edges costs.files c.in_ok-ranked.ensures.headers c.in_ok-ranked.ensures.edges

pub returns-clause-within : goal.returns-clause-within
returns-clause-within c =
    let graph = c.args.graph.now in
    let n = length c.args.project.now.paths in
    let r = c.in_ok-ranked.ranked in
    record {
      headers = subst (λ (k : Costs). AreWithin n k.files r.headers.items) (sym c.in_ok-ranked.ensures.same)
          (headers_within graph c.args.sizes.now c.args.most n c.in_ok-costs.costs.files r.headers.items c.requires c.in_ok-costs.ensures.files c.in_ok-ranked.ensures.headers);
      groups = subst (λ (k : RankedGroups). All (λ i. i < length k.costed.items) k.places.items) (sym c.in_ok-ranked.ensures.groups)
          (groups_within c.in_ok-groups.groups c.in_ok-groups.ensures.ranked);
      edges = subst (λ (k : Costs). AreWithin (length graph.edges) k.edges r.edges.items) (sym c.in_ok-ranked.ensures.same)
          (edges_within graph c.args.sizes.now c.args.most c.in_ok-costs.costs.edges r.edges.items c.in_ok-costs.ensures.edges c.in_ok-ranked.ensures.edges);
    }
