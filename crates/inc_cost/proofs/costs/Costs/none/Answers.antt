use Rattle.std.proofs.Common.{length, refl, ap, ◌∙◌}
use Rattle.inc_graph.proofs.NumberedEdges.{length-numbered_from}
use Rattle.inc_cost.proofs.CostLemmas.{costs_none}
use Rattle.inc_cost.proofs.costs.Costs.none.Goals as goal

pub returns-clause-costs : goal.returns-clause-costs
returns-clause-costs c =
    let edges = ap (λ l. length l) c.edges.ensures.edges ∙ length-numbered_from 0 c.args.graph.now.edges in
    let files = c.files.ensures.files in
    costs_none c.args.graph.now c.args._weights.now (record { total = 0; edges = c.in_ok-edges.edges; files = c.in_ok-files.files }) refl (c.in_ok-edges.ensures.bytes ∙ edges) (c.in_ok-edges.ensures.counts ∙ edges)
    (c.in_ok-files.ensures.bytes ∙ files) (c.in_ok-files.ensures.counts ∙ files) c.in_ok-edges.ensures.below c.in_ok-files.ensures.below
