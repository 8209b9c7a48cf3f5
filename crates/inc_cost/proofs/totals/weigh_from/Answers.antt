use Rattle.std.proofs.Common.{sym, subst}
use Rattle.inc_cost.specs.Costs.{IsWeight}
use Rattle.inc_cost.proofs.ReachedFiles.{reached_weight}
use Rattle.inc_cost.proofs.totals.weigh_from.Goals as goal

pub returns-clause-weight : goal.returns-clause-weight
returns-clause-weight c =
    λ set are. subst (λ n. IsWeight c.args.graph.now c.args.weights.now set c.args.source n) (sym c.weigh.ensures.weight)
    (reached_weight c.args.graph.now set c.args.flags.now c.args.source c.in_ok-search.search are c.in_ok-search.ensures c.args.weights.now)
