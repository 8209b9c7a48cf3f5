use Rattle.std.proofs.Common.{rules}
use Rattle.inc_graph.proofs.EdgeCostLemmas.{lists_fit, none_taken}
use Rattle.inc_graph.proofs.edge_costs.EdgeCosts.new.Goals as goal

pub returns-clause-fitted : goal.returns-clause-fitted
returns-clause-fitted c =
    let fit = lists_fit c.args.graph.now c.edges-count.result.now c.in_ok-vec.field-0.items c.in_ok-vec-2.field-0.items c.edges-count.ensures.edges
    (c.in_ok-vec.ensures.items_if_clones_equal (search rules)) (c.in_ok-vec-2.ensures.items_if_clones_equal (search rules)) in
    record { near = c.start.ensures; entered = c.in_ok-entered_counts.ensures; long = fit.0; within = fit.1; given = fit.2 }

pub returns-clause-none : goal.returns-clause-none
returns-clause-none c layout =
    none_taken layout c.args.graph.now c.edges-count.result.now c.in_ok-vec.field-0.items c.in_ok-vec-2.field-0.items c.with_hasher.result.keys c.edges-count.ensures.edges
    (c.in_ok-vec.ensures.items_if_clones_equal (search rules)) (c.in_ok-vec-2.ensures.items_if_clones_equal (search rules)) c.with_hasher.ensures.empty
