use Rattle.inc_graph.proofs.EdgePlaces.{targets_listed}
use Rattle.inc_graph.proofs.two_way.TwoWayGraph.list_targets.Goals as goal

pub invariant_of-self : goal.invariant_of-self
invariant_of-self c = (c.self.invariant.0, targets_listed c.self.inside.graph.now.edges c.edges.result.now c.in_ok-self-inside.field-0.items c.edges.ensures.edges c.in_ok-self-inside.ensures)
