use Rattle.std.proofs.Common.{length, ap, arith}
use Rattle.inc_graph.proofs.NamedEdges.{edge_listed}
use Rattle.inc_graph.proofs.NumberedEdges.{length-numbered_from}
use Rattle.inc_graph.proofs.naming.edge_numbered.Goals as goal

pub returns-then-number-edges-clause-listed : goal.returns-then-number-edges-clause-listed
returns-then-number-edges-clause-listed c =
    (edge_listed c.args.graph.now c.args.number c.edges-edges.result.now c.index-edges-number.result c.edges-edges.ensures.edges c.if-number-edges.true c.index-edges-number.is).0

pub returns-then-number-edges-clause-number : goal.returns-then-number-edges-clause-number
returns-then-number-edges-clause-number c =
    (edge_listed c.args.graph.now c.args.number c.edges-edges.result.now c.index-edges-number.result c.edges-edges.ensures.edges c.if-number-edges.true c.index-edges-number.is).1

pub returns-else-number-edges-clause-number : goal.returns-else-number-edges-clause-number
returns-else-number-edges-clause-number c =
    let count = length-numbered_from 0 c.args.graph.now.edges in
    let long = ap length c.edges-edges.ensures.edges in
    omega (arith, c.if-number-edges.false, count, long)
