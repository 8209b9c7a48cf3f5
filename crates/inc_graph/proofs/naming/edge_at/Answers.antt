use Rattle.std.proofs.Common.{◌≡◌, None, rules, ◌∙◌}
use Rattle.inc_graph.proofs.NamedEdges.{leaving_rise, at_partition, edge_there, edge_elsewhere, no_edge_left}
use Rattle.inc_graph.proofs.naming.edge_at.Goals as goal

pub edges_before-place-requires : goal.edges_before-place-requires
edges_before-place-requires c = leaving_rise c.args.graph.now c.args.file c.leaving-edges.result.now c.files-sound.ensures.sound c.leaving-edges.ensures

pub returns-in_err-edge : goal.returns-in_err-edge
returns-in_err-edge c =
    let none : c.from_residual.result ≡ None = search rules in
    none ∙ no_edge_left c.args.line c.leaving-edges.result.now c.edges_before-place.result _ c.in_err-edge.ensures.lookup.3
    (at_partition c.args.graph.now c.args.file c.args.line c.edges_before-place.result c.leaving-edges.result.now c.files-sound.ensures.sound c.leaving-edges.ensures c.edges_before-place.ensures.bound c.edges_before-place.ensures.point)

pub returns-then-edge-line : goal.returns-then-edge-line
returns-then-edge-line c =
    edge_there c.args.line c.leaving-edges.result.now c.edges_before-place.result c.in_ok-edge.edge.now _ c.in_ok-edge.ensures.lookup.3.0 c.in_ok-edge.ensures.lookup.1
    (at_partition c.args.graph.now c.args.file c.args.line c.edges_before-place.result c.leaving-edges.result.now c.files-sound.ensures.sound c.leaving-edges.ensures c.edges_before-place.ensures.bound c.edges_before-place.ensures.point) c.if-edge-line.true

pub returns-else-edge-line : goal.returns-else-edge-line
returns-else-edge-line c =
    edge_elsewhere c.args.line c.leaving-edges.result.now c.edges_before-place.result c.in_ok-edge.edge.now _ c.in_ok-edge.ensures.lookup.3.0 c.in_ok-edge.ensures.lookup.1
    (at_partition c.args.graph.now c.args.file c.args.line c.edges_before-place.result c.leaving-edges.result.now c.files-sound.ensures.sound c.leaving-edges.ensures c.edges_before-place.ensures.bound c.edges_before-place.ensures.point) c.if-edge-line.false
