use Rattle.std.proofs.Common.{Some, sym, ap, ◌∙◌}
use Rattle.std.proofs.lemmas.Bool.{eqb-true}
use Rattle.inc_graph.specs.Near.{IsListed}
use Rattle.inc_graph.proofs.NamedEdges.{edge_hinted, edge_listed, place_listed, leads_within}
use Rattle.inc_graph.proofs.naming.edge_found.Goals as goal

pub returns-then-edge-line-clause-place : goal.returns-then-edge-line-clause-place
returns-then-edge-line-clause-place c =
    let listed : IsListed c.args.graph.now c.in-Some.edge = rw c.in-Some.is at c.requires.hint in
    edge_hinted c.args.graph.now c.args.file c.args.line c.in-Some.edge c.edges-edges.ensures.sound listed (eqb-true c.in-Some.edge.from c.args.file (sym c.eq.ensures ∙ c.if-eq.true)) c.if-edge-line.true

pub returns-then-edge-line-clause-edge : goal.returns-then-edge-line-clause-edge
returns-then-edge-line-clause-edge c = rw c.in-Some.is at c.requires.hint

pub returns-then-edge-line-clause-to : goal.returns-then-edge-line-clause-to
returns-then-edge-line-clause-to c =
    let listed : IsListed c.args.graph.now c.in-Some.edge = rw c.in-Some.is at c.requires.hint in leads_within c.args.graph.now c.in-Some.edge c.edges-edges.ensures.sound listed

pub bounds-edges-index : goal.bounds-edges-index
bounds-edges-index c =
    place_listed c.args.graph.now c.edges-edges.result.now (Some c.args.file) c.args.line c.in_ok-id.id c.index.result c.edges-edges.ensures.edges (sym c.in_ok-id.ensures) c.index.ensures

pub returns-clause-place : goal.returns-clause-place
returns-clause-place c =
    let low = place_listed c.args.graph.now c.edges-edges.result.now (Some c.args.file) c.args.line c.in_ok-id.id c.index.result c.edges-edges.ensures.edges (sym c.in_ok-id.ensures) c.index.ensures in
    let number = (edge_listed c.args.graph.now c.index.result c.edges-edges.result.now c.index-edges-index.result c.edges-edges.ensures.edges low c.index-edges-index.is).1 in
    ap Some (number ∙ c.index.ensures) ∙ c.in_ok-id.ensures

pub returns-clause-edge : goal.returns-clause-edge
returns-clause-edge c =
    let low = place_listed c.args.graph.now c.edges-edges.result.now (Some c.args.file) c.args.line c.in_ok-id.id c.index.result c.edges-edges.ensures.edges (sym c.in_ok-id.ensures) c.index.ensures in
    (edge_listed c.args.graph.now c.index.result c.edges-edges.result.now c.index-edges-index.result c.edges-edges.ensures.edges low c.index-edges-index.is).0

pub returns-clause-to : goal.returns-clause-to
returns-clause-to c =
    let low = place_listed c.args.graph.now c.edges-edges.result.now (Some c.args.file) c.args.line c.in_ok-id.id c.index.result c.edges-edges.ensures.edges (sym c.in_ok-id.ensures) c.index.ensures in
    leads_within c.args.graph.now c.index-edges-index.result c.edges-edges.ensures.sound
    (edge_listed c.args.graph.now c.index.result c.edges-edges.result.now c.index-edges-index.result c.edges-edges.ensures.edges low c.index-edges-index.is).0
