use Rattle.std.proofs.Common.{rules, Some, length, sym, ap, arith}
use Rattle.inc_graph.specs.Views.{seen_edge}
use Rattle.inc_graph.proofs.NumberedEdges.{length-numbered_from}
use Rattle.inc_graph.proofs.Walks.{inner_edge}
use Rattle.inc_check.proofs.MarkLemmas.{edge_read, edge_mark-is, edge_mark-short}
use Rattle.inc_check.proofs.certifying.edge_mark.Goals as goal

pub bounds-edges-index : goal.bounds-edges-index
bounds-edges-index c =
    omega (arith, ap length c.edges.ensures.edges, length-numbered_from 0 c.args.graph.now.edges, c.index.ensures, c.requires.edge)

pub path-requires : goal.path-requires
path-requires c =
    let at = edge_read c.args.graph.now c.edges.result.now c.args.edge c.index.result c.index-edges-index.result c.edges.ensures.edges c.index.ensures c.requires.edge c.index-edges-index.is in
    let inner = inner_edge c.args.graph.now c.args.edge (seen_edge c.index-edges-index.result) c.edges.ensures.sound at in
    omega (arith, inner.from_within, c.requires.files)

pub returns-clause-mark : goal.returns-clause-mark
returns-clause-mark c =
    let at = edge_read c.args.graph.now c.edges.result.now c.args.edge c.index.result c.index-edges-index.result c.edges.ensures.edges c.index.ensures c.requires.edge c.index-edges-index.is in
    edge_mark-is c.args.project.now c.args.graph.now c.args.edge c.index-edges-index.result c.path.result.now c.new.result at c.path.ensures.path (ap (λ m. Some m) (sym c.new.ensures))

pub returns-clause-short : goal.returns-clause-short
returns-clause-short c =
    let e = c.index-edges-index in
    let at =
    edge_read c.args.graph.now c.edges.result.now c.args.edge c.index.result e.result c.edges.ensures.edges
    c.index.ensures c.requires.edge e.is in
    let path = c.path.ensures in
    edge_mark-short c.args.graph.now c.args.edge e.result c.path.result.now c.new.result c.edges.ensures.sound
    c.requires.edge at path.clean path.short (search rules) c.new.ensures
