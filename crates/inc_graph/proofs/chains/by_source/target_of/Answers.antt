use Rattle.inc_graph.proofs.BackSearch.{edge_low}
use Rattle.inc_graph.proofs.NearestWalks.{target_read}
use Rattle.inc_graph.proofs.chains.by_source.target_of.Goals as goal

pub bounds-edges-index : goal.bounds-edges-index
bounds-edges-index c = edge_low c.args.graph.now c.args.edge c.index.result c.edges.result.now c.edges.ensures.edges c.requires c.index.ensures

pub returns-clause-target : goal.returns-clause-target
returns-clause-target c =
    (target_read c.args.graph.now c.args.edge c.index.result c.edges.result.now c.index-edges-index.result c.edges.ensures.sound c.edges.ensures.edges c.requires c.index.ensures c.index-edges-index.is).0

pub returns-clause-within : goal.returns-clause-within
returns-clause-within c =
    (target_read c.args.graph.now c.args.edge c.index.result c.edges.result.now c.index-edges-index.result c.edges.ensures.sound c.edges.ensures.edges c.requires c.index.ensures c.index-edges-index.is).1
