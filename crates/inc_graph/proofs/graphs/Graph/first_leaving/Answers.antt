use Rattle.std.proofs.Common.{sym, subst, ◌<◌}
use Rattle.std.specs.Prelude.{map}
use Rattle.inc_graph.specs.IncludeGraph.{Graph}
use Rattle.inc_graph.specs.Indexes.{edges_leaving, AreFollowing}
use Rattle.inc_graph.specs.Views.{seen_edge}
use Rattle.inc_graph.proofs.EdgePlaces.{first_follows}
use Rattle.inc_graph.proofs.graphs.Graph.first_leaving.Goals as goal

pub returns : goal.returns
returns c =
    let parts = c.self.inside.parts in
    let low : c.args.file < parts.files = subst (λ (g : Graph). c.args.file < g.files) (sym c.self.view_is) c.requires in
    subst (λ (g : Graph). AreFollowing c.index-2.result.now (edges_leaving g.edges c.args.file)) c.self.view_is
    (first_follows (map seen_edge parts.edges.items) parts.edges.items c.self.inside.leaving.items parts.files c.args.file c.index.result c.index-2.result.now c.self.invariant.0.numbers c.self.invariant.1 low
    c.index.ensures c.index-2.ensures)
