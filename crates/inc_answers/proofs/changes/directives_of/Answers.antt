use Rattle.std.proofs.Common.{◌<◌, length, subst, sym}
use Rattle.inc_answers.proofs.CutDirectives.{directives_more}
use Rattle.inc_answers.proofs.changes.directives_of.Goals as goal

pub loop-edge-preserved : goal.loop-edge-preserved
loop-edge-preserved c =
    let low = subst (λ i. i < length c.args.graph.now.edges) (sym c.edge-item.is) (c.requires _ c.edge-item.result c.loop-edge-test.true) in
    rw (directives_more c.args.graph.now c.args.edges.now c.loop-edge.edge-index c.edge-item.result c.edge_at-found.result c.loop-edge-test.true c.edge-item.is low c.edge_at-found.ensures.found, ← c.loop-edge.invariant)
    c.in_ok-push.ensures.items
