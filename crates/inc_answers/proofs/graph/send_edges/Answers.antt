use Rattle.std.proofs.lemmas.List.{take_all}
use Rattle.inc_graph.specs.declared.graphs.Edge as declared
use Rattle.inc_graph.specs.Views.{seen_edge}
use Rattle.inc_answers.specs.GraphText.{edge_text}
use Rattle.inc_answers.proofs.SendingLemmas.{sends_then}
use Rattle.inc_answers.proofs.WhyLemmas.{flat_map-more}
use Rattle.inc_answers.proofs.graph.send_edges.Goals as goal

pub loop-edge-preserved : goal.loop-edge-preserved
loop-edge-preserved g c =
    let more = flat_map-more (λ (e : declared.Edge). edge_text c.args.project.now (seen_edge e)) c.args.edges.now c.loop-edge.edge-index _ c.loop-edge-test.true c.edge-item.is in
    let sent = rw (c.path.ensures.path, c.path-in-loop-edge.ensures.path) at c.send_edge.ensures in
    rw more (sends_then _ _ _ _ _ c.loop-edge.invariant sent)

pub returns : goal.returns
returns g c = rw (take_all c.loop-edge.edge-index c.args.edges.now c.loop-edge-test.false) at c.loop-edge.invariant
