use Rattle.std.proofs.lemmas.List.{take_all}
use Rattle.inc_answers.specs.CostViews.{seen_amounts}
use Rattle.inc_answers.specs.CostText.{edge_line}
use Rattle.inc_answers.proofs.SendingLemmas.{sends_then}
use Rattle.inc_answers.proofs.CostLines.{flat_map-one}
use Rattle.inc_answers.proofs.cost.send_each_edge.Goals as goal

pub loop-edge-preserved : goal.loop-edge-preserved
loop-edge-preserved g c =
    rw (flat_map-one (edge_line c.args.project.now c.args.graph.now (seen_amounts c.args.saved.now)) c.args.edges.now c.loop-edge.edge-index 0 c.loop-edge-test.true)
    (sends_then _ _ _ _ _ c.loop-edge.invariant c.send_edge.ensures)

pub returns : goal.returns
returns g c = rw (take_all c.loop-edge.edge-index c.args.edges.now c.loop-edge-test.false) at c.loop-edge.invariant
