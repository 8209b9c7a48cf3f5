use Rattle.std.proofs.Common.{take, arith}
use Rattle.inc_graph.specs.Distances.{back_next}
use Rattle.inc_graph.proofs.BackSearch.{entering_low}
use Rattle.inc_graph.proofs.SearchLemmas.{candidates_room, candidate_taken}
use Rattle.inc_graph.proofs.chains.distances.follow_back.Goals as goal

pub left_by-requires : goal.left_by-requires
left_by-requires c =
    entering_low c.args.graph.now c.file-file.result c.loop-edge.edge-index c.edge-item.result c.entering-edge-items.result.now c.entering-edge-items.ensures c.loop-edge-test.true c.edge-item.is

pub reach-requires-clause-from : goal.reach-requires-clause-from
reach-requires-clause-from c =
    (candidates_room (back_next c.args.graph.now) c.args.place c.args.search.now c.loop-edge.search (take c.loop-edge.edge-index c.entering-edge-items.result.now) c.loop-edge.invariant c.requires.place).0

pub reach-requires-clause-file : goal.reach-requires-clause-file
reach-requires-clause-file c =
    let room = candidates_room (back_next c.args.graph.now) c.args.place c.args.search.now c.loop-edge.search (take c.loop-edge.edge-index c.entering-edge-items.result.now) c.loop-edge.invariant c.requires.place in
    let files = c.requires.files in
    let low = c.left_by.ensures.within in
    omega (arith, room.1, low)

pub loop-edge-preserved : goal.loop-edge-preserved
loop-edge-preserved c =
    candidate_taken (back_next c.args.graph.now) c.args.place c.args.search.now c.loop-edge.search c.reach.new.self c.entering-edge-items.result.now c.loop-edge.edge-index c.edge-item.result
    (record { step = c.edge-item.result; to = c.left_by.result }) c.loop-edge-test.true c.edge-item.is c.left_by.ensures.step c.loop-edge.invariant c.in_ok-reach.ensures.reached
