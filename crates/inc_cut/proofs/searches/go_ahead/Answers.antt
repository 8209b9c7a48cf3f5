use Rattle.std.proofs.Common.{map, take, ap, ◌∙◌, arith}
use Rattle.inc_graph.proofs.SearchLemmas.{candidates_room}
use Rattle.inc_cut.specs.declared.flows.Step.{Step}
use Rattle.inc_cut.specs.NextSteps.{ahead_of}
use Rattle.inc_cut.specs.Searches.{step_next}
use Rattle.inc_cut.proofs.LevelSearches.{ahead_item, step_taken, step_skipped}
use Rattle.inc_cut.proofs.searches.go_ahead.Goals as goal
use Rattle.inc_cut.proofs.searches.go_ahead.Goals.{then-passes+in_ok-reach, else-passes}

pub passes-requires : goal.passes-requires
passes-requires top c =
    let item = ahead_item c.args.graph.now c.args.file c.loop-edge.edge-index c.leaving-edge-items.result.now c.edge-item.result c.requires.sound c.leaving-edge-items.ensures c.loop-edge-test.true c.edge-item.is in
    let edge = ap (λ (s : Step). s.edge) c.ahead.ensures in
    omega (arith, item.within, edge, c.requires.edges)

pub reach-requires-clause-from : goal.reach-requires-clause-from
reach-requires-clause-from top c =
    (candidates_room (step_next c.args.graph.now (top.T.StepTest.passes c.args.test.now)) c.args.place c.args.search.now c.loop-edge.search
    (take c.loop-edge.edge-index (map ahead_of c.leaving-edge-items.result.now)) c.loop-edge.invariant c.requires.place).0

pub reach-requires-clause-file : goal.reach-requires-clause-file
reach-requires-clause-file top c =
    let room = candidates_room (step_next c.args.graph.now (top.T.StepTest.passes c.args.test.now)) c.args.place c.args.search.now c.loop-edge.search
    (take c.loop-edge.edge-index (map ahead_of c.leaving-edge-items.result.now)) c.loop-edge.invariant c.requires.place in
    let item = ahead_item c.args.graph.now c.args.file c.loop-edge.edge-index c.leaving-edge-items.result.now c.edge-item.result c.requires.sound c.leaving-edge-items.ensures c.loop-edge-test.true c.edge-item.is in
    omega (arith, item.inside, c.requires.files, room.1)

pub loop-edge-preserved : goal.loop-edge-preserved
loop-edge-preserved top c =
    let g = c.args.graph.now in
    let test = top.T.StepTest.passes c.args.test.now in
    let q = c.args.search.now in
    let items = c.leaving-edge-items.result.now in
    let k = c.loop-edge.edge-index in
    let e = c.edge-item.result in
    let item = ahead_item g c.args.file k items e c.requires.sound c.leaving-edge-items.ensures c.loop-edge-test.true c.edge-item.is in
    elim c.if-passes.branch [
      | then-passes+in_ok-reach w ↦
          w.search-is ∙ step_taken g test ahead_of c.args.place q c.loop-edge.search items k e c.ahead.result c.passes.result w.reach.new.self e.to
          c.loop-edge-test.true c.edge-item.is c.ahead.ensures c.passes.ensures w.if-passes.true item.to c.loop-edge.invariant w.in_ok-reach.ensures.reached
      | else-passes w ↦
          w.search-is ∙ step_skipped g test ahead_of c.args.place q c.loop-edge.search items k e c.ahead.result c.passes.result
          c.loop-edge-test.true c.edge-item.is c.ahead.ensures c.passes.ensures w.if-passes.false c.loop-edge.invariant
    ]
