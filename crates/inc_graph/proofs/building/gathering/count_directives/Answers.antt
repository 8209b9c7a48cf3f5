use Rattle.std.proofs.Common.{◌≡◌, ◌<◌, drop, arith, ap, sym}
use Rattle.std.proofs.lemmas.List.{drop_all}
use Rattle.inc_graph.specs.IncludeGraph.{most_directives}
use Rattle.inc_graph.specs.GraphLists.{total}
use Rattle.inc_graph.proofs.GatherLemmas.{total_read, total_past, counted_many, counted_few}
use Rattle.inc_graph.proofs.building.gathering.count_directives.Goals as goal
use Rattle.inc_graph.proofs.building.gathering.count_directives.Goals.{in-Read+else-more-count, in_default}

pub returns-then-more-count : goal.returns-then-more-count
returns-then-more-count c =
    let step = total_read c.args.states.now c.loop-place.place c.state.result.now c.in-Read.entries (omega arith) c.state.ensures c.in-Read.is in
    let many : most_directives < total c.args.states.now = omega (arith, step, c.loop-place.invariant.counted, c.include_count-more.ensures) in
    sym (counted_many (total c.args.states.now) many)

pub loop-place-preserved : goal.loop-place-preserved
loop-place-preserved c =
    elim c.match-state.branch [
      | in-Read+else-more-count w ↦
          let step = total_read c.args.states.now c.loop-place.place c.state.result.now w.in-Read.entries (omega arith) c.state.ensures w.in-Read.is in
          record {
            counted = omega (arith, step, c.loop-place.invariant.counted, w.include_count-more.ensures);
            few = omega arith;
          }
      | in_default w ↦
          let step = total_past c.args.states.now c.loop-place.place c.state.result.now (omega arith) c.state.ensures w.in_default.not-Read in
          record { counted = omega arith; few = omega arith }
    ]

pub returns : goal.returns
returns c =
    let ss = c.args.states.now in
    let end : total (drop c.loop-place.place ss) ≡ 0 = ap total (drop_all c.loop-place.place ss (omega (arith, c.loop-place-test.false))) in
    sym (counted_few (total ss) c.loop-place.count (omega (arith, end, c.loop-place.invariant.counted)) c.loop-place.invariant.few)
