use Rattle.std.proofs.Common.{arith, sym, ◌∙◌}
use Rattle.inc_graph.specs.Views.{seen_parts}
use Rattle.inc_graph.specs.GraphLists.{flag_at}
use Rattle.inc_graph.proofs.GatherLemmas.{lists_read, total_read, lists_past, total_past}
use Rattle.inc_graph.proofs.building.gathering.add_states.Goals as goal
use Rattle.inc_graph.proofs.building.gathering.add_states.Goals.{in-Read+in_ok-add_entries, in_default}

pub add_entries-requires-clause-few : goal.add_entries-requires-clause-few
add_entries-requires-clause-few c =
    let step = total_read c.args.states.now c.loop-place.place c.state.result.now c.in-Read.entries (omega arith) c.state.ensures c.in-Read.is in
    omega (arith, step, c.loop-place.invariant.few)

pub loop-place-preserved : goal.loop-place-preserved
loop-place-preserved c =
    let g = seen_parts c.loop-place.parts in
    elim c.match-state.branch [
      | in-Read+in_ok-add_entries w ↦
          let lists = lists_read (flag_at c.args.defined.now) g c.args.states.now c.loop-place.place c.state.result.now w.in-Read.entries (omega arith) c.state.ensures w.in-Read.is in
          let step = total_read c.args.states.now c.loop-place.place c.state.result.now w.in-Read.entries (omega arith) c.state.ensures w.in-Read.is in
          let added = w.in_ok-add_entries.ensures in
          rw w.parts-is (record {
            lists = rw (added.lists, w.file_at.ensures) (sym lists ∙ c.loop-place.invariant.lists);
            few = omega (arith, step, added.long, c.loop-place.invariant.few);
            numbers = added.numbers;
          })
      | in_default w ↦
          let lists = lists_past (flag_at c.args.defined.now) g c.args.states.now c.loop-place.place c.state.result.now (omega arith) c.state.ensures w.in_default.not-Read in
          let step = total_past c.args.states.now c.loop-place.place c.state.result.now (omega arith) c.state.ensures w.in_default.not-Read in
          rw w.parts-is (record {
            lists = sym lists ∙ c.loop-place.invariant.lists;
            few = omega (arith, c.loop-place.invariant.few);
            numbers = c.loop-place.invariant.numbers;
          })
    ]
