use Rattle.std.proofs.lemmas.List.{take_all}
use Rattle.inc_answers.specs.CostGroups.{group_line}
use Rattle.inc_answers.proofs.SendingLemmas.{sends_then}
use Rattle.inc_answers.proofs.CostLines.{flat_map-one}
use Rattle.inc_answers.proofs.cost_groups.send_each_group.Goals as goal

pub loop-place-preserved : goal.loop-place-preserved
loop-place-preserved g c =
    rw (flat_map-one (group_line c.args.costed.now) c.args.places.now c.loop-place.place-index 0 c.loop-place-test.true)
    (sends_then _ _ _ _ _ c.loop-place.invariant c.send_group.ensures)

pub returns : goal.returns
returns g c = rw (take_all c.loop-place.place-index c.args.places.now c.loop-place-test.false) at c.loop-place.invariant
