use Rattle.std.proofs.Common.{get_or}
use Rattle.std.proofs.lemmas.List.{get_or_default}
use Rattle.inc_answers.specs.CostDocument.{group_block}
use Rattle.inc_answers.proofs.CostBlocks.{blocks_added}
use Rattle.inc_answers.proofs.cost_document.add_each_group.Goals as goal

pub loop-place-preserved : goal.loop-place-preserved
loop-place-preserved c =
    let all = c.args.places.now in
    let i = c.loop-place.place-index in
    blocks_added (group_block c.args.costed.now) all i (get_or all i 0) c.args.document.now c.loop-place.document c.add_group_at.new.document c.loop-place-test.true
    (get_or_default all i 0 (get_or all i 0) c.loop-place-test.true) c.in_ok-add_group_at.ensures c.loop-place.invariant
