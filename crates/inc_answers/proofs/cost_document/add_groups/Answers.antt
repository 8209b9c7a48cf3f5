use Rattle.std.proofs.Common.{◌<◌, length, rules}
use Rattle.std.specs.Prelude.{codes, flat_map}
use Rattle.inc_answers.specs.CostDocument.{group_block}
use Rattle.inc_answers.proofs.CostBlocks.{ends_below}
use Rattle.inc_answers.proofs.cost_document.add_groups.Goals as goal

pub returns : goal.returns
returns c =
    let cs = c.args.groups.now.costed.items in
    let places = c.args.groups.now.places.items in
    let some : 0 < length places = search rules in
    ends_below c.add_each_group.result (codes "groups of headers, by what goes if none of them is read:") places (flat_map (group_block cs) places) c.args.document.now c.add_line.new.document
    c.add_each_group.new.document some c.in_ok-add_line.ensures (rw (c.deref.ensures.value, c.deref-2.ensures.value) at c.add_each_group.ensures)
