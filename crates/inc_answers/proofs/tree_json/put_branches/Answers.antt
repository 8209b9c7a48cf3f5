use Rattle.std.proofs.Common.{get_or, rules}
use Rattle.inc_answers.specs.TreeJson.{branch_item}
use Rattle.inc_answers.proofs.JsonSteps.{item_at, list_ended}
use Rattle.inc_answers.proofs.tree_json.put_branches.Goals as goal

pub loop-place-preserved : goal.loop-place-preserved
loop-place-preserved c =
    let all = c.args.branches.now in
    let i = c.loop-place.place in
    item_at branch_item c.loop-place.json c.put_comma.new.self c.put_branch.new.json _ i c.index-branches-place.result all c.loop-place-test.true
    c.index-branches-place.is c.in_ok-put_comma.ensures c.in_ok-put_branch.ensures c.loop-place.invariant

pub returns : goal.returns
returns c =
    list_ended branch_item _ c.args.json.now c.put.new.self c.loop-place.json c.put-2.new.self c.loop-place.place c.args.branches.now c.in_ok-put.ensures (search rules)
    c.loop-place.invariant c.put-2.ensures
