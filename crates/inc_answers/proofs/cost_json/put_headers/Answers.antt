use Rattle.std.proofs.Common.{get_or, rules}
use Rattle.std.proofs.lemmas.List.{get_or_default}
use Rattle.inc_answers.specs.CostJson.{header_item}
use Rattle.inc_answers.specs.CostViews.{seen_amounts}
use Rattle.inc_answers.proofs.JsonSteps.{item_at, list_ended}
use Rattle.inc_answers.proofs.cost_json.put_headers.Goals as goal

pub loop-place-preserved : goal.loop-place-preserved
loop-place-preserved c =
    let all = c.args.headers.now in
    let i = c.loop-place.place in
    item_at (λ a i. header_item a (seen_amounts c.args.brought.now) i) c.loop-place.json c.put_comma.new.self c.put_header.new.json _ i (get_or all i 0) all c.loop-place-test.true
    (get_or_default all i 0 (get_or all i 0) c.loop-place-test.true) c.in_ok-put_comma.ensures c.in_ok-put_header.ensures c.loop-place.invariant

pub returns : goal.returns
returns c =
    list_ended (λ a i. header_item a (seen_amounts c.args.brought.now) i) _ c.args.json.now c.put.new.self c.loop-place.json c.put-2.new.self c.loop-place.place c.args.headers.now c.in_ok-put.ensures (search rules)
    c.loop-place.invariant c.put-2.ensures
