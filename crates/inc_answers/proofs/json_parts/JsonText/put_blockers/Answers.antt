use Rattle.std.proofs.Common.{rules}
use Rattle.inc_answers.specs.JsonAnswers.{blocker_text}
use Rattle.inc_answers.proofs.JsonSteps.{item_at, list_ended}
use Rattle.inc_answers.proofs.json_parts.JsonText.put_blockers.Goals as goal

pub loop-place-preserved : goal.loop-place-preserved
loop-place-preserved c =
    item_at blocker_text c.loop-place.self c.put_comma.new.self c.put_blocker.new.self _ c.loop-place.place c.index-blockers-place.result c.args.blockers.now c.loop-place-test.true c.index-blockers-place.is c.in_ok-put_comma.ensures c.in_ok-put_blocker.ensures c.loop-place.invariant

pub returns : goal.returns
returns c =
    list_ended blocker_text _ c.args.self.now c.put.new.self c.loop-place.self c.put-2.new.self c.loop-place.place c.args.blockers.now c.in_ok-put.ensures (search rules) c.loop-place.invariant c.put-2.ensures
