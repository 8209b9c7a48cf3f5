use Rattle.std.proofs.Common.{get_or, rules}
use Rattle.std.proofs.lemmas.List.{get_or_default}
use Rattle.inc_answers.specs.JsonAnswers.{stray_text}
use Rattle.inc_answers.proofs.JsonSteps.{item_at, list_ended}
use Rattle.inc_answers.proofs.json_parts.JsonText.put_strays.Goals as goal

pub loop-place-preserved : goal.loop-place-preserved
loop-place-preserved c =
    let strays = c.args.strays.now in
    let i = c.loop-place.place in
    item_at stray_text c.loop-place.self c.put_comma.new.self c.put_stray.new.self _ i (get_or strays i 0) strays c.loop-place-test.true
    (get_or_default strays i 0 (get_or strays i 0) c.loop-place-test.true) c.in_ok-put_comma.ensures c.in_ok-put_stray.ensures c.loop-place.invariant

pub returns : goal.returns
returns c =
    list_ended stray_text _ c.args.self.now c.put.new.self c.loop-place.self c.put-2.new.self c.loop-place.place c.args.strays.now c.in_ok-put.ensures (search rules) c.loop-place.invariant c.put-2.ensures
