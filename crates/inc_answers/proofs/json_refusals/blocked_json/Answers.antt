use Rattle.std.proofs.Common.{◌∙◌, ap}
use Rattle.inc_answers.specs.JsonAnswers.{JsonOut, about_of, blocked_text, puts}
use Rattle.inc_answers.specs.JsonRefusals.{refusal_json}
use Rattle.inc_answers.specs.Refusals.{Blocked}
use Rattle.inc_answers.proofs.JsonSteps.{puts_about, puts_then}
use Rattle.inc_answers.proofs.json_refusals.blocked_json.Goals as goal

pub returns : goal.returns
returns c =
    let old = c.with_names-json.result in
    let command = puts_then old c.put.new.self c.put-2.new.self _ _ c.in_ok-put.ensures c.in_ok-put-2.ensures in
    let key = puts_then old c.put-2.new.self c.put-3.new.self _ _ command c.in_ok-put-3.ensures in
    let blocked = puts_about blocked_text old c.put-3.new.self c.put_blocked.new.self _ key c.in_ok-put_blocked.ensures in
    let number =
    puts_then old c.put-4.new.self c.put_number.new.self _ _ (puts_then old c.put_blocked.new.self c.put-4.new.self _ _ blocked c.in_ok-put-4.ensures) c.in_ok-put_number.ensures in
    let words =
    puts_then old c.put-5.new.self c.put-6.new.self _ _ (puts_then old c.put_number.new.self c.put-5.new.self _ _ number c.in_ok-put-5.ensures) c.in_ok-put-6.ensures in
    let whole = puts_then old c.put-6.new.self c.put-7.new.self _ _ words c.in_ok-put-7.ensures in
    c.into_text.ensures
    ∙ ap (λ (j : JsonOut). j.text)
    (whole ∙ ap (λ (j : JsonOut). puts j (refusal_json c.args.command.now (about_of j).kind (Blocked j.layout j.graph.blockers))) c.with_names-json.ensures)
