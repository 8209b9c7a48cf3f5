use Rattle.inc_answers.specs.JsonAnswers.{blocked_text, chains_text}
use Rattle.inc_answers.proofs.JsonSteps.{ends_then, puts_about, puts_then}
use Rattle.inc_answers.proofs.json_answers.put_front.Goals as goal

pub returns : goal.returns
returns c =
    let old = c.args.json.now in
    let blocked = puts_about blocked_text old c.put.new.self c.put_blocked.new.self _ c.in_ok-put.ensures c.in_ok-put_blocked.ensures in
    let key = puts_then old c.put_blocked.new.self c.put-2.new.self _ _ blocked c.in_ok-put-2.ensures in
    let chains = puts_about (λ a. chains_text a c.args.chains.now.left) old c.put-2.new.self c.put_chains.new.self _ key c.in_ok-put_chains.ensures in
    let command =
    puts_then old c.put-3.new.self c.put-4.new.self _ _ (puts_then old c.put_chains.new.self c.put-3.new.self _ _ chains c.in_ok-put-3.ensures) c.in_ok-put-4.ensures in
    ends_then c.put-5.result old c.put-4.new.self c.put-5.new.self _ _ command c.put-5.ensures
