use Rattle.std.proofs.Common.{◌∙◌, List, ℕ, ap}
use Rattle.inc_answers.specs.JsonAnswers.{JsonOut, about_of, from_text, missing_text, puts, sources_text, to_text, who_json}
use Rattle.inc_answers.proofs.JsonSteps.{puts_about, puts_then}
use Rattle.inc_answers.proofs.json_answers.who_json.Goals as goal

pub returns : goal.returns
returns c =
    let old = c.in_ok-json.json in
    let reaching = c.args.reaching.now.left in
    let chains = c.args.chains.now.left in
    let from = puts_about from_text old c.put_front.new.json c.put_from.new.json _ c.in_ok-put_front.ensures c.in_ok-put_from.ensures in
    let key = puts_then old c.put_from.new.json c.put.new.self _ _ from c.in_ok-put.ensures in
    let missing = puts_about missing_text old c.put.new.self c.put_missing.new.self _ key c.in_ok-put_missing.ensures in
    let list = puts_then old c.put_missing.new.self c.put-2.new.self _ _ missing c.in_ok-put-2.ensures in
    let sources = puts_about (λ a. sources_text c.args.all a reaching) old c.put-2.new.self c.put_sources.new.self _ list c.in_ok-put_sources.ensures in
    let status =
    puts_then old c.put_sources.new.self c.put-3.new.self _ _ sources (c.in_ok-put-3.ensures ∙ ap (λ (text : List ℕ). puts c.put_sources.new.self text) c.status_text.ensures) in
    let comma = puts_then old c.put-3.new.self c.put-4.new.self _ _ status c.in_ok-put-4.ensures in
    let to = puts_about to_text old c.put-4.new.self c.put_to.new.json _ comma c.in_ok-put_to.ensures in
    let whole = puts_then old c.put_to.new.json c.put-5.new.self _ _ to c.in_ok-put-5.ensures in
    c.into_text.ensures ∙ ap (λ (j : JsonOut). j.text) (whole ∙ ap (λ (j : JsonOut). puts j (who_json c.args.kind c.args.all (about_of j) reaching chains)) c.in_ok-json.ensures)
