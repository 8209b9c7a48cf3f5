use Rattle.std.proofs.Common.{◌∙◌, ℕ, ap}
use Rattle.std.specs.Prelude.{decimal}
use Rattle.inc_answers.specs.JsonAnswers.{JsonOut, about_of, counted_text, cut_json, edges_text, from_text, puts, to_text}
use Rattle.inc_answers.proofs.JsonSteps.{puts_about, puts_then}
use Rattle.inc_answers.proofs.json_answers.cut_json.Goals as goal

pub returns : goal.returns
returns c =
    let old = c.in_ok-json.json in
    let cut = c.args.cut.now in
    let chains = c.args.chains.now in
    let cost = c.in_ok-put_number.ensures ∙ ap (λ (n : ℕ). puts c.put-2.new.self (decimal n)) c.cost_of.ensures in
    let counted = puts_about (λ a. counted_text a chains) old c.put.new.self c.put_counted.new.self _ c.in_ok-put.ensures c.in_ok-put_counted.ensures in
    let costs =
    puts_then old c.put-2.new.self c.put_number.new.self _ _ (puts_then old c.put_counted.new.self c.put-2.new.self _ _ counted c.in_ok-put-2.ensures) cost in
    let key = puts_then old c.put_number.new.self c.put-3.new.self _ _ costs c.in_ok-put-3.ensures in
    let set = puts_about (λ a. edges_text a cut) old c.put-3.new.self c.put_edges.new.self _ key c.in_ok-put_edges.ensures in
    let format = puts_then old c.put_edges.new.self c.put-4.new.self _ _ set c.in_ok-put-4.ensures in
    let from = puts_about from_text old c.put-4.new.self c.put_from.new.json _ format c.in_ok-put_from.ensures in
    let status = puts_then old c.put_from.new.json c.put-5.new.self _ _ from c.in_ok-put-5.ensures in
    let to = puts_about to_text old c.put-5.new.self c.put_to.new.json _ status c.in_ok-put_to.ensures in
    let whole = puts_then old c.put_to.new.json c.put-6.new.self _ _ to c.in_ok-put-6.ensures in
    c.into_text.ensures ∙ ap (λ (j : JsonOut). j.text) (whole ∙ ap (λ (j : JsonOut). puts j (cut_json (about_of j) cut chains)) c.in_ok-json.ensures)
