use Rattle.std.proofs.Common.{◌∙◌, ℕ, ap}
use Rattle.inc_answers.specs.JsonAnswers.{JsonOut, about_of, blocked_text, from_text, graph_json, links_text, missing_text, puts}
use Rattle.inc_answers.proofs.JsonSteps.{puts_about, puts_then}
use Rattle.inc_answers.proofs.json_answers.graph_json.Goals as goal

pub returns : goal.returns
returns c =
    let old = c.in_ok-json.json in
    let blocked = puts_about blocked_text old c.put.new.self c.put_blocked.new.self _ c.in_ok-put.ensures c.in_ok-put_blocked.ensures in
    let command = puts_then old c.put_blocked.new.self c.put-2.new.self _ _ blocked c.in_ok-put-2.ensures in
    let edges = puts_about (λ a. links_text a a.graph.edges) old c.put-2.new.self c.put_all_edges.new.self _ command c.in_ok-put_all_edges.ensures in
    let format = puts_then old c.put_all_edges.new.self c.put-3.new.self _ _ edges c.in_ok-put-3.ensures in
    let from = puts_about from_text old c.put-3.new.self c.put_from.new.json _ format c.in_ok-put_from.ensures in
    let key = puts_then old c.put_from.new.json c.put-4.new.self _ _ from c.in_ok-put-4.ensures in
    let missing = puts_about missing_text old c.put-4.new.self c.put_missing.new.self _ key c.in_ok-put_missing.ensures in
    let whole = puts_then old c.put_missing.new.self c.put-5.new.self _ _ missing c.in_ok-put-5.ensures in
    c.into_text.ensures ∙ ap (λ (j : JsonOut). j.text) (whole ∙ ap (λ (j : JsonOut). puts j (graph_json (about_of j))) c.in_ok-json.ensures)
