use Rattle.std.proofs.Common.{◌∙◌, ap, map}
use Rattle.inc_answers.specs.CostJson.{cost_json, edge_item, header_item}
use Rattle.inc_answers.specs.CostViews.{seen_ranked}
use Rattle.inc_answers.specs.JsonAnswers.{JsonOut, about_of, blocked_text, from_text, missing_text, puts}
use Rattle.inc_answers.specs.JsonTexts.{list_of}
use Rattle.inc_answers.proofs.JsonSteps.{puts_about, puts_then}
use Rattle.inc_answers.proofs.cost_json.cost_json.Goals as goal

pub returns : goal.returns
returns c =
    let old = c.in_ok-json.json in
    let r = seen_ranked c.args.ranked.now in
    let blocked = puts_about blocked_text old c.put.new.self c.put_blocked.new.self _ c.in_ok-put.ensures c.in_ok-put_blocked.ensures in
    let comma = puts_then old c.put_blocked.new.self c.put-2.new.self _ _ blocked c.in_ok-put-2.ensures in
    let bytes = puts_then old c.put-2.new.self c.put_number_member.new.self _ _ comma c.in_ok-put_number_member.ensures in
    let command = puts_then old c.put_number_member.new.self c.put-3.new.self _ _ bytes c.in_ok-put-3.ensures in
    let edges = puts_about (λ a. list_of (map (edge_item a r.saved) r.edges)) old c.put-3.new.self c.put_edges.new.json _ command (rw c.deref.ensures.value at c.in_ok-put_edges.ensures) in
    let format = puts_then old c.put_edges.new.json c.put-4.new.self _ _ edges c.in_ok-put-4.ensures in
    let from = puts_about from_text old c.put-4.new.self c.put_from.new.json _ format c.in_ok-put_from.ensures in
    let key = puts_then old c.put_from.new.json c.put-5.new.self _ _ from c.in_ok-put-5.ensures in
    let groups = puts_then old c.put-5.new.self c.put_groups.new.json _ _ key c.in_ok-put_groups.ensures in
    let second = puts_then old c.put_groups.new.json c.put-6.new.self _ _ groups c.in_ok-put-6.ensures in
    let headers = puts_about (λ a. list_of (map (header_item a r.brought) r.headers)) old c.put-6.new.self c.put_headers.new.json _ second (rw c.deref-2.ensures.value at c.in_ok-put_headers.ensures) in
    let third = puts_then old c.put_headers.new.json c.put-7.new.self _ _ headers c.in_ok-put-7.ensures in
    let missing = puts_about missing_text old c.put-7.new.self c.put_missing.new.self _ third c.in_ok-put_missing.ensures in
    let whole = puts_then old c.put_missing.new.self c.put-8.new.self _ _ missing c.in_ok-put-8.ensures in
    c.into_text.ensures ∙ ap (λ (j : JsonOut). j.text) (whole ∙ ap (λ (j : JsonOut). puts j (cost_json (about_of j) r)) c.in_ok-json.ensures)
