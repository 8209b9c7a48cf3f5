use Rattle.std.proofs.Common.{◌∙◌, ap, map}
use Rattle.inc_answers.specs.TreeJson.{branch_item, tree_json}
use Rattle.inc_answers.specs.JsonAnswers.{JsonOut, about_of, blocked_text, from_text, missing_text, puts}
use Rattle.inc_answers.specs.JsonTexts.{list_of}
use Rattle.inc_answers.proofs.JsonSteps.{puts_about, puts_then}
use Rattle.inc_answers.proofs.tree_json.tree_json.Goals as goal

pub returns : goal.returns
returns c =
    let old = c.in_ok-json.json in
    let bs = c.args.branches.now in
    let blocked = puts_about blocked_text old c.put.new.self c.put_blocked.new.self _ c.in_ok-put.ensures c.in_ok-put_blocked.ensures in
    let comma = puts_then old c.put_blocked.new.self c.put-2.new.self _ _ blocked c.in_ok-put-2.ensures in
    let bytes = puts_then old c.put-2.new.self c.put_number_member.new.self _ _ comma c.in_ok-put_number_member.ensures in
    let command = puts_then old c.put_number_member.new.self c.put-3.new.self _ _ bytes c.in_ok-put-3.ensures in
    let from = puts_about from_text old c.put-3.new.self c.put_from.new.json _ command c.in_ok-put_from.ensures in
    let key = puts_then old c.put_from.new.json c.put-4.new.self _ _ from c.in_ok-put-4.ensures in
    let missing = puts_about missing_text old c.put-4.new.self c.put_missing.new.self _ key c.in_ok-put_missing.ensures in
    let status = puts_then old c.put_missing.new.self c.put-5.new.self _ _ missing c.in_ok-put-5.ensures in
    let tree = puts_about (λ a. list_of (map (branch_item a) bs)) old c.put-5.new.self c.put_branches.new.json _ status c.in_ok-put_branches.ensures in
    let whole = puts_then old c.put_branches.new.json c.put-6.new.self _ _ tree c.in_ok-put-6.ensures in
    c.into_text.ensures ∙ ap (λ (j : JsonOut). j.text) (whole ∙ ap (λ (j : JsonOut). puts j (tree_json (about_of j) c.args.total bs)) c.in_ok-json.ensures)
