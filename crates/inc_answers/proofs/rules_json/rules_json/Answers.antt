use Rattle.std.proofs.Common.{◌≡◌, ◌∙◌, List, ℕ, ap, codes, length, map, sym}
use Rattle.std.proofs.lemmas.List.{length-map}
use Rattle.inc_answers.specs.JsonAnswers.{JsonOut, about_of, blocked_text, missing_text, puts}
use Rattle.inc_answers.specs.JsonTexts.{list_of, number_member}
use Rattle.inc_answers.specs.RulesJson.{broken_items, rules_json}
use Rattle.inc_answers.proofs.JsonSteps.{puts_about, puts_then}
use Rattle.inc_rules.specs.Views.{seen_judged}
use Rattle.inc_answers.proofs.rules_json.rules_json.Goals as goal

pub returns : goal.returns
returns c =
    let old = c.in_ok-json.json in
    let name = c.args.name.now in
    let js = map seen_judged c.args.judged.now in
    let blocked = puts_about blocked_text old c.put.new.self c.put_blocked.new.self _ c.in_ok-put.ensures c.in_ok-put_blocked.ensures in
    let key = puts_then old c.put_blocked.new.self c.put-2.new.self _ _ blocked c.in_ok-put-2.ensures in
    let broken = puts_about (λ a. list_of (broken_items name a js)) old c.put-2.new.self c.put_broken.new.json _ key c.in_ok-put_broken.ensures in
    let command = puts_then old c.put_broken.new.json c.put-3.new.self _ _ broken c.in_ok-put-3.ensures in
    let missing = puts_about missing_text old c.put-3.new.self c.put_missing.new.self _ command c.in_ok-put_missing.ensures in
    let comma = puts_then old c.put_missing.new.self c.put-4.new.self _ _ missing c.in_ok-put-4.ensures in
    let long = sym (length-map c.args.judged.now seen_judged) in
    let count = puts_then old c.put-4.new.self c.put_number_member.new.self _ _ comma
    (c.in_ok-put_number_member.ensures ∙ ap (λ (n : ℕ). puts c.put-4.new.self (number_member (codes "rules") n)) long) in
    let status =
    puts_then old c.put_number_member.new.self c.put-5.new.self _ _ count (c.in_ok-put-5.ensures ∙ ap (λ (text : List ℕ). puts c.put_number_member.new.self text) c.status_text.ensures) in
    let whole = puts_then old c.put-5.new.self c.put-6.new.self _ _ status c.in_ok-put-6.ensures in
    c.into_text.ensures ∙ ap (λ (j : JsonOut). j.text) (whole ∙ ap (λ (j : JsonOut). puts j (rules_json c.args.kind name (about_of j) js)) c.in_ok-json.ensures)
