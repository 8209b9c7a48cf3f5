use Rattle.std.proofs.Common.{◌∙◌, List, ℕ, ap, codes, map}
use Rattle.inc_answers.specs.JsonAnswers.{chains_text, files_text, puts}
use Rattle.inc_answers.specs.JsonTexts.{bytes_member}
use Rattle.inc_answers.proofs.JsonSteps.{ends_then, puts_about, puts_then}
use Rattle.inc_rules.specs.RuleTexts.{joined}
use Rattle.inc_rules.specs.Views.{seen_judged}
use Rattle.inc_answers.proofs.rules_json.put_rule.Goals as goal

pub returns : goal.returns
returns c =
    let old = c.args.json.now in
    let j = seen_judged c.args.judged.now in
    let chains = puts_about (λ a. chains_text a j.chains) old c.put.new.self c.put_edge_lists.new.self _ c.in_ok-put.ensures (rw c.deref-2.ensures.value at c.in_ok-put_edge_lists.ensures) in
    let key = puts_then old c.put_edge_lists.new.self c.put-2.new.self _ _ chains c.in_ok-put-2.ensures in
    let files = puts_about (λ a. files_text a j.files) old c.put-2.new.self c.put_files.new.self _ key (rw c.deref-3.ensures.value at c.in_ok-put_files.ensures) in
    let after = puts_then old c.put_files.new.self c.put-3.new.self _ _ files c.in_ok-put-3.ensures in
    let line = puts_then old c.put-3.new.self c.put_number_member.new.self _ _ after c.in_ok-put_number_member.ensures in
    let second = puts_then old c.put_number_member.new.self c.put-4.new.self _ _ line c.in_ok-put-4.ensures in
    let path = puts_then old c.put-4.new.self c.put_bytes_member.new.self _ _ second c.in_ok-put_bytes_member.ensures in
    let third = puts_then old c.put_bytes_member.new.self c.put-5.new.self _ _ path c.in_ok-put-5.ensures in
    let words = c.deref-4.ensures.value ∙ c.in_ok-words.ensures ∙ ap (λ ws. joined (map (λ w. w.now) ws)) c.deref.ensures.value in
    let rule =
    puts_then old c.put-5.new.self c.put_bytes_member-2.new.self _ _ third
    (c.in_ok-put_bytes_member-2.ensures ∙ ap (λ (t : List ℕ). puts c.put-5.new.self (bytes_member (codes "rule") t)) words) in
    ends_then c.put-6.result old c.put_bytes_member-2.new.self c.put-6.new.self _ _ rule c.put-6.ensures
