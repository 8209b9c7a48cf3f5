use Rattle.std.proofs.Common.{◌∙◌, ℕ, ap, codes}
use Rattle.inc_answers.specs.JsonAnswers.{file_member, puts}
use Rattle.inc_answers.specs.JsonTexts.{number_member}
use Rattle.inc_answers.proofs.JsonSteps.{ends_then, puts_about, puts_then}
use Rattle.inc_answers.proofs.tree_json.put_branch.Goals as goal

pub returns : goal.returns
returns c =
    let old = c.args.json.now in
    let b = c.args.branch.now in
    let bytes = puts_then old c.put.new.self c.put_number_member.new.self _ _ c.in_ok-put.ensures c.in_ok-put_number_member.ensures in
    let comma = puts_then old c.put_number_member.new.self c.put-2.new.self _ _ bytes c.in_ok-put-2.ensures in
    let depth = puts_then old c.put-2.new.self c.put_number_member-2.new.self _ _ comma
    (c.in_ok-put_number_member-2.ensures ∙ ap (λ (n : ℕ). puts c.put-2.new.self (number_member (codes "depth") n)) c.from.ensures) in
    let second = puts_then old c.put_number_member-2.new.self c.put-3.new.self _ _ depth c.in_ok-put-3.ensures in
    let own = puts_then old c.put-3.new.self c.put_number_member-3.new.self _ _ second
    (c.in_ok-put_number_member-3.ensures ∙ ap (λ (n : ℕ). puts c.put-3.new.self (number_member (codes "own") n)) c.from-2.ensures) in
    let third = puts_then old c.put_number_member-3.new.self c.put-4.new.self _ _ own c.in_ok-put-4.ensures in
    let path = puts_about (λ a. file_member (codes "path") a b.file) old c.put-4.new.self c.put_file.new.self _ third c.in_ok-put_file.ensures in
    ends_then c.put-5.result old c.put_file.new.self c.put-5.new.self _ _ path c.put-5.ensures
