use Rattle.std.proofs.Common.{codes}
use Rattle.inc_answers.specs.JsonAnswers.{file_member}
use Rattle.inc_answers.proofs.JsonSteps.{ends_then, puts_about, puts_then}
use Rattle.inc_answers.proofs.cost_json.put_header.Goals as goal

pub returns : goal.returns
returns c =
    let old = c.args.json.now in
    let bytes = puts_then old c.put.new.self c.put_bytes.new.json _ _ c.in_ok-put.ensures c.in_ok-put_bytes.ensures in
    let comma = puts_then old c.put_bytes.new.json c.put-2.new.self _ _ bytes c.in_ok-put-2.ensures in
    let path = puts_about (λ a. file_member (codes "path") a c.args.header) old c.put-2.new.self c.put_file_at.new.self _ comma c.in_ok-put_file_at.ensures in
    let second = puts_then old c.put_file_at.new.self c.put-3.new.self _ _ path c.in_ok-put-3.ensures in
    let count = puts_then old c.put-3.new.self c.put_count.new.json _ _ second c.in_ok-put_count.ensures in
    ends_then c.put-4.result old c.put_count.new.json c.put-4.new.self _ _ count c.put-4.ensures
