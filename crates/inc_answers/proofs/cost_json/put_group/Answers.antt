use Rattle.inc_answers.proofs.JsonSteps.{ends_then, puts_then}
use Rattle.inc_answers.proofs.cost_json.put_group.Goals as goal

pub returns : goal.returns
returns c =
    let old = c.args.json.now in
    let bytes = puts_then old c.put.new.self c.put_number_member.new.self _ _ c.in_ok-put.ensures c.in_ok-put_number_member.ensures in
    let key = puts_then old c.put_number_member.new.self c.put-2.new.self _ _ bytes c.in_ok-put-2.ensures in
    let cut = puts_then old c.put-2.new.self c.put_cut.new.json _ _ key c.in_ok-put_cut.ensures in
    let comma = puts_then old c.put_cut.new.json c.put-3.new.self _ _ cut c.in_ok-put-3.ensures in
    let glob = puts_then old c.put-3.new.self c.put_bytes_member.new.self _ _ comma c.in_ok-put_bytes_member.ensures in
    let second = puts_then old c.put_bytes_member.new.self c.put-4.new.self _ _ glob c.in_ok-put-4.ensures in
    let count = puts_then old c.put-4.new.self c.put_number_member-2.new.self _ _ second c.in_ok-put_number_member-2.ensures in
    rw (← c.costed.view_is) (ends_then c.put-5.result old c.put_number_member-2.new.self c.put-5.new.self _ _ count c.put-5.ensures)
