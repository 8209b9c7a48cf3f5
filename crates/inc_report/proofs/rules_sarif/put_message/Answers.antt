use Rattle.inc_answers.proofs.NoteLemmas.{joined}
use Rattle.inc_report.proofs.rules_sarif.put_message.Goals as goal

pub returns : goal.returns
returns c =
    let old = c.args.text.now.items in
    let words = joined old _ _ c.extend_from_slice.new.self.items c.put_string.new.text.items c.in_ok-extend_from_slice.ensures.items c.in_ok-put_string.ensures in
    let key = joined old _ _ c.put_string.new.text.items c.extend_from_slice-2.new.self.items words c.in_ok-extend_from_slice-2.ensures.items in
    let id = joined old _ _ c.extend_from_slice-2.new.self.items c.put_id.new.text.items key c.in_ok-put_id.ensures in
    let second = joined old _ _ c.put_id.new.text.items c.extend_from_slice-3.new.self.items id c.in_ok-extend_from_slice-3.ensures.items in
    let place = joined old _ _ c.extend_from_slice-3.new.self.items c.put_number.new.text.items second c.in_ok-put_number.ensures in
    joined old _ _ c.put_number.new.text.items c.push.new.self.items place c.in_ok-push.ensures.items
