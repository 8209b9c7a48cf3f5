use Rattle.inc_answers.specs.JsonAnswers.{numbered_text}
use Rattle.inc_answers.proofs.JsonSteps.{ends_then, puts_about, puts_then}
use Rattle.inc_answers.proofs.cost_json.put_edge.Goals as goal

pub returns : goal.returns
returns c =
    let old = c.args.json.now in
    let bytes = puts_then old c.put.new.self c.put_bytes.new.json _ _ c.in_ok-put.ensures c.in_ok-put_bytes.ensures in
    let key = puts_then old c.put_bytes.new.json c.put-2.new.self _ _ bytes c.in_ok-put-2.ensures in
    let directive = puts_about (λ a. numbered_text a c.args.edge) old c.put-2.new.self c.put_edge.new.self _ key (rw c.id_of-id.ensures at c.in_ok-put_edge.ensures) in
    let comma = puts_then old c.put_edge.new.self c.put-3.new.self _ _ directive c.in_ok-put-3.ensures in
    let count = puts_then old c.put-3.new.self c.put_count.new.json _ _ comma c.in_ok-put_count.ensures in
    ends_then c.put-4.result old c.put_count.new.json c.put-4.new.self _ _ count c.put-4.ensures
