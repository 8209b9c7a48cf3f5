use Rattle.std.proofs.Common.{Bor, List, ℕ}
use Rattle.std.specs.Prelude.{option_map}
use Rattle.inc_answers.specs.JsonAnswers.{missing_text, shortest_text}
use Rattle.inc_answers.proofs.JsonSteps.{ends_about, puts_about, puts_then}
use Rattle.inc_answers.proofs.json_answers.put_found.Goals as goal

pub returns : goal.returns
returns c =
    let old = c.args.json.now in
    let missing = puts_about missing_text old c.put.new.self c.put_missing.new.self _ c.in_ok-put.ensures c.in_ok-put_missing.ensures in
    let key = puts_then old c.put_missing.new.self c.put-2.new.self _ _ missing c.in_ok-put-2.ensures in
    ends_about c.put_shortest.result (λ a. shortest_text a (option_map (λ (b : Bor (List ℕ)). b.now) c.args.shortest)) old c.put-2.new.self c.put_shortest.new.self _ key
    c.put_shortest.ensures
