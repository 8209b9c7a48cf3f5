use Rattle.std.proofs.Common.{Bor, List, ℕ, ◌∙◌, ap}
use Rattle.std.specs.Prelude.{option_map}
use Rattle.inc_answers.specs.JsonAnswers.{found_text, puts, to_text}
use Rattle.inc_answers.proofs.JsonSteps.{ends_then, puts_about, puts_then}
use Rattle.inc_answers.proofs.json_answers.put_sets.Goals as goal

pub returns : goal.returns
returns c =
    let old = c.args.json.now in
    let found =
    puts_about (λ a. found_text a (option_map (λ (b : Bor (List ℕ)). b.now) c.args.shortest)) old c.put_from.new.json c.put_found.new.json _ c.in_ok-put_from.ensures
    c.in_ok-put_found.ensures in
    let status =
    puts_then old c.put_found.new.json c.put.new.self _ _ found (c.in_ok-put.ensures ∙ ap (λ (text : List ℕ). puts c.put_found.new.json text) c.status_text.ensures) in
    let comma = puts_then old c.put.new.self c.put-2.new.self _ _ status c.in_ok-put-2.ensures in
    let to = puts_about to_text old c.put-2.new.self c.put_to.new.json _ comma c.in_ok-put_to.ensures in
    ends_then c.put-3.result old c.put_to.new.json c.put-3.new.self _ _ to c.put-3.ensures
