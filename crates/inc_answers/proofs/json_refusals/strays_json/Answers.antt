use Rattle.std.proofs.Common.{◌∙◌, List, ℕ, ap, map, sym}
use Rattle.inc_graph.specs.MissingLists.{missing_at}
use Rattle.inc_answers.specs.JsonAnswers.{JsonOut, about_of, puts, stray_text}
use Rattle.inc_answers.specs.JsonRefusals.{refusal_object}
use Rattle.inc_answers.specs.JsonTexts.{list_of}
use Rattle.inc_answers.specs.Refusals.{NotFound}
use Rattle.inc_answers.proofs.JsonSteps.{puts_about, puts_then}
use Rattle.inc_answers.proofs.StrictLemmas.{stray_items}
use Rattle.inc_answers.proofs.json_refusals.strays_json.Goals as goal

pub returns : goal.returns
returns c =
    let old = c.in_ok-json.json in
    let strays = c.args.strays.now in
    let command = puts_then old c.put.new.self c.put-2.new.self _ _ c.in_ok-put.ensures c.in_ok-put-2.ensures in
    let key = puts_then old c.put-2.new.self c.put-3.new.self _ _ command c.in_ok-put-3.ensures in
    let listed = puts_about (λ a. list_of (map (stray_text a) strays)) old c.put-3.new.self c.put_strays.new.self _ key c.in_ok-put_strays.ensures in
    let number =
    puts_then old c.put-4.new.self c.put_number.new.self _ _ (puts_then old c.put_strays.new.self c.put-4.new.self _ _ listed c.in_ok-put-4.ensures) c.in_ok-put_number.ensures in
    let words =
    puts_then old c.put-5.new.self c.put-6.new.self _ _ (puts_then old c.put_number.new.self c.put-5.new.self _ _ number c.in_ok-put-5.ensures) c.in_ok-put-6.ensures in
    let whole = puts_then old c.put-6.new.self c.put-7.new.self _ _ words c.in_ok-put-7.ensures in
    c.into_text.ensures
    ∙ ap (λ (j : JsonOut). j.text)
    (whole ∙ ap (λ (j : JsonOut). puts j (refusal_object c.args.command.now (NotFound j.layout (map (missing_at j.graph.missing) strays)) (map (stray_text (about_of j)) strays))) c.in_ok-json.ensures)
    ∙ ap (λ (items : List (List ℕ)). refusal_object c.args.command.now (NotFound c.args.subject.project.now (map (missing_at c.args.subject.graph.now.missing) strays)) items)
    (stray_items c.args.subject strays)
