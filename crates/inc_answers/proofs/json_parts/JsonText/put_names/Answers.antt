use Rattle.std.proofs.Common.{◌≡◌, List, ℕ, OnOk, arith, rules, subst, sym}
use Rattle.std.proofs.lemmas.Option.{get_or_from_slice_get}
use Rattle.inc_answers.specs.JsonAnswers.{JsonOut, about_of, missing_item, puts}
use Rattle.inc_answers.specs.JsonTexts.{list_of}
use Rattle.inc_answers.proofs.JsonNames.{name_item, names_map}
use Rattle.inc_answers.proofs.JsonSteps.{item_at, list_ended}
use Rattle.inc_answers.proofs.json_parts.JsonText.put_names.Goals as goal

pub loop-place-preserved : goal.loop-place-preserved
loop-place-preserved c =
    let items = c.args.names.now.names.items in
    item_at name_item c.loop-place.self c.put_comma.new.self c.put_missing_name.new.self _ c.loop-place.place c.at.result items (search rules)
    (sym (get_or_from_slice_get items c.loop-place.place c.at.result c.at.result c.at.ensures)) c.in_ok-put_comma.ensures c.in_ok-put_missing_name.ensures c.loop-place.invariant

pub returns : goal.returns
returns c =
    let old = c.args.self.now in
    subst (λ (items : List (List ℕ)). OnOk c.put-2.result (c.put-2.new.self ≡ puts old (list_of items))) (names_map (about_of old) c.args.names.now.names.items)
    (list_ended name_item c.put-2.result old c.put.new.self c.loop-place.self c.put-2.new.self c.loop-place.place c.args.names.now.names.items c.in_ok-put.ensures
    (omega (arith, c.loop-place-test.false, c.len-place-end.ensures)) c.loop-place.invariant c.put-2.ensures)
