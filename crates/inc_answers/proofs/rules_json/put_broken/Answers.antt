use Rattle.std.proofs.Common.{◌≡◌, ◌∙◌, [], ap, drop, map, sym}
use Rattle.std.specs.Prelude.{filter}
use Rattle.std.proofs.lemmas.List.{drop_all}
use Rattle.inc_answers.specs.RulesJson.{broken_item}
use Rattle.inc_answers.proofs.JsonRules.{next_broken, next_holds}
use Rattle.inc_answers.proofs.JsonSteps.{list_closed}
use Rattle.inc_rules.specs.Judging.{is_broken}
use Rattle.inc_rules.specs.Views.{seen_judged}
use Rattle.inc_answers.proofs.rules_json.put_broken.Goals as goal
use Rattle.inc_answers.proofs.rules_json.put_broken.Goals.{then-is_broken+in_ok-put_comma+in_ok-put_rule, else-is_broken}

pub loop-rule-preserved : goal.loop-rule-preserved
loop-rule-preserved c =
    let name = c.args.name.now in
    let js = c.args.judged.now in
    let i = c.loop-rule.rule-index in
    let x = c.rule-item.result in
    elim c.if-is_broken.branch [
      | then-is_broken+in_ok-put_comma+in_ok-put_rule w ↦
          rw (w.json-is, w.place-is) (next_broken name js i x c.loop-rule-test.true c.rule-item.is c.loop-rule.json w.put_comma.new.self w.put_rule.new.json _ c.loop-rule.place
          (sym c.is_broken.ensures ∙ w.if-is_broken.true) w.in_ok-put_comma.ensures w.in_ok-put_rule.ensures c.loop-rule.invariant)
      | else-is_broken w ↦
          rw w.place-is (next_holds name js i x c.loop-rule-test.true c.rule-item.is c.loop-rule.json c.if-is_broken.json _ c.loop-rule.place
          (sym c.is_broken.ensures ∙ w.if-is_broken.false) w.json-is c.loop-rule.invariant)
    ]

pub returns : goal.returns
returns c =
    let none : filter is_broken (map seen_judged (drop c.loop-rule.rule-index c.args.judged.now)) ≡ [] =
    ap (λ js. filter is_broken (map seen_judged js)) (drop_all c.loop-rule.rule-index c.args.judged.now c.loop-rule-test.false) in
    list_closed (broken_item c.args.name.now) _ c.args.json.now c.put.new.self c.loop-rule.json c.put-2.new.self c.loop-rule.place (filter is_broken (map seen_judged c.args.judged.now)) _
    c.in_ok-put.ensures none c.loop-rule.invariant c.put-2.ensures
