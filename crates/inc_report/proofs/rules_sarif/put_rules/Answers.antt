use Rattle.std.proofs.Common.{ℕ, List, get_or, rules}
use Rattle.std.proofs.lemmas.List.{get_or_default}
use Rattle.inc_report.specs.RulesSarif.{rule_item}
use Rattle.inc_report.proofs.SarifLemmas.{item_at, list_ended}
use Rattle.inc_report.proofs.rules_sarif.put_rules.Goals as goal
use Rattle.inc_rules.specs.Views.{seen_rule}
use Rattle.inc_rules.specs.declared.judging.Judged.{Judged}

abbrev item : List ℕ → Judged → List ℕ
item name j = rule_item name (seen_rule j.rule.now)

pub loop-place-preserved : goal.loop-place-preserved
loop-place-preserved c =
    let all = c.args.judged.now in
    let i = c.loop-place.place in
    let d = c.index-judged-place.result in
    item_at (item c.args.name.now) c.loop-place.text.items c.put_rule.new.text.items _ i (get_or all i d) all c.loop-place-test.true (get_or_default all i d (get_or all i d) c.loop-place-test.true)
    c.in_ok-put_rule.ensures c.loop-place.invariant

pub returns : goal.returns
returns c =
    list_ended (item c.args.name.now) c.args.text.now.items c.push.new.self.items c.loop-place.text.items c.push-2.new.self.items c.loop-place.place c.args.judged.now (search rules) (search rules)
    c.loop-place.invariant (search rules)
