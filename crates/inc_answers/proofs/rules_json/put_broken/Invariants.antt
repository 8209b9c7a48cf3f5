use Rattle.std.proofs.Common.{drop, map}
use Rattle.std.specs.Prelude.{filter}
use Rattle.inc_rules.specs.Judging.{is_broken}
use Rattle.inc_rules.specs.Views.{seen_judged}
use Rattle.inc_answers.specs.RulesJson.{broken_item}
use Rattle.inc_answers.proofs.JsonSteps.{Makes, with_items}
use Rattle.inc_answers.proofs.rules_json.put_broken.Given as goal

-- the broken ones of those that are left make the list
abbrev pub invariant-loop-rule : goal.invariant-loop-rule
invariant-loop-rule l =
    Makes (broken_item l.name) l.json l.place (filter is_broken (map seen_judged (drop l.rule-index l.judged))) (with_items (broken_item l.name) l.initial.json (filter is_broken (map seen_judged l.judged)))
