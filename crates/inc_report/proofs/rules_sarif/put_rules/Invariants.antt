use Rattle.inc_report.specs.RulesSarif.{rule_item}
use Rattle.inc_report.proofs.SarifLemmas.{Makes}
use Rattle.inc_report.proofs.rules_sarif.put_rules.Given as goal
use Rattle.inc_rules.specs.Views.{seen_rule}

-- the rules that are left make the list
abbrev pub invariant-loop-place : goal.invariant-loop-place
invariant-loop-place l = Makes (λ j. rule_item l.name (seen_rule j.rule.now)) l.text.items l.place l.judged l.initial.text.items
