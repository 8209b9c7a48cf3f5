-- A rule with the name of its list and its place there, as the code holds it.
use Rattle.inc_report.specs.RulesSarif.{Listed}
use Rattle.inc_report.specs.declared.rules_sarif.Listed.{Listed as declared}
use Rattle.inc_rules.specs.Views.{seen_rule}

abbrev pub seen_listed : declared → Listed
seen_listed l = record { name = l.name.now; place = l.place; rule = seen_rule l.rule.now }
