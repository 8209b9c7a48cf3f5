use Rattle.inc_report.specs.RulesSarif.{step_item}
use Rattle.inc_report.proofs.SarifLemmas.{Makes}
use Rattle.inc_report.proofs.rules_sarif.put_steps.Given as goal

-- the directives that are left make the list
abbrev pub invariant-loop-place : goal.invariant-loop-place
invariant-loop-place l = Makes (step_item l.project l.graph) l.text.items l.place l.chain l.initial.text.items
