use Rattle.inc_report.specs.RulesSarif.{Listed}
use Rattle.inc_report.proofs.SarifLemmas.{judged_on}
use Rattle.inc_report.proofs.rules_sarif.put_judged.Goals as goal
use Rattle.inc_rules.specs.Views.{seen_rule}

pub returns : goal.returns
returns c =
    let l : Listed = record { name = c.args.name.now; place = c.args.place; rule = seen_rule c.args.judged.now.rule.now } in
    judged_on c.put_files.result c.args.project.now c.args.graph.now l (λ x. x.items) c.args.judged.now.chains.items c.deref.result.now c.args.judged.now.files.items c.deref-2.result.now
    c.args.text.now.items c.put_chains.new.text.items c.put_files.new.text.items c.in_ok-put_chains.ensures c.deref.ensures.value c.put_files.ensures c.deref-2.ensures.value
