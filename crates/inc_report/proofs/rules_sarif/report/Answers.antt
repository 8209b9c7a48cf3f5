use Rattle.std.proofs.Common.{◌∙◌, ap, map}
use Rattle.inc_report.specs.RulesSarif.{sarif_text}
use Rattle.inc_report.specs.RulesText.{rules_kind}
use Rattle.inc_report.proofs.NamedLemmas.{printed_same}
use Rattle.inc_report.proofs.rules_sarif.report.Goals as goal
use Rattle.inc_rules.specs.Views.{seen_judged}

pub returns : goal.returns
returns c =
    let js = map seen_judged c.in_ok-judged.judged.items in (
      js,
      c.in_ok-judged.ensures.judged,
      printed_same _ _ _ _ _ _
          (c.in_ok-sarif_text.ensures
          ∙ ap (λ xs. sarif_text c.as_bytes.result.now c.args.project.now c.args.graph.now (map seen_judged xs)) c.deref.ensures.value
          ∙ ap (λ name. sarif_text name c.args.project.now c.args.graph.now js) c.as_bytes.ensures.value)
          c.none.ensures (c.rules_kind.ensures ∙ ap (λ xs. rules_kind (map seen_judged xs)) c.deref-2.ensures.value),
    )
