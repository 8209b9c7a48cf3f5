use Rattle.std.proofs.Common.{◌∙◌, ap, map, subst, sym}
use Rattle.std.specs.List.{All}
use Rattle.inc_answers.specs.JsonAnswers.{about_subject}
use Rattle.inc_report.specs.NamedText.{rules_answer}
use Rattle.inc_report.specs.RulesText.{rules_kind}
use Rattle.inc_report.proofs.NamedLemmas.{printed_same}
use Rattle.inc_rules.specs.Judging.{IsWithin}
use Rattle.inc_rules.specs.Views.{seen_judged}
use Rattle.inc_report.proofs.named.rule.Goals as goal

pub rules_text-requires-clause-within : goal.rules_text-requires-clause-within
rules_text-requires-clause-within c =
    subst (λ js. All (λ j. IsWithin c.args.subject.graph.now (seen_judged j)) js) (sym c.deref.ensures.value) c.in_ok-judged.ensures.within

pub returns : goal.returns
returns c =
    let js = map seen_judged c.in_ok-judged.judged.items in (
      js,
      c.in_ok-judged.ensures.judged,
      printed_same _ _ _ _ _ _
          (c.in_ok-rules_text.ensures
          ∙ ap (λ xs. rules_answer c.args.form.format c.as_bytes.result.now (about_subject c.args.subject) (map seen_judged xs)) c.deref.ensures.value
          ∙ ap (λ name. rules_answer c.args.form.format name (about_subject c.args.subject) js) c.as_bytes.ensures.value)
          c.none.ensures (c.rules_kind.ensures ∙ ap (λ xs. rules_kind (map seen_judged xs)) c.deref-2.ensures.value),
    )
