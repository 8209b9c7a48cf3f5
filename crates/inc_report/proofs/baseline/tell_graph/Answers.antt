use Rattle.std.proofs.Common.{◌≡◌, ◌∙◌, [], List, ℕ, ap, ap₂, map, refl, subst, sym}
use Rattle.std.specs.List.{All}
use Rattle.inc_report.specs.BaselineText.{IsBaseline, baseline_printed, beside_text}
use Rattle.inc_answers.specs.JsonAnswers.{About, about_subject}
use Rattle.inc_answers.specs.Printed.{end_of, with_baseline}
use Rattle.inc_answers.specs.RuleViews.{seen_list}
use Rattle.inc_report.specs.RulesText.{rules_kind}
use Rattle.inc_answers.specs.Sending.{Sends}
use Rattle.inc_answers.specs.Terms.{RuleList}
use Rattle.inc_answers.specs.declared.outcome.EndKind.{EndKind}
use Rattle.inc_answers.proofs.WritingLemmas.{prints_one}
use Rattle.inc_rules.specs.Breaking.{lacking}
use Rattle.inc_rules.specs.Judging.{IsWithin, Judged}
use Rattle.inc_rules.specs.Views.{seen_judged}
use Rattle.inc_report.proofs.baseline.tell_graph.Goals as goal

pub send_beside-requires-clause-within : goal.send_beside-requires-clause-within
send_beside-requires-clause-within g c =
    subst (λ js. All (λ j. IsWithin c.args.subject.graph.now (seen_judged j)) js) (sym c.deref-2.ensures.value) c.in_ok-judged.ensures.within

pub returns-clause-sent : goal.returns-clause-sent
returns-clause-sent g c =
    let a : About = about_subject c.args.subject in
    let l : RuleList = seen_list c.args.list in
    let js : List Judged = map (lacking a.layout a.graph) l.rules in
    let judged : map seen_judged c.deref-2.result.now ≡ js = ap (map seen_judged) c.deref-2.ensures.value ∙ c.in_ok-judged.ensures.lacking in
    let kind : c.rules_kind-kind.result ≡ rules_kind js =
    c.rules_kind-kind.ensures ∙ ap rules_kind (ap (map seen_judged) c.deref.ensures.value ∙ c.in_ok-judged.ensures.lacking) in
    prints_one (IsBaseline c.args.format l a) (baseline_printed c.args.format l a c.in_ok-baseline.ensures.0) _ _ _
    (c.in_ok-baseline.ensures.0, c.in_ok-baseline.ensures.1, refl)
    (record {
      ends = c.lined.ensures ∙ ap₂ (λ (lines : List ℕ) (k : EndKind). with_baseline lines (end_of [] k)) c.in_ok-baseline.ensures.2 kind;
      sent = subst (λ (xs : List Judged). Sends c.args.out.now c.send_beside.new.out (beside_text c.args.format l.name a xs)) judged c.in_ok-send_beside.ensures.sent;
    })
