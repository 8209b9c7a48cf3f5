use Rattle.std.proofs.Common.{◌≡◌, ◌∙◌, None, ap, subst}
use Rattle.inc_graph.specs.MarkedEdges.{amounts_by, marks_fault}
use Rattle.inc_answers.specs.CutDocument.{has_costs}
use Rattle.inc_report.specs.NamedText.{IsHinderedKept}
use Rattle.inc_answers.specs.Terms.{Details, Limits, is_whole}
use Rattle.inc_report.proofs.NamedLemmas.{cut_report, hindered}
use Rattle.inc_answers.proofs.WritingLemmas.{prints_all, prints_one}
use Rattle.inc_report.proofs.named.separate.Goals as goal

pub returns-in_ok-smallest-in-Ok-clause-sent : goal.returns-in_ok-smallest-in-Ok-clause-sent
returns-in_ok-smallest-in-Ok-clause-sent g c =
    let s = c.args.subject in
    let limits : c.details.inside.limits.now ≡ c.args.details.now.limits = ap (λ (d : Details). d.limits) c.details.view_is in
    prints_one _ _ _ _ _
    (cut_report c.args.form c.args.question.now c.args.details.now s c.requires.kept _ _ _ c.requires.asked
    (c.has_costs-costed.ensures ∙ ap (λ (l : Limits). has_costs l.costs) c.limits.view_is ∙ ap (λ (l : Limits). has_costs l.costs) limits) c.in-Ok.ensures.open
    (subst (λ (l : Limits). marks_fault s.project.now s.graph.now l.fixed l.costs ≡ None) limits c.in-Ok.ensures.named)
    (c.in-Ok.ensures.fixed ∙ ap (λ (l : Limits). amounts_by s.project.now s.graph.now l.kept l.fixed l.costs) limits) (c.in_ok-smallest-in-Ok.ensures (is_whole c.args.question.now)))
    c.send.ensures

pub returns-in-Err-clause-sent : goal.returns-in-Err-clause-sent
returns-in-Err-clause-sent g c =
    let limits : c.details.inside.limits.now ≡ c.args.details.now.limits = ap (λ (d : Details). d.limits) c.details.view_is in
    prints_all _ _ _ _ c.refuse_cut.result
    (λ p is. hindered c.args.form c.args.question.now c.args.details.now c.args.subject c.requires.kept p c.requires.asked
    (subst (λ (l : Limits). IsHinderedKept c.args.form c.args.question.now l c.args.subject p) limits is))
    c.refuse_cut.ensures.sent
