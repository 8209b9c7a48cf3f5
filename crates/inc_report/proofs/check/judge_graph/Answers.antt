use Rattle.inc_graph.specs.MarkedEdges.{amounts_by}
use Rattle.inc_report.specs.CheckText.{IsCheckOf}
use Rattle.inc_answers.specs.CutText.{WithAmounts, marks_refusal}
use Rattle.inc_report.proofs.ByteLemmas.{any_bytes, bytes_all}
use Rattle.inc_answers.proofs.CutLemmas.{unhindered}
use Rattle.inc_report.proofs.HeadlineLemmas.{unhindered_all}
use Rattle.inc_answers.proofs.WritingLemmas.{prints_all}
use Rattle.inc_report.proofs.check.judge_graph.Goals as goal

pub returns-in-Ok-clause-sent : goal.returns-in-Ok-clause-sent
returns-in-Ok-clause-sent g c =
    prints_all _ _ _ _ c.judge_text.result
    (λ p is. bytes_all _ _ _
    (λ text told. unhindered (IsCheckOf text) c.args.project.now c.args.graph.now c.args.limits.now _ p c.in-Ok.ensures.open c.in-Ok.ensures.named c.in-Ok.ensures.fixed told) is)
    c.judge_text.ensures.sent

pub returns-in-Err-clause-sent : goal.returns-in-Err-clause-sent
returns-in-Err-clause-sent g c =
    let layout = c.args.project.now in
    let graph = c.args.graph.now in
    let l = c.args.limits.now in
    prints_all _ _ _ _ c.refuse_hindrance.result
    (λ p is. any_bytes (g.T.ByteSource.left c.args.certificate.now) (λ text. WithAmounts l (IsCheckOf text) layout graph p)
    (λ text. unhindered_all layout graph.definitions graph.blockers (marks_refusal layout graph l.fixed l.costs) (λ q. ⊥) (IsCheckOf text layout graph (amounts_by layout graph l.kept l.fixed l.costs)) p
    (λ none. absurd none) is))
    c.refuse_hindrance.ensures.sent
