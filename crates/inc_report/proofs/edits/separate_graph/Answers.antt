use Rattle.inc_graph.specs.MarkedEdges.{amounts_by}
use Rattle.inc_answers.specs.BlankText.{AreChangesOf}
use Rattle.inc_report.specs.ChangeForms.{text_in}
use Rattle.inc_answers.specs.CutText.{marks_refusal}
use Rattle.inc_answers.proofs.CutLemmas.{unhindered}
use Rattle.inc_report.proofs.HeadlineLemmas.{unhindered_all}
use Rattle.inc_answers.proofs.WritingLemmas.{prints_all}
use Rattle.inc_report.proofs.edits.separate_graph.Goals as goal

pub returns-in-Ok-clause-sent : goal.returns-in-Ok-clause-sent
returns-in-Ok-clause-sent g c =
    prints_all _ _ _ _ c.send_smallest.result
    (λ p is. λ listing laid fits.
    unhindered (AreChangesOf (text_in c.args.form) c.args.language listing) c.args.project.now c.args.graph.now c.args.limits.now _ p c.in-Ok.ensures.open c.in-Ok.ensures.named c.in-Ok.ensures.fixed (is listing laid fits))
    c.send_smallest.ensures.sent

pub returns-in-Err-clause-sent : goal.returns-in-Err-clause-sent
returns-in-Err-clause-sent g c =
    let layout = c.args.project.now in
    let graph = c.args.graph.now in
    let l = c.args.limits.now in
    prints_all _ _ _ _ c.refuse_hindrance.result
    (λ p is. λ listing laid fits.
    unhindered_all layout graph.definitions graph.blockers (marks_refusal layout graph l.fixed l.costs) (λ q. ⊥) (AreChangesOf (text_in c.args.form) c.args.language listing layout graph (amounts_by layout graph l.kept l.fixed l.costs)) p
    (λ none. absurd none) is)
    c.refuse_hindrance.ensures.sent
