use Rattle.inc_answers.proofs.MarkReasonLemmas.{refused_memory}
use Rattle.inc_report.proofs.NamedLemmas.{by_all, by_mark}
use Rattle.inc_answers.proofs.WritingLemmas.{prints_all}
use Rattle.inc_report.proofs.named.refuse_cut.Goals as goal

pub returns-in-Blocked-clause-sent : goal.returns-in-Blocked-clause-sent
returns-in-Blocked-clause-sent g c =
    let some = (rw c.in-Blocked.is at c.requires.hindered) (λ e. cc) in
    prints_all _ _ _ _ c.refuse_blocked.result
    (λ p is. by_all c.args.form c.args.question.now c.args.limits.now c.args.subject c.requires.kept p some is) c.refuse_blocked.ensures.sent

pub returns-in_ok-reason-in-Some-clause-sent : goal.returns-in_ok-reason-in-Some-clause-sent
returns-in_ok-reason-in-Some-clause-sent g c =
    let l = c.args.limits.now in
    let hindered = (rw c.in-Marks.is at c.requires.hindered) (refused_memory l.fixed l.costs c.in-Marks.fault _ c.in-Some.ensures) in
    prints_all _ _ _ _ c.refuse_in.result
    (λ p is. by_mark c.args.form c.args.question.now l c.args.subject c.requires.kept p c.in-Marks.fault _ c.in-Some.refusal hindered.0 hindered.1 c.in-Some.ensures
    c.in_ok-reason-in-Some.ensures is)
    c.refuse_in.ensures.sent
