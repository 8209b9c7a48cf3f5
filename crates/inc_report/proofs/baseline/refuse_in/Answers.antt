use Rattle.inc_report.proofs.BaselineLemmas.{shown_anyhow, shown_plain}
use Rattle.inc_answers.proofs.WritingLemmas.{prints_all}
use Rattle.inc_report.proofs.baseline.refuse_in.Goals as goal

pub returns-in-None-clause-sent : goal.returns-in-None-clause-sent
returns-in-None-clause-sent g c =
    prints_all _ _ _ _ c.refuse_question.result (λ p is. (p, is, shown_plain c.args.format p c.in-None.is)) c.refuse_question.ensures.sent

pub returns-in-Some-clause-sent : goal.returns-in-Some-clause-sent
returns-in-Some-clause-sent g c =
    prints_all _ _ _ _ c.refuse.result (λ p is. (is.0, is.1, shown_anyhow c.args.format c.in-Some.format is.0 p c.in-Some.is _ c.rules_form.ensures is.2)) c.refuse.ensures.sent
