use Rattle.inc_lookup.proofs.GivenLemmas.{given_all}
use Rattle.inc_report.specs.CheckText.{IsCheckOf}
use Rattle.inc_answers.specs.CutText.{WithAmounts}
use Rattle.inc_answers.specs.Strictness.{Strict, open_strays_of}
use Rattle.inc_report.proofs.ByteLemmas.{any_bytes, bytes_all}
use Rattle.inc_report.proofs.HeadlineLemmas.{check_headline}
use Rattle.inc_report.proofs.KnownParts.{OfKnown}
use Rattle.inc_answers.proofs.QuestionLemmas.{of_graph, of_none}
use Rattle.inc_answers.proofs.WritingLemmas.{prints_all}
use Rattle.inc_report.proofs.check.judge.Goals as goal

pub returns-in-Ok-clause-sent : goal.returns-in-Ok-clause-sent
returns-in-Ok-clause-sent g c =
    prints_all _ _ _ _ c.judge_strictly.result
    (λ p is. bytes_all _ _ _
    (λ text told. of_graph _ _ _ c.args.project.now (Strict (open_strays_of c.args.question.now) (WithAmounts c.args.limits.now (IsCheckOf text))) c.args.question.now p _ told (c.in-Ok.ensures.graph p)) is)
    c.judge_strictly.ensures.sent

pub returns-in-Ok-clause-headline : goal.returns-in-Ok-clause-headline
returns-in-Ok-clause-headline g c =
    let limits = c.args.limits.now in
    let question = c.args.question.now in
    prints_all _ _ _ _ c.judge_strictly.result
    (λ p is. bytes_all _ _ _
    (λ text told. given_all
    (of_graph _ _ _ c.args.project.now (OfKnown (Strict (open_strays_of question) (WithAmounts limits (IsCheckOf text)))) question p _ (c.in-Ok.ensures.known, told) (c.in-Ok.ensures.graph p))
    (λ given listing laid holds. check_headline question limits text p given listing holds)) is)
    c.judge_strictly.ensures.sent

pub returns-in-Err-clause-sent : goal.returns-in-Err-clause-sent
returns-in-Err-clause-sent g c =
    prints_all _ _ _ _ c.refuse_question.result
    (λ p is. any_bytes _ _
    (λ text. of_none _ _ _ c.args.project.now (Strict (open_strays_of c.args.question.now) (WithAmounts c.args.limits.now (IsCheckOf text))) c.args.question.now p (c.in-Err.ensures.stopped p is)))
    c.refuse_question.ensures.sent

pub returns-in-Err-clause-headline : goal.returns-in-Err-clause-headline
returns-in-Err-clause-headline g c =
    let limits = c.args.limits.now in
    let question = c.args.question.now in
    prints_all _ _ _ _ c.refuse_question.result
    (λ p is. any_bytes _ _
    (λ text. given_all
    (of_none _ _ _ c.args.project.now (OfKnown (Strict (open_strays_of question) (WithAmounts limits (IsCheckOf text)))) question p (c.in-Err.ensures.stopped p is))
    (λ given listing laid holds. check_headline question limits text p given listing holds)))
    c.refuse_question.ensures.sent
