use Rattle.inc_lookup.proofs.GivenLemmas.{given_all}
use Rattle.inc_answers.specs.CutText.{WithAmounts, IsCutOf}
use Rattle.inc_answers.specs.Fitting.{IsFitCutOf}
use Rattle.inc_answers.specs.Strictness.{Strict, open_strays_of}
use Rattle.inc_report.proofs.HeadlineLemmas.{cut_headline, fit_strictly}
use Rattle.inc_report.proofs.KnownParts.{OfKnown}
use Rattle.inc_answers.proofs.QuestionLemmas.{of_graph, of_none}
use Rattle.inc_answers.proofs.WritingLemmas.{prints_all}
use Rattle.inc_report.proofs.cut.separate.Goals as goal

pub returns-in-Ok-clause-sent : goal.returns-in-Ok-clause-sent
returns-in-Ok-clause-sent g c =
    let layout = c.args.project.now in
    let limits = c.args.limits.now in
    prints_all _ _ _ _ c.separate_strictly.result
    (λ p is. of_graph _ _ _ layout (Strict (open_strays_of c.args.question.now) (WithAmounts limits IsCutOf)) c.args.question.now p _ (fit_strictly c.args.question.now limits layout c.in-Ok.graph p is) (c.in-Ok.ensures.graph p))
    c.separate_strictly.ensures.sent

pub returns-in-Ok-clause-headline : goal.returns-in-Ok-clause-headline
returns-in-Ok-clause-headline g c =
    let limits = c.args.limits.now in
    let question = c.args.question.now in
    prints_all _ _ _ _ c.separate_strictly.result
    (λ p is. given_all
    (of_graph _ _ _ c.args.project.now (OfKnown (Strict (open_strays_of question) (WithAmounts limits IsFitCutOf))) question p _ (c.in-Ok.ensures.known, is) (c.in-Ok.ensures.graph p))
    (λ given listing laid holds. cut_headline question limits p given listing holds))
    c.separate_strictly.ensures.sent

pub returns-in-Err-clause-sent : goal.returns-in-Err-clause-sent
returns-in-Err-clause-sent g c =
    prints_all _ _ _ _ c.refuse_question.result
    (λ p is. of_none _ _ _ c.args.project.now (Strict (open_strays_of c.args.question.now) (WithAmounts c.args.limits.now IsCutOf)) c.args.question.now p (c.in-Err.ensures.stopped p is))
    c.refuse_question.ensures.sent

pub returns-in-Err-clause-headline : goal.returns-in-Err-clause-headline
returns-in-Err-clause-headline g c =
    let limits = c.args.limits.now in
    let question = c.args.question.now in
    prints_all _ _ _ _ c.refuse_question.result
    (λ p is. given_all
    (of_none _ _ _ c.args.project.now (OfKnown (Strict (open_strays_of question) (WithAmounts limits IsFitCutOf))) question p (c.in-Err.ensures.stopped p is))
    (λ given listing laid holds. cut_headline question limits p given listing holds))
    c.refuse_question.ensures.sent
