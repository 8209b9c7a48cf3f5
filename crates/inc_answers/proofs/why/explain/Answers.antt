use Rattle.inc_answers.specs.Terms.{is_whole}
use Rattle.inc_answers.specs.WhyText.{IsWhyOf}
use Rattle.inc_answers.specs.Strictness.{Strict, strays_of}
use Rattle.inc_answers.proofs.QuestionLemmas.{of_graph, of_none}
use Rattle.inc_answers.proofs.WritingLemmas.{prints_all}
use Rattle.inc_answers.proofs.why.explain.Goals as goal

pub returns-in-Ok-clause-sent : goal.returns-in-Ok-clause-sent
returns-in-Ok-clause-sent g c =
    prints_all _ _ _ _ c.explain_strictly.result
    (λ p is. of_graph _ _ _ c.args.project.now (Strict (strays_of c.args.question.now) (IsWhyOf (is_whole c.args.question.now) c.args.fails c.args.most)) c.args.question.now p _ is (c.in-Ok.ensures.graph p))
    c.explain_strictly.ensures.sent

pub returns-in-Err-clause-sent : goal.returns-in-Err-clause-sent
returns-in-Err-clause-sent g c =
    prints_all _ _ _ _ c.refuse_question.result
    (λ p is. of_none _ _ _ c.args.project.now (Strict (strays_of c.args.question.now) (IsWhyOf (is_whole c.args.question.now) c.args.fails c.args.most)) c.args.question.now p (c.in-Err.ensures.stopped p is))
    c.refuse_question.ensures.sent
