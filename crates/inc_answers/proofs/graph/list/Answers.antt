use Rattle.inc_answers.specs.GraphText.{IsGraphOf}
use Rattle.inc_answers.specs.Strictness.{Strict, strays_of}
use Rattle.inc_answers.proofs.QuestionLemmas.{of_graph, of_none}
use Rattle.inc_answers.proofs.WritingLemmas.{prints_all}
use Rattle.inc_answers.proofs.graph.list.Goals as goal

pub returns-in-Ok-clause-sent : goal.returns-in-Ok-clause-sent
returns-in-Ok-clause-sent g c =
    prints_all _ _ _ _ c.list_strictly.result
    (λ p is. of_graph _ _ _ c.args.project.now (Strict (strays_of c.args.question.now) IsGraphOf) c.args.question.now p _ is (c.in-Ok.ensures.graph p))
    c.list_strictly.ensures.sent

pub returns-in-Err-clause-sent : goal.returns-in-Err-clause-sent
returns-in-Err-clause-sent g c =
    prints_all _ _ _ _ c.refuse_question.result
    (λ p is. of_none _ _ _ c.args.project.now (Strict (strays_of c.args.question.now) IsGraphOf) c.args.question.now p (c.in-Err.ensures.stopped p is))
    c.refuse_question.ensures.sent
