use Rattle.inc_answers.proofs.QuestionLemmas.{stopped_early}
use Rattle.inc_answers.proofs.questions.find_graph.Goals as goal

pub returns-in-Err-clause-stopped : goal.returns-in-Err-clause-stopped
returns-in-Err-clause-stopped g c p is =
    stopped_early _ _ c.args.project.now c.args.question.now c.in-Err.cause p (λ l h q. ⊥) c.in-Err.ensures.cause is
