use Rattle.inc_answers.specs.Fitting.{IsFitCutOf}
use Rattle.inc_answers.proofs.CutLemmas.{unhindered}
use Rattle.inc_answers.proofs.WritingLemmas.{prints_all}
use Rattle.inc_report.proofs.cut.separate_graph.Goals as goal

pub returns-in-Ok-clause-sent : goal.returns-in-Ok-clause-sent
returns-in-Ok-clause-sent g c =
    prints_all _ _ _ _ c.send_smallest.result
    (λ p is. unhindered IsFitCutOf c.args.project.now c.args.graph.now c.args.limits.now _ p c.in-Ok.ensures.open c.in-Ok.ensures.named c.in-Ok.ensures.fixed is)
    c.send_smallest.ensures.sent
