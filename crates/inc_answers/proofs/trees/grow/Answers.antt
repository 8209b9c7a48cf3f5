use Rattle.std.proofs.Common.{length, refl}
use Rattle.inc_answers.proofs.TreeReports.{trees_no_sized, trees_sized}
use Rattle.inc_answers.proofs.InnerSources.{fails_inner}
use Rattle.inc_answers.proofs.WritingLemmas.{prints_all}
use Rattle.inc_answers.proofs.trees.grow.Goals as goal

pub returns-in-Ok-clause-sent : goal.returns-in-Ok-clause-sent
returns-in-Ok-clause-sent g c =
    let sent = rw c.deref.ensures.value at c.grow_strictly.ensures.sent in
    prints_all _ _ _ _ c.grow_strictly.result
    (λ p is. trees_sized g.S.Sources.gives c.args.sized.now c.find_graph.new.sources c.args.project.now c.args.question.now c.in-Ok.graph p
    (length c.args.project.now.paths) c.requires refl c.in-Ok.ensures.known (c.in-Ok.ensures.graph p) c.args.form is)
    sent

pub returns-in-Err-clause-sent : goal.returns-in-Err-clause-sent
returns-in-Err-clause-sent g c =
    prints_all _ _ _ _ c.refuse_question.result
    (λ p is. trees_no_sized g.S.Sources.gives c.args.sized.now c.find_graph.new.sources c.args.project.now c.args.question.now c.args.form p (c.in-Err.ensures.stopped p is))
    c.refuse_question.ensures.sent

pub returns-in-Err-clause-unread : goal.returns-in-Err-clause-unread
returns-in-Err-clause-unread g c =
    fails_inner g.S.Sources.gives _ (λ s. s.sources) (λ old file bytes new h. h.0) c.find_graph.new.sources c.args.project.now c.args.question.now c.args.sized.now
    (λ state file h. h) (λ state file h. h) c.in-Err.cause c.refuse_question.result
    c.refuse_question.ensures.unread c.in-Err.ensures.unread
