use Rattle.std.proofs.Common.{[], length, refl}
use Rattle.inc_answers.specs.BlankText.{AreChangesOf}
use Rattle.inc_report.specs.ChangeForms.{text_in}
use Rattle.inc_answers.specs.CutText.{WithAmounts}
use Rattle.inc_answers.specs.KeptFiles.{OfKept}
use Rattle.inc_answers.specs.Printed.{Printed, answered}
use Rattle.inc_answers.specs.Strictness.{Strict, open_strays_of}
use Rattle.inc_report.proofs.BlankLemmas.{all_kept, of_kept, of_no_graph, fails_inner, kept_headline, refused_headline}
use Rattle.inc_answers.proofs.WritingLemmas.{prints_all}
use Rattle.inc_report.proofs.edits.separate.Goals as goal

pub separate_strictly-requires-clause-kept : goal.separate_strictly-requires-clause-kept
separate_strictly-requires-clause-kept g c =
    all_kept g.S.Sources.gives c.args.kept.now c.find_graph.new.sources c.args.project.now c.args.question.now c.in-Ok.graph c.in-Ok.ensures.known
    (length c.args.project.now.paths) c.requires refl (c.in-Ok.ensures.graph (answered []))

pub returns-in-Ok-clause-sent : goal.returns-in-Ok-clause-sent
returns-in-Ok-clause-sent g c =
    let layout = c.args.project.now in
    let q = c.args.question.now in
    let kept = c.find_graph.new.sources in
    prints_all (λ (p : Printed). OfKept kept.files layout (λ listing. Strict (open_strays_of q) (WithAmounts c.args.limits.now (AreChangesOf (text_in c.args.form) q.language listing)) layout c.in-Ok.graph p)) _ _ _ c.separate_strictly.result
    (λ p is. of_kept g.S.Sources.gives c.args.kept.now kept layout q (λ listing. Strict (open_strays_of q) (WithAmounts c.args.limits.now (AreChangesOf (text_in c.args.form) q.language listing))) p c.in-Ok.graph
    (length layout.paths) c.requires is (c.in-Ok.ensures.graph p))
    c.separate_strictly.ensures.sent

pub returns-in-Ok-clause-headline : goal.returns-in-Ok-clause-headline
returns-in-Ok-clause-headline g c =
    let layout = c.args.project.now in
    let q = c.args.question.now in
    let l = c.args.limits.now in
    let kept = c.find_graph.new.sources in
    prints_all (λ (p : Printed). OfKept kept.files layout (λ listing. Strict (open_strays_of q) (WithAmounts l (AreChangesOf (text_in c.args.form) q.language listing)) layout c.in-Ok.graph p)) _ _ _ c.separate_strictly.result
    (λ p is. kept_headline g.S.Sources.gives c.args.kept.now kept layout (text_in c.args.form) q l p c.in-Ok.graph (length layout.paths) c.requires c.in-Ok.ensures.known is (c.in-Ok.ensures.graph p))
    c.separate_strictly.ensures.sent

pub returns-in-Err-clause-sent : goal.returns-in-Err-clause-sent
returns-in-Err-clause-sent g c =
    let q = c.args.question.now in
    prints_all _ _ _ _ c.refuse_question.result
    (λ p is. of_no_graph g.S.Sources.gives c.args.kept.now c.find_graph.new.sources c.args.project.now q (λ listing. Strict (open_strays_of q) (WithAmounts c.args.limits.now (AreChangesOf (text_in c.args.form) q.language listing))) p
    (c.in-Err.ensures.stopped p is))
    c.refuse_question.ensures.sent

pub returns-in-Err-clause-headline : goal.returns-in-Err-clause-headline
returns-in-Err-clause-headline g c =
    prints_all _ _ _ _ c.refuse_question.result
    (λ p is. refused_headline g.S.Sources.gives c.args.kept.now c.find_graph.new.sources c.args.project.now (text_in c.args.form) c.args.question.now c.args.limits.now p (c.in-Err.ensures.stopped p is))
    c.refuse_question.ensures.sent

pub returns-in-Err-clause-unread : goal.returns-in-Err-clause-unread
returns-in-Err-clause-unread g c =
    fails_inner g.S.Sources.gives c.args.kept.now c.find_graph.new.sources c.args.project.now c.args.question.now c.in-Err.cause c.refuse_question.result
    c.refuse_question.ensures.unread c.in-Err.ensures.unread
