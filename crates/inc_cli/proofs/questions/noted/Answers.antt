use Rattle.std.proofs.Common.{◌≡◌, ◌++◌, IfOk, List, map, subst, ℕ}
use Rattle.std.specs.Borrow.{Bor}
use Rattle.inc_args.specs.Views.{seen_question}
use Rattle.inc_graph.specs.Marks.{Cost, Mark}
use Rattle.inc_inputs.specs.QuestionNotes.{question_notes}
use Rattle.inc_cli.proofs.questions.noted.Goals as goal

pub returns : goal.returns
returns c =
    let files = (seen_question c.args.asking.question.now).files in
    let opened = c.args.opened.now in
    let marks = c.args.marks.now in
    let old = c.args.notes.items in
    subst (λ (ps : List (Bor (List ℕ))). IfOk c.with_question_notes.result (λ all. all.items ≡ old
    ++ question_notes c.args.project.now c.args.is_build files (map (λ p. p.now) ps) opened.firsts marks.without.items marks.fixed.items opened.costs.items)) c.deref.ensures.value
    (subst (λ (ws : List Mark). IfOk c.with_question_notes.result (λ all. all.items ≡ old
    ++ question_notes c.args.project.now c.args.is_build files (map (λ p. p.now) c.deref.result.now) opened.firsts ws marks.fixed.items opened.costs.items)) c.deref-2.ensures.value
    (subst (λ (fs : List Mark). IfOk c.with_question_notes.result (λ all. all.items ≡ old
    ++ question_notes c.args.project.now c.args.is_build files (map (λ p. p.now) c.deref.result.now) opened.firsts c.deref-2.result.now fs opened.costs.items)) c.deref-3.ensures.value
    (subst (λ (cs : List Cost). IfOk c.with_question_notes.result (λ all. all.items ≡ old
    ++ question_notes c.args.project.now c.args.is_build files (map (λ p. p.now) c.deref.result.now) opened.firsts c.deref-2.result.now c.deref-3.result.now cs)) c.deref-4.ensures.value
    c.with_question_notes.ensures)))
