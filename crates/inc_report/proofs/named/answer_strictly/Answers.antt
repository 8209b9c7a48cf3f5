use Rattle.std.proofs.Common.{◌≡◌, ◌≢◌, ◌∙◌, List, [], ap, map, subst, sym}
use Rattle.inc_graph.specs.MissingLists.{Missing, missing_at}
use Rattle.inc_answers.specs.Strictness.{not_found}
use Rattle.inc_report.proofs.NamedLemmas.{no_object, strict_none, strict_object, strict_text}
use Rattle.inc_answers.proofs.StrictLemmas.{none_by, refused_object, some_at, some_by}
use Rattle.inc_answers.proofs.WritingLemmas.{prints_all, prints_one}
use Rattle.inc_report.proofs.named.answer_strictly.Goals as goal

pub returns-then-is_empty-clause-sent : goal.returns-then-is_empty-clause-sent
returns-then-is_empty-clause-sent g c =
    let none : c.in_ok-strays.strays.items ≡ [] = none_by c.in_ok-strays.strays.items c.in_ok-strays.strays.len c.in_ok-strays.strays.ok.0 (sym c.is_empty.ensures ∙ c.if-is_empty.true) in
    prints_all _ _ _ _ c.answer_graph.result
    (λ p is. strict_none c.args.form c.args.question.now c.args.details.now c.args.subject c.requires.kept p
    (sym c.in_ok-strays.ensures.strays ∙ ap (map (missing_at c.args.subject.graph.now.missing)) none) is)
    c.answer_graph.ensures.sent

pub returns-in-Gcc-clause-sent : goal.returns-in-Gcc-clause-sent
returns-in-Gcc-clause-sent g c =
    let ms = c.args.subject.graph.now.missing in
    let some : c.in_ok-strays.strays.items ≢ [] = some_by c.in_ok-strays.strays.items c.in_ok-strays.strays.len c.in_ok-strays.strays.ok.0 (sym c.is_empty.ensures ∙ c.if-is_empty.false) in
    let there = subst (λ (l : List Missing). l ≢ []) c.in_ok-strays.ensures.strays (some_at ms c.in_ok-strays.strays.items some) in
    prints_all _ _ _ _ c.refuse_strays.result
    (λ p is. strict_text c.args.form c.args.question.now c.args.details.now c.args.subject c.requires.kept p there (no_object c.args.form.format c.in-Gcc.is)
    (is ∙ ap (not_found c.args.subject.project.now) (ap (map (missing_at ms)) c.deref.ensures.value ∙ c.in_ok-strays.ensures.strays)))
    c.refuse_strays.ensures.sent

pub returns-clause-sent : goal.returns-clause-sent
returns-clause-sent g c =
    let ms = c.args.subject.graph.now.missing in
    let some : c.in_ok-strays.strays.items ≢ [] = some_by c.in_ok-strays.strays.items c.in_ok-strays.strays.len c.in_ok-strays.strays.ok.0 (sym c.is_empty.ensures ∙ c.if-is_empty.false) in
    let there = subst (λ (l : List Missing). l ≢ []) c.in_ok-strays.ensures.strays (some_at ms c.in_ok-strays.strays.items some) in
    prints_one _ _ _ _ _
    (strict_object c.args.form c.args.question.now c.args.details.now c.args.subject c.requires.kept _ there c.in-Json.is
    (c.in_ok-strays_report-in-Json.ensures ∙ ap (refused_object c.args.subject c.args.form.asked) (ap (map (missing_at ms)) c.deref-in-Json.ensures.value ∙ c.in_ok-strays.ensures.strays)))
    c.send.ensures
