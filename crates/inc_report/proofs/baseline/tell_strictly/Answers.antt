use Rattle.std.proofs.Common.{◌≡◌, ◌≢◌, ◌∙◌, List, [], Some, ap, map, subst, sym}
use Rattle.std.proofs.lemmas.Option.{none-some, same_Some}
use Rattle.inc_graph.specs.MissingLists.{Missing, missing_at}
use Rattle.inc_answers.specs.RuleViews.{seen_list}
use Rattle.inc_answers.specs.Strictness.{not_found}
use Rattle.inc_answers.specs.declared.asked.Asked.TheVariants as asked
use Rattle.inc_report.specs.declared.named.Format.{Format}
use Rattle.inc_report.specs.declared.named.Format.TheVariants.{Json}
use Rattle.inc_report.proofs.BaselineLemmas.{answered_kept, strays_object, strays_text}
use Rattle.inc_report.proofs.NamedLemmas.{no_object}
use Rattle.inc_answers.proofs.StrictLemmas.{none_by, refused_object, some_at, some_by}
use Rattle.inc_answers.proofs.WritingLemmas.{prints_all, prints_one}
use Rattle.inc_report.proofs.baseline.tell_strictly.Goals as goal

pub returns-then-is_empty-clause-sent : goal.returns-then-is_empty-clause-sent
returns-then-is_empty-clause-sent g c =
    let none : c.in_ok-strays.strays.items ≡ [] = none_by c.in_ok-strays.strays.items c.in_ok-strays.strays.len c.in_ok-strays.strays.ok.0 (sym c.is_empty.ensures ∙ c.if-is_empty.true) in
    prints_all _ _ _ _ c.tell_graph.result
    (λ p is. answered_kept c.args.format (seen_list c.args.list) c.args.question.now c.args.subject c.requires.kept p
    (sym c.in_ok-strays.ensures.strays ∙ ap (map (missing_at c.args.subject.graph.now.missing)) none) is)
    c.tell_graph.ensures.sent

pub returns-in-None-clause-sent : goal.returns-in-None-clause-sent
returns-in-None-clause-sent g c =
    let ms = c.args.subject.graph.now.missing in
    let some : c.in_ok-strays.strays.items ≢ [] = some_by c.in_ok-strays.strays.items c.in_ok-strays.strays.len c.in_ok-strays.strays.ok.0 (sym c.is_empty.ensures ∙ c.if-is_empty.false) in
    let there = subst (λ (l : List Missing). l ≢ []) c.in_ok-strays.ensures.strays (some_at ms c.in_ok-strays.strays.items some) in
    prints_all _ _ _ _ c.refuse_strays.result
    (λ p is. strays_text c.args.format (seen_list c.args.list) c.args.question.now c.args.subject c.requires.kept p there
    (λ same. none-some Json (sym c.in-None.is ∙ same))
    (is ∙ ap (not_found c.args.subject.project.now) (ap (map (missing_at ms)) c.deref.ensures.value ∙ c.in_ok-strays.ensures.strays)))
    c.refuse_strays.ensures.sent

pub returns-in-Gcc-clause-sent : goal.returns-in-Gcc-clause-sent
returns-in-Gcc-clause-sent g c =
    let ms = c.args.subject.graph.now.missing in
    let some : c.in_ok-strays.strays.items ≢ [] = some_by c.in_ok-strays.strays.items c.in_ok-strays.strays.len c.in_ok-strays.strays.ok.0 (sym c.is_empty.ensures ∙ c.if-is_empty.false) in
    let there = subst (λ (l : List Missing). l ≢ []) c.in_ok-strays.ensures.strays (some_at ms c.in_ok-strays.strays.items some) in
    prints_all _ _ _ _ c.refuse_strays-in-Gcc.result
    (λ p is. strays_text c.args.format (seen_list c.args.list) c.args.question.now c.args.subject c.requires.kept p there
    (λ same. no_object c.in-Some.format c.in-Gcc.is (same_Some c.in-Some.format Json (sym c.in-Some.is ∙ same)))
    (is ∙ ap (not_found c.args.subject.project.now) (ap (map (missing_at ms)) c.deref-in-Gcc.ensures.value ∙ c.in_ok-strays.ensures.strays)))
    c.refuse_strays-in-Gcc.ensures.sent

pub returns-clause-sent : goal.returns-clause-sent
returns-clause-sent g c =
    let ms = c.args.subject.graph.now.missing in
    let some : c.in_ok-strays.strays.items ≢ [] = some_by c.in_ok-strays.strays.items c.in_ok-strays.strays.len c.in_ok-strays.strays.ok.0 (sym c.is_empty.ensures ∙ c.if-is_empty.false) in
    let there = subst (λ (l : List Missing). l ≢ []) c.in_ok-strays.ensures.strays (some_at ms c.in_ok-strays.strays.items some) in
    prints_one _ _ _ _ _
    (strays_object c.args.format (seen_list c.args.list) c.args.question.now c.args.subject c.requires.kept _ there (c.in-Some.is ∙ ap (λ (f : Format). Some f) c.in-Json.is)
    (c.in_ok-strays_report-in-Json.ensures ∙ ap (refused_object c.args.subject asked.Rules) (ap (map (missing_at ms)) c.deref-in-Json.ensures.value ∙ c.in_ok-strays.ensures.strays)))
    c.send.ensures
