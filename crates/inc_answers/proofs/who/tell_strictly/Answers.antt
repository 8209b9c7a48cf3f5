use Rattle.std.proofs.Common.{◌≡◌, ◌≢◌, ◌∙◌, List, [], ap, map, subst, sym}
use Rattle.inc_graph.specs.MissingLists.{Missing, missing_at}
use Rattle.inc_answers.specs.Strictness.{not_found, strays_of}
use Rattle.inc_answers.specs.Terms.{is_whole}
use Rattle.inc_answers.specs.WhoText.{IsWhoOf}
use Rattle.inc_answers.proofs.StrictLemmas.{none_by, some_at, some_by, unless_none, unless_some}
use Rattle.inc_answers.proofs.WritingLemmas.{prints_all}
use Rattle.inc_answers.proofs.who.tell_strictly.Goals as goal

pub returns-then-is_empty-clause-sent : goal.returns-then-is_empty-clause-sent
returns-then-is_empty-clause-sent g c =
    let none : c.in_ok-strays.strays.items ≡ [] = none_by c.in_ok-strays.strays.items c.in_ok-strays.strays.len c.in_ok-strays.strays.ok.0 (sym c.is_empty.ensures ∙ c.if-is_empty.true) in
    let ms = c.args.graph.now.missing in
    prints_all _ _ _ _ c.tell_graph.result
    (λ p is. unless_none c.args.project.now (strays_of c.args.question.now c.args.graph.now) (IsWhoOf (is_whole c.args.question.now) c.args.with_chains c.args.fails c.args.most c.args.project.now c.args.graph.now) p
    (sym c.in_ok-strays.ensures.strays ∙ ap (map (missing_at ms)) none) is)
    c.tell_graph.ensures.sent

pub returns-clause-sent : goal.returns-clause-sent
returns-clause-sent g c =
    let some : c.in_ok-strays.strays.items ≢ [] = some_by c.in_ok-strays.strays.items c.in_ok-strays.strays.len c.in_ok-strays.strays.ok.0 (sym c.is_empty.ensures ∙ c.if-is_empty.false) in
    let ms = c.args.graph.now.missing in
    let there = subst (λ (l : List Missing). l ≢ []) c.in_ok-strays.ensures.strays (some_at ms c.in_ok-strays.strays.items some) in
    prints_all _ _ _ _ c.refuse_strays.result
    (λ p is. unless_some c.args.project.now (strays_of c.args.question.now c.args.graph.now) (IsWhoOf (is_whole c.args.question.now) c.args.with_chains c.args.fails c.args.most c.args.project.now c.args.graph.now) p there
    (is ∙ ap (not_found c.args.project.now) (ap (map (missing_at ms)) c.deref.ensures.value ∙ c.in_ok-strays.ensures.strays)))
    c.refuse_strays.ensures.sent
