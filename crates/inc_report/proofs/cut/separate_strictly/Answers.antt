use Rattle.std.proofs.Common.{◌≡◌, ◌≢◌, ◌∙◌, List, [], ap, map, subst, sym}
use Rattle.inc_graph.specs.MissingLists.{Missing, missing_at}
use Rattle.inc_answers.specs.CutText.{WithAmounts}
use Rattle.inc_answers.specs.Fitting.{IsFitCutOf}
use Rattle.inc_answers.specs.Strictness.{not_found, open_strays_of}
use Rattle.inc_answers.proofs.StrictLemmas.{none_by, some_at, some_by, unless_none, unless_some}
use Rattle.inc_answers.proofs.WritingLemmas.{prints_all}
use Rattle.inc_report.proofs.cut.separate_strictly.Goals as goal

pub returns-then-is_empty-clause-sent : goal.returns-then-is_empty-clause-sent
returns-then-is_empty-clause-sent g c =
    let none : c.in_ok-strays.strays.items ≡ [] = none_by c.in_ok-strays.strays.items c.in_ok-strays.strays.len c.in_ok-strays.strays.ok.0 (sym c.is_empty.ensures ∙ c.if-is_empty.true) in
    let layout = c.args.project.now in
    let graph = c.args.graph.now in
    prints_all _ _ _ _ c.separate_graph.result
    (λ p is. unless_none layout (open_strays_of c.args.question.now graph) (WithAmounts c.args.limits.now IsFitCutOf layout graph) p
    (sym c.in_ok-strays.ensures.strays ∙ ap (map (missing_at graph.missing)) none) is)
    c.separate_graph.ensures.sent

pub returns-clause-sent : goal.returns-clause-sent
returns-clause-sent g c =
    let some : c.in_ok-strays.strays.items ≢ [] = some_by c.in_ok-strays.strays.items c.in_ok-strays.strays.len c.in_ok-strays.strays.ok.0 (sym c.is_empty.ensures ∙ c.if-is_empty.false) in
    let layout = c.args.project.now in
    let graph = c.args.graph.now in
    let there = subst (λ (l : List Missing). l ≢ []) c.in_ok-strays.ensures.strays (some_at graph.missing c.in_ok-strays.strays.items some) in
    prints_all _ _ _ _ c.refuse_strays.result
    (λ p is. unless_some layout (open_strays_of c.args.question.now graph) (WithAmounts c.args.limits.now IsFitCutOf layout graph) p there
    (is ∙ ap (not_found layout) (ap (map (missing_at graph.missing)) c.deref.ensures.value ∙ c.in_ok-strays.ensures.strays)))
    c.refuse_strays.ensures.sent
